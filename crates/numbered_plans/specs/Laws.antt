-- What the kinds of plans keep: no plan differs from itself, a plan is found by one of its kind's numbers, and no rows have none.
use Rattle.std.proofs.Common.{◌≡◌, ℤ, pos, Bool, true, false, cond, ◌||◌, List, [], ◌∷◌, filter, map, Option, Some, None, option_map, refl, sym, ap, ◌∙◌}
use Rattle.std.specs.List.{find, list_any}
use Rattle.std.specs.Option.{option_eq}
use Rattle.std.specs.Ordering.{int_eq}
use Rattle.edition_plans.specs.Layouts.{layout_slice}
use Rattle.layout_plan.specs.Slices.{LayoutRows}
use Rattle.mib_model.specs.declared.database.Database.{Database}
use Rattle.mib_model.specs.declared.rows.PidRow.{PidRow}
use Rattle.mib_model.specs.declared.rows.VpdRow.{VpdRow}
use Rattle.mib_model.specs.Database.{no_rows}
use Rattle.mib_model.specs.Fixed.{has_layout}
use Rattle.mib_model.specs.LayoutTables.{plf, plf_cells, vpd, vpd_cells}
use Rattle.mib_model.specs.Orders.{insert_by, sorted_by}
use Rattle.mib_model.specs.PacketTables.{pid, pid_cells}
use Rattle.mib_model.specs.SameRows.{same_plf, same_vpd}
use Rattle.mib_model.specs.Structures.{structure}
use Rattle.mib_model.specs.Touched.{same_slice, same_type_item}
use Rattle.row_laws.proofs.SameFacts.{same_values-Decides}
use Rattle.struct_plan.specs.Slices.{StructureRows, some_rows, structure_found, with_types}
use Rattle.type_items.proofs.SameFacts.{same-item, same-lists}
use Rattle.numbered_plans.specs.Layouts.{laid_out, laid_spids, layout_numbered, same_layout}
use Rattle.numbered_plans.specs.Numbered.{found_among}
use Rattle.numbered_plans.specs.Structures.{same_structure, structure_slice, tpsds}

-- what is compiled of the same is the same
pub same-layout : (s : LayoutRows) → same_layout s s ≡ true
unfolding same_slice
same-layout s =
    rw ((same_values-Decides pid (pid_cells s.pid) (pid_cells s.pid)).1 refl, same-lists same_plf (λ r. (same_values-Decides plf (plf_cells r) (plf_cells r)).1 refl) s.plfs)
    (same-lists same_type_item same-item s.types)

none-laid : (rows : List PidRow) (q : ℤ) → list_any (λ n. int_eq (pos n) q) (laid_spids rows) ≡ false → find (λ row. option_eq int_eq (laid_out row) (Some q)) rows ≡ None
none-laid [] q h = refl
none-laid (r ∷ rs) q h = go (has_layout r) h (none-laid rs q) where
  among : List PidRow → Bool
  among rows = list_any (λ n. int_eq (pos n) q) (map (λ row. row.spid) rows)

  found : Option PidRow
  found = find (λ row. option_eq int_eq (laid_out row) (Some q)) rs

  laid : (c : Bool) → (c || among (filter has_layout rs)) ≡ false → (among (filter has_layout rs) ≡ false → found ≡ None) → cond c (Some r) found ≡ None
  laid true h others = absurd (cc h)
  laid false h others = others h

  go : (b : Bool) → among (cond b (r ∷ filter has_layout rs) (filter has_layout rs)) ≡ false → (among (filter has_layout rs) ≡ false → found ≡ None)
      → cond (option_eq int_eq (cond b (Some (pos r.spid)) None) (Some q)) (Some r) found ≡ None
  go true h others = laid (int_eq (pos r.spid) q) h others
  go false h others = others h

-- all layouts are those of packets
pub layouts-covered : (db : Database) (q : ℤ) → found_among (layout_numbered db) (laid_spids db.pid) q ≡ layout_numbered db q
layouts-covered db q = go (list_any (λ n. int_eq (pos n) q) (laid_spids db.pid)) refl where
  go : (b : Bool) → list_any (λ n. int_eq (pos n) q) (laid_spids db.pid) ≡ b → cond b (layout_numbered db q) None ≡ layout_numbered db q
  go true e = refl
  go false e = sym (ap (option_map (layout_slice db)) (none-laid db.pid q e))

-- ---- structures

-- what is compiled of the same is the same
pub same-structure : (s : StructureRows) → same_structure s s ≡ true
unfolding same_slice
same-structure s =
    rw (same-lists same_vpd (λ r. (same_values-Decides vpd (vpd_cells r) (vpd_cells r)).1 refl) s.vpds) (same-lists same_type_item same-item s.types)

-- rows that are put in order are a structure where there are any
module _ (db : Database) (before : VpdRow → VpdRow → Bool) (test : VpdRow → Bool) where
  some_inserted : (x : VpdRow) (ys : List VpdRow) → some_rows db (insert_by before x ys) ≡ Some (with_types db (insert_by before x ys))
  some_inserted x [] = refl
  some_inserted x (y ∷ ys) = go (before x y) where
    go : (b : Bool) → some_rows db (cond b (x ∷ y ∷ ys) (y ∷ insert_by before x ys)) ≡ Some (with_types db (cond b (x ∷ y ∷ ys) (y ∷ insert_by before x ys)))
    go true = refl
    go false = refl

  some_sorted : (rows : List VpdRow) → cond (list_any test rows) (Some (with_types db (sorted_by before (filter test rows)))) None ≡ some_rows db (sorted_by before (filter test rows))
  unfolding sorted_by
  some_sorted [] = refl
  some_sorted (row ∷ rows) = go (test row) (some_sorted rows) where
    go : (b : Bool) → cond (list_any test rows) (Some (with_types db (sorted_by before (filter test rows)))) None ≡ some_rows db (sorted_by before (filter test rows))
        → cond (b || list_any test rows) (Some (with_types db (sorted_by before (cond b (row ∷ filter test rows) (filter test rows))))) None ≡ some_rows db (sorted_by before (cond b (row ∷ filter test rows) (filter test rows)))
    go true others = sym (some_inserted row (sorted_by before (filter test rows)))
    go false others = others

-- the structure of a TPSD where some rows are of it
pub found-all : (db : Database) (q : ℤ) → cond (list_any (λ row. int_eq (pos row.tpsd) q) db.vpd) (Some (structure_slice db q)) None ≡ structure_found db q
unfolding structure
found-all db q = some_sorted db _ (λ row. int_eq (pos row.tpsd) q) db.vpd

among-tpsds : (rows : List VpdRow) (q : ℤ) → list_any (λ n. int_eq (pos n) q) (map (λ row. row.tpsd) rows) ≡ list_any (λ row. int_eq (pos row.tpsd) q) rows
among-tpsds [] q = refl
among-tpsds (row ∷ rows) q = ap (λ b. int_eq (pos row.tpsd) q || b) (among-tpsds rows q)

-- all structures are those of rows
pub structures-covered : (db : Database) (q : ℤ) → found_among (structure_found db) (tpsds db.vpd) q ≡ structure_found db q
structures-covered db q = ap (λ b. cond b (structure_found db q) None) (among-tpsds db.vpd q) ∙ go (list_any (λ row. int_eq (pos row.tpsd) q) db.vpd) (found-all db q) where
  go : (b : Bool) → cond b (Some (structure_slice db q)) None ≡ structure_found db q → cond b (structure_found db q) None ≡ structure_found db q
  go true found = refl
  go false none = none

-- a database without rows has no structures
pub no-structures : (tpsd : ℤ) → structure_found no_rows tpsd ≡ None
unfolding structure sorted_by
no-structures tpsd = refl
