-- The structures of a database, beside those of another, and its deduced parameters.
use Rattle.std.proofs.Common.{◌≡◌, ℕ, ◌+◌, ◌<◌, ℤ, pos, nat_eq, Bool, true, false, cond, ◌&&◌, ◌||◌, not, List, [], ◌∷◌, take, length, get_or, filter, map, Option, Some, None, option_map, if◌then◌else◌, refl, sym, ap, ◌∙◌}
use Rattle.std.specs.List.{find, list_any}
use Rattle.std.specs.Option.{option_eq, option_or}
use Rattle.std.specs.Ordering.{int_eq}
use Rattle.first_rows.proofs.FindFacts.{find-more}
use Rattle.mib_model.specs.declared.database.Database.{Database}
use Rattle.mib_model.specs.declared.rows.PcfRow.{PcfRow}
use Rattle.mib_model.specs.declared.rows.VpdRow.{VpdRow}
use Rattle.mib_model.specs.Parameters.{is_measured}
use Rattle.mib_model.specs.Plans.{distinct, type_item}
use Rattle.mib_model.specs.Structures.{deduced, is_deduced, structure}
use Rattle.struct_plan.specs.Slices.{deduced_item, some_rows, structure_found, with_types}
use Rattle.type_items.proofs.AlikeFacts.{items-alike}
use Rattle.numbered_plans.proofs.BuildingFacts.{agree-distinct, whole}
use Rattle.numbered_plans.proofs.NumberFacts.{in_order}
use Rattle.numbered_plans.specs.Laws.{found-all}
use Rattle.numbered_plans.specs.Numbered as Numbered
use Rattle.numbered_plans.specs.Numbered.{has_same, is_new_at}
use Rattle.numbered_plans.specs.Structures.{item_numbered, new_structures, number_of, same_structure, structure_slice, tpsds}

-- a structure that the base lacks, or has of other rows or type items
abbrev pub is_new : Database → Database → ℤ → Bool
is_new base db tpsd = not (has_same same_structure (structure_found base tpsd) (structure_slice db tpsd))

-- some row is of a structure where its TPSD is among theirs
pub held-same : (rows : List VpdRow) (tpsd : ℕ) → list_any (λ row. int_eq (pos row.tpsd) (pos tpsd)) rows ≡ list_any (λ m. nat_eq m tpsd) (map (λ row. row.tpsd) rows)
held-same [] tpsd = refl
held-same (row ∷ rows) tpsd = rw (whole row.tpsd tpsd) (ap (λ b. nat_eq row.tpsd tpsd || b) (held-same rows tpsd))

-- the new structures are those that the base lacks, or has of others
pub new-is : (base db : Database) → new_structures base db ≡ in_order (filter (λ tpsd. is_new base db (pos tpsd)) (distinct (tpsds db.vpd)))
new-is base db = ap in_order (agree-distinct (is_new_at same_structure (structure_found base) (structure_found db)) (λ tpsd. is_new base db (pos tpsd)) (tpsds db.vpd) (λ tpsd held.
    let there = held-same db.vpd tpsd ∙ held in
    let found : structure_found db (pos tpsd) ≡ Some (structure_slice db (pos tpsd)) = sym (found-all db (pos tpsd)) ∙ ap (λ b. cond b (Some (structure_slice db (pos tpsd))) None) there in
    ap (Numbered.is_new same_structure (structure_found base (pos tpsd))) found))

-- databases with the same rows of structures and the same type items have the same structures
module _ (old new : Database) (vpd : old.vpd ≡ new.vpd) (types : map type_item old.pcf ≡ map type_item new.pcf) where
  typed-alike : (rows : List VpdRow) → with_types old rows ≡ with_types new rows
  typed-alike rows =
      let items = items-alike old.pcf new.pcf types (map (λ r. r.name) rows) in
      λ i. record { vpds = rows; types = items i }

  some-alike : (rows : List VpdRow) → some_rows old rows ≡ some_rows new rows
  some-alike [] = refl
  some-alike (row ∷ rows) = ap Some (typed-alike (row ∷ rows))

  rows-alike : (tpsd : ℤ) → structure old tpsd ≡ structure new tpsd
  unfolding structure
  rows-alike tpsd = λ i. structure (record { pcf = new.pcf; pid = new.pid; pic = new.pic; tpcf = new.tpcf; plf = new.plf; vpd = vpd i; cur = new.cur; caf = new.caf; cap = new.cap; txf = new.txf; txp = new.txp; mcf = new.mcf; lgf = new.lgf; ocf = new.ocf; ocp = new.ocp }) tpsd

  pub structures-alike : (tpsd : ℤ) → structure_found old tpsd ≡ structure_found new tpsd
  structures-alike tpsd = some-alike (structure old tpsd) ∙ ap (some_rows new) (rows-alike tpsd)

-- ---- deduced parameters

-- tests that agree find the same
pub find-agree : {R : Type 0} (p q : R → Bool) → ((r : R) → p r ≡ q r) → (rows : List R) → find p rows ≡ find q rows
find-agree p q agree rows = λ i. find (λ r. agree r i) rows

numbered : (pid : ℤ) (b : Bool) (o : Option ℤ) → option_eq int_eq (cond b o None) (Some pid) ≡ (b && option_eq int_eq o (Some pid))
numbered pid true o = refl
numbered pid false o = refl

-- the type item of a deduced value's parameter is that of the first parameter of its number
pub deduced-found : (db : Database) (pid : ℤ) → item_numbered db.pcf pid ≡ deduced_item db pid
unfolding deduced
deduced-found db pid =
    ap (option_map type_item) (find-agree (λ row. option_eq int_eq (number_of row) (Some pid)) _ (λ row. numbered pid (is_measured row && not (is_deduced row)) (option_map pos row.pid)) db.pcf)

-- the type item of one parameter more, where none was found before it
item-or : (found : Option PcfRow) (b : Bool) (row : PcfRow)
    → option_map type_item (option_or found (if b then Some row else None)) ≡ option_or (option_map type_item found) (if b then Some (type_item row) else None)
item-or None true row = refl
item-or None false row = refl
item-or (Some other) b row = refl

-- one parameter more
pub item-more : (pid : ℤ) (pcfs : List PcfRow) (i : ℕ) (row : PcfRow) → i < length pcfs → row ≡ get_or pcfs i row
    → item_numbered (take (i + 1) pcfs) pid ≡ option_or (item_numbered (take i pcfs) pid) (if option_eq int_eq (number_of row) (Some pid) then Some (type_item row) else None)
item-more pid pcfs i row below is =
    let p : PcfRow → Bool = λ r. option_eq int_eq (number_of r) (Some pid) in
    ap (option_map type_item) (find-more p pcfs i row below is) ∙ item-or (find p (take i pcfs)) (p row) row
