-- Rows whose columns are the same are equal, and so are tables of them.
use Rattle.std.proofs.Common.{◌≡◌, Bool, true, false, ◌&&◌, List, [], ◌∷◌, refl, sym, ap, ◌∙◌}
use Rattle.std.specs.Bool.{Decides}
use Rattle.std.specs.Cmp.Lexicographic.{pointwise}
use Rattle.mib_model.specs.declared.rows.OcpRow.{OcpRow}
use Rattle.mib_model.specs.Columns.{Column, Cells}
use Rattle.mib_model.specs.ParameterTables.{ocp, ocp_cells, ocp_row}
use Rattle.mib_model.specs.RowTexts.{is_of_states}
use Rattle.mib_model.specs.Sameness.{same_cells}
use Rattle.mib_model.specs.SameRows.{same_ocp}
use Rattle.row_laws.proofs.SameFacts.{same_values-Decides}

both : (a b : Bool) → (a && b) ≡ true → (a ≡ true) × (b ≡ true)
both true b h = (refl, h)
both false b h = absurd (cc h)

module _ {R : Type 0} (same : R → R → Bool) (equal : (x y : R) → same x y ≡ true → x ≡ y) where
  equal-lists : (xs ys : List R) → pointwise same xs ys ≡ true → xs ≡ ys
  equal-lists [] [] h = refl
  equal-lists [] (y ∷ ys) h = absurd (cc h)
  equal-lists (x ∷ xs) [] h = absurd (cc h)
  equal-lists (x ∷ xs) (y ∷ ys) h =
      let parts = both (same x y) (pointwise same xs ys) h in
      let first : x ≡ y = equal x y parts.0 in
      let rest : xs ≡ ys = equal-lists xs ys parts.1 in
      λ i. first i ∷ rest i

  -- tables that were compared by a test that is this one
  equal-tables : {a b xs ys : List R} {test : R → R → Bool} {r : Bool} → xs ≡ a → ys ≡ b → r ≡ pointwise test xs ys → ((x y : R) → test x y ≡ same x y) → r ≡ true → a ≡ b
  equal-tables {a} {b} {xs} {ys} {test} {r} old new is each holds =
      sym old ∙ equal-lists xs ys ((λ i. pointwise (λ x y. sym (each x y) i) xs ys) ∙ sym is ∙ holds) ∙ new

module _ {R : Type 0} (same : R → R → Bool) (decides : (x y : R) → Decides (same x y) (x ≡ y)) where
  same-lists : (xs : List R) → pointwise same xs xs ≡ true
  same-lists [] = refl
  same-lists (x ∷ xs) = rw ((decides x x).1 refl) (same-lists xs)

  -- such a test tells of the tables whether they are equal
  pub tables-decide : {a b xs ys : List R} {test : R → R → Bool} {r : Bool} → xs ≡ a → ys ≡ b → r ≡ pointwise test xs ys → ((x y : R) → test x y ≡ same x y) → Decides r (a ≡ b)
  tables-decide {a} {b} {xs} {ys} {test} {r} old new is each = (
    equal-tables same (λ x y. (decides x y).0) old new is each,
    λ are. is ∙ (λ i. pointwise (λ x y. each x y i) xs ys) ∙ ap (pointwise same xs) (new ∙ sym are ∙ sym old) ∙ same-lists xs,
  )

module _ {R : Type 0} (columns : List Column) (cells : R → Cells columns) (row : Cells columns → R) where
  -- whether all columns of two rows are the same
  abbrev pub same_row : R → R → Bool
  same_row x y = same_cells columns (cells x) (cells y)

  -- rows of which all columns are the same
  equal-rows : ((x : R) → row (cells x) ≡ x) → (x y : R) → same_row x y ≡ true → x ≡ y
  equal-rows again x y h = sym (again x) ∙ (ap row ((same_values-Decides columns (cells x) (cells y)).0 h) ∙ again y)

  -- two rows are equal exactly where all their columns are the same
  pub rows-decide : ((x : R) → row (cells x) ≡ x) → (x y : R) → Decides (same_row x y) (x ≡ y)
  rows-decide again x y = (equal-rows again x y, λ e. (same_values-Decides columns (cells x) (cells y)).1 (ap cells e))

-- limits that are the same
pub limits-decide : (x y : OcpRow) → Decides (same_ocp x y) (x ≡ y)
limits-decide x y = let states = is_of_states x.sort in rows-decide (ocp states) (ocp_cells states) (ocp_row states) (λ x. refl) x y
