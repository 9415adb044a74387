-- The test that two values are the same decides whether they are equal.
use Rattle.std.proofs.Common.{◌≡◌, Bool, ◌&&◌, List, [], ◌∷◌, Option, Some, None, refl, ap}
use Rattle.std.specs.Bool.{Decides}
use Rattle.std.specs.Option.{option_eq}
use Rattle.std.specs.Ordering.{int_eq}
use Rattle.std.specs.Str.{bytes_eq}
use Rattle.std.proofs.lemmas.Bool.Decides.{Decides-eqb, Decides-int_eq, Decides-like, Decides-and}
use Rattle.std.proofs.lemmas.Slice.Eq.{bytes_eq-Decides}
use Rattle.mib_model.specs.declared.number.Dec.{Dec}
use Rattle.mib_model.specs.declared.rows.Bound.{Bound}
use Rattle.mib_model.specs.declared.rows.Bound.TheVariants as bound
use Rattle.mib_model.specs.Forms.{Form, Named, Natural, Integer, Letter, Capital, Decimal, AnyText, Bounding, Content}
use Rattle.mib_model.specs.Columns.{Column, Must, Optional, Filled, Cell, Cells}
use Rattle.mib_model.specs.Sameness.{same_decimal, same_bound, same_content, same_cell, same_cells}

same_decimal-Decides : (x y : Dec) → Decides (same_decimal x y) (x ≡ y)
same_decimal-Decides x y = Decides-like (same_decimal x y) (λ (p : (x.m ≡ y.m) × (x.e ≡ y.e)). both x y p.0 p.1) (λ (p : x ≡ y). (ap (λ (d : Dec). d.m) p, ap (λ (d : Dec). d.e) p))
    (Decides-and (int_eq x.m y.m) (int_eq x.e y.e) (Decides-int_eq x.m y.m) (Decides-int_eq x.e y.e))
  where
    both : (x y : Dec) → x.m ≡ y.m → x.e ≡ y.e → x ≡ y
    both x y m e = λ i. record { m = m i; e = e i }

same_bound-Decides : (x y : Bound) → Decides (same_bound x y) (x ≡ y)
same_bound-Decides bound.Empty bound.Empty = (λ e. refl, λ e. refl)
same_bound-Decides bound.Empty (bound.Number d) = (λ e. cc, λ e. cc)
same_bound-Decides bound.Empty (bound.Words t) = (λ e. cc, λ e. cc)
same_bound-Decides (bound.Number d) bound.Empty = (λ e. cc, λ e. cc)
same_bound-Decides (bound.Number d) (bound.Words t) = (λ e. cc, λ e. cc)
same_bound-Decides (bound.Words t) bound.Empty = (λ e. cc, λ e. cc)
same_bound-Decides (bound.Words t) (bound.Number d) = (λ e. cc, λ e. cc)
same_bound-Decides (bound.Number d) (bound.Number e) = Decides-like (same_decimal d e) (λ (p : d ≡ e). ap bound.Number p) (λ (p : bound.Number d ≡ bound.Number e). cc) (same_decimal-Decides d e)
same_bound-Decides (bound.Words t) (bound.Words u) = Decides-like (bytes_eq t u) (λ (p : t ≡ u). ap bound.Words p) (λ (p : bound.Words t ≡ bound.Words u). cc) (bytes_eq-Decides t u)

same_content-Decides : (form : Form) (x y : Content form) → Decides (same_content form x y) (x ≡ y)
same_content-Decides Named x y = bytes_eq-Decides x y
same_content-Decides (Natural low high) x y = Decides-eqb x y
same_content-Decides (Integer low high) x y = Decides-int_eq x y
same_content-Decides (Letter letters) x y = Decides-eqb x y
same_content-Decides Capital x y = Decides-eqb x y
same_content-Decides Decimal x y = same_decimal-Decides x y
same_content-Decides AnyText x y = bytes_eq-Decides x y
same_content-Decides (Bounding states) x y = same_bound-Decides x y

some_Decides : {A : Type 0} (same : A → A → Bool) → ((x y : A) → Decides (same x y) (x ≡ y)) → (x y : Option A) → Decides (option_eq same x y) (x ≡ y)
some_Decides same each None None = (λ e. refl, λ e. refl)
some_Decides same each None (Some y) = (λ e. cc, λ e. cc)
some_Decides same each (Some x) None = (λ e. cc, λ e. cc)
some_Decides same each (Some x) (Some y) = Decides-like (same x y) (λ (p : x ≡ y). ap Some p) (λ (p : Some x ≡ Some y). cc) (each x y)

same_value-Decides : (column : Column) (x y : Cell column) → Decides (same_cell column x y) (x ≡ y)
same_value-Decides (Must number form) x y = same_content-Decides form x y
same_value-Decides (Optional number form) x y = some_Decides (same_content form) (same_content-Decides form) x y
same_value-Decides (Filled number form empty) x y = same_content-Decides form x y

-- the test of the values of all columns
pub same_values-Decides : (columns : List Column) (x y : Cells columns) → Decides (same_cells columns x y) (x ≡ y)
unfolding same_cells
same_values-Decides [] x y = (λ e. refl, λ e. refl)
same_values-Decides (column ∷ []) x y =
    Decides-like (same_cell column x.0 y.0) (λ (p : x.0 ≡ y.0). λ i. (p i, tt)) (λ (p : x ≡ y). ap (λ (v : Cells (column ∷ [])). v.0) p) (same_value-Decides column x.0 y.0)
same_values-Decides (column ∷ next ∷ columns) x y =
    Decides-like (same_cell column x.0 y.0 && same_cells (next ∷ columns) x.1 y.1) (λ (p : (x.0 ≡ y.0) × (x.1 ≡ y.1)). λ i. (p.0 i, p.1 i))
    (λ (p : x ≡ y). (ap (λ (v : Cells (column ∷ next ∷ columns)). v.0) p, ap (λ (v : Cells (column ∷ next ∷ columns)). v.1) p))
    (Decides-and (same_cell column x.0 y.0) (same_cells (next ∷ columns) x.1 y.1) (same_value-Decides column x.0 y.0) (same_values-Decides (next ∷ columns) x.1 y.1))
