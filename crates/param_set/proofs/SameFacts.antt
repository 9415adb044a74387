-- Rows that are the same are equal, and so are slices.
use Rattle.std.proofs.Common.{◌≡◌, Bool, true, false, ◌&&◌, Some, None, refl, ap}
use Rattle.std.proofs.lemmas.Bool.{false≢true}
use Rattle.std.specs.Cmp.Lexicographic.{pointwise}
use Rattle.std.specs.Option.{option_eq}
use Rattle.mib_model.specs.declared.plan.CurveRows.TheVariants.{Points, Texts, Poly, Log}
use Rattle.mib_model.specs.SameRows.{same_caf, same_cap, same_cur, same_ocf, same_ocp, same_pcf, same_txf, same_txp}
use Rattle.mib_model.specs.Touched.{same_curve, same_slice}
use Rattle.param_plan.specs.Slices.{ParamSlice, as_slice}
use Rattle.row_sameness.proofs.ListFacts.{equal-lists}
use Rattle.row_sameness.specs.Equal.{equal-caf, equal-cap, equal-cur, equal-lgf, equal-mcf, equal-ocf, equal-ocp, equal-pcf, equal-txf, equal-txp}

and-true : (a b : Bool) → (a && b) ≡ true → (a ≡ true) × (b ≡ true)
and-true true b both = (refl, both)
and-true false b both = absurd (false≢true both)

-- what passes a test is equal
abbrev Equates : {R : Type 0} → (R → R → Bool) → Type 0
Equates {R} same = (x y : R) → same x y ≡ true → x ≡ y

equal-options : {R : Type 0} (same : R → R → Bool) → Equates same → Equates (option_eq same)
equal-options same each None None h = refl
equal-options same each None (Some y) h = absurd (false≢true h)
equal-options same each (Some x) None h = absurd (false≢true h)
equal-options same each (Some x) (Some y) h = ap Some (each x y h)

equal-curves : Equates same_curve
equal-curves (Points row rows) (Points row2 rows2) h =
    let parts = and-true (same_caf row row2) (pointwise same_cap rows rows2) h in
    let first = equal-caf row row2 parts.0 in
    let rest = equal-lists same_cap equal-cap rows rows2 parts.1 in
    λ i. Points (first i) (rest i)
equal-curves (Texts row rows) (Texts row2 rows2) h =
    let parts = and-true (same_txf row row2) (pointwise same_txp rows rows2) h in
    let first = equal-txf row row2 parts.0 in
    let rest = equal-lists same_txp equal-txp rows rows2 parts.1 in
    λ i. Texts (first i) (rest i)
equal-curves (Poly row) (Poly row2) h = ap Poly (equal-mcf row row2 h)
equal-curves (Log row) (Log row2) h = ap Log (equal-lgf row row2 h)
equal-curves x y h = absurd (false≢true h)

-- slices of the same rows, in the same order, are equal
pub equal-slices : (s t : ParamSlice) → same_slice (as_slice s) (as_slice t) ≡ true → s ≡ t
unfolding same_slice
equal-slices s t h =
    let limits = and-true _ _ h in
    let checks = and-true _ _ limits.0 in
    let curves = and-true _ _ checks.0 in
    let rows = and-true (same_pcf s.pcf t.pcf) (pointwise same_cur s.curs t.curs) curves.0 in
    let own : s.pcf ≡ t.pcf = equal-pcf s.pcf t.pcf rows.0 in
    let selections : s.curs ≡ t.curs = equal-lists same_cur equal-cur s.curs t.curs rows.1 in
    let taken : s.curves ≡ t.curves = equal-lists (option_eq same_curve) (equal-options same_curve equal-curves) s.curves t.curves curves.1 in
    let check : s.ocf ≡ t.ocf = equal-options same_ocf equal-ocf s.ocf t.ocf checks.1 in
    let bounds : s.ocps ≡ t.ocps = equal-lists same_ocp equal-ocp s.ocps t.ocps limits.1 in
    λ i. record { pcf = own i; curs = selections i; curves = taken i; ocf = check i; ocps = bounds i }
