-- The line through two points.
use Rattle.std.proofs.Common.{◌≡◌, true, false, None, Some, Err, sym, ap, ◌∙◌, arith}
use Rattle.std.specs.Prelude.{ℤ, ◌*ℤ◌, ◌+ℤ◌, ◌-ℤ◌, nat_abs, Bool, ◌||◌}
use Rattle.std.proofs.lemmas.Bool.Decides.{nat_tests}
use Rattle.mib_model.specs.Calibrated.{is_wide, bounded}
use Rattle.mib_model.specs.Counts.{half}
use Rattle.mib_model.specs.Points.{Knot, interpolated, product_of}
use Rattle.dec_num.specs.Narrow.{narrow}

pub narrow-None : (z : ℤ) → None ≡ narrow z → is_wide z ≡ true
narrow-None z e = grind (arith, nat_tests)

pub narrow-Some : (z w : ℤ) → Some w ≡ narrow z → (is_wide z ≡ false) × (w ≡ z)
narrow-Some z w e = grind (arith, nat_tests)

pub interpolated_over : (p q : Knot) (raw rise : ℤ) → Some rise ≡ narrow (q.y -ℤ p.y) → None ≡ narrow ((raw -ℤ p.x) *ℤ rise) → Err (record {}) ≡ interpolated p q raw
unfolding interpolated
interpolated_over p q raw rise narrow_rise wide =
    let same = (narrow-Some (q.y -ℤ p.y) rise narrow_rise).1 in
    let over : is_wide (product_of p q raw) ≡ true = ap (λ (r : ℤ). is_wide ((raw -ℤ p.x) *ℤ r)) (sym same) ∙ narrow-None ((raw -ℤ p.x) *ℤ rise) wide in
    grind (arith, nat_tests, over)

pub interpolated_some : (p q : Knot) (raw rise climb : ℤ) → Some rise ≡ narrow (q.y -ℤ p.y) → Some climb ≡ narrow ((raw -ℤ p.x) *ℤ rise)
    → bounded false (p.y +ℤ half climb (nat_abs (q.x -ℤ p.x))) ≡ interpolated p q raw
unfolding interpolated
interpolated_some p q raw rise climb narrow_rise narrow_climb =
    let facts = narrow-Some (q.y -ℤ p.y) rise narrow_rise in
    let more = narrow-Some ((raw -ℤ p.x) *ℤ rise) climb narrow_climb in
    let product : climb ≡ product_of p q raw = more.1 ∙ ap (λ (r : ℤ). (raw -ℤ p.x) *ℤ r) facts.1 in
    let low : is_wide (product_of p q raw) ≡ false = ap is_wide (sym product ∙ more.1) ∙ more.0 in
    let same : bounded false (p.y +ℤ half climb (nat_abs (q.x -ℤ p.x))) ≡ bounded false (p.y +ℤ half (product_of p q raw) (nat_abs (q.x -ℤ p.x))) =
    ap (λ (z : ℤ). bounded false (p.y +ℤ half z (nat_abs (q.x -ℤ p.x)))) product in
    let steps : (is_wide (q.y -ℤ p.y) || is_wide (product_of p q raw)) ≡ false = grind (arith, facts.0, low) in
    same ∙ ap (λ (b : Bool). bounded b (p.y +ℤ half (product_of p q raw) (nat_abs (q.x -ℤ p.x)))) (sym steps)
