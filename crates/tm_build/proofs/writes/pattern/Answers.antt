use Rattle.std.proofs.Common.{◌≡◌, ◌∙◌, ◌≤◌, ◌^◌, ℕ, ℤ, pos, neg_ℤ, ◌≤ℤ◌, true, false, sym, ap, subst, int_lt, nat_abs, T, arith}
use Rattle.std.proofs.lemmas.Int.{to_z-of_z}
use Rattle.bit_field.proofs.EncodingFacts.{encoding_facts}
use Rattle.tm_build.proofs.FitFacts.{below-zero, fits-above, fits-below, small-fits}
use Rattle.tm_build.proofs.writes.pattern.Goals as goal
use lib.Signed.{non_neg}
use mir.Val.{Fits, to_z, of_z}
use mir.Syntax.{w64, w128}

pub complement-requires-clause-few : goal.complement-requires-clause-few
complement-requires-clause-few c =
    let e = c.args.shape in
    let raw : to_z w128 (of_z w128 c.args.raw) ≡ c.args.raw = grind (arith, to_z-of_z) in
    let below = below-zero c.args.raw (ap (λ (n : ℤ). int_lt n (pos 0)) (sym raw) ∙ c.if-raw-lt0.true) in
    let few : e.width ≤ 64 = (fits-below e.sort e.width c.args.raw (encoding_facts e c.width-width.ensures.encoding).0 c.requires below).0 in
    subst (λ (n : ℕ). n ≤ 64) (sym c.width-width.ensures.value) few

pub complement-requires-clause-least : goal.complement-requires-clause-least
complement-requires-clause-least c =
    let e = c.args.shape in
    let raw : to_z w128 (of_z w128 c.args.raw) ≡ c.args.raw = grind (arith, to_z-of_z) in
    let below = below-zero c.args.raw (ap (λ (n : ℤ). int_lt n (pos 0)) (sym raw) ∙ c.if-raw-lt0.true) in
    let least = (fits-below e.sort e.width c.args.raw (encoding_facts e c.width-width.ensures.encoding).0 c.requires below).1 in
    subst (λ (n : ℤ). neg_ℤ (pos (2 ^ c.width-width.result)) ≤ℤ n) (sym raw) (subst (λ (n : ℕ). neg_ℤ (pos (2 ^ n)) ≤ℤ c.args.raw) (sym c.width-width.ensures.value) least)

pub overflow_cast-result : goal.overflow_cast-result
overflow_cast-result c =
    let e = c.args.shape in
    let raw : to_z w128 (of_z w128 c.args.raw) ≡ c.args.raw = grind (arith, to_z-of_z) in
    let above = fits-above e.sort e.width c.args.raw (encoding_facts e c.width-width.ensures.encoding).0 c.requires in
    subst (λ (n : ℤ). T (non_neg n) × Fits w64 (nat_abs n)) (sym raw) (small-fits c.args.raw (ap (λ (n : ℤ). int_lt n (pos 0)) (sym raw) ∙ c.if-raw-lt0.false) above)
