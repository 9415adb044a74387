use Rattle.std.proofs.Common.{◌+◌, ◌-◌, ◌^◌, ◌<◌, ◌≤◌, ◌*◌, ℕ, arith, get_or}
use Rattle.std.proofs.Math.Nat.{pow-le-pow_right}
use Rattle.std.proofs.lemmas.Grind.{common_steps}
use Rattle.dec_num.proofs.DigitFacts.{digit_at-small, power-more}
use Rattle.build_asks.proofs.ask.short_number.Goals as goal

-- with one digit more it is still one of 19
few : (v d k : ℕ) → v < 10 ^ k → d < 10 → k < 19 → 10 * v + d < 2 ^ 64
few v d k below digit inside =
    let fewer : k + 1 ≤ 19 = omega (arith, inside) in
    let most : 10 ^ (k + 1) ≤ 10 ^ 19 = pow-le-pow_right {n = 10} (omega arith) fewer in
    omega (arith, power-more v d k below digit, most)

pub overflow_mul-number : goal.overflow_mul-number
overflow_mul-number c =
    let most = few c.loop-digit.number 0 c.loop-digit.digit-index c.loop-digit.invariant.within (omega arith) (omega (arith, c.loop-digit-test.true, c.requires.short)) in omega (arith, most)

pub overflow_add-number : goal.overflow_add-number
overflow_add-number c =
    let digit : get_or c.args.digits.now c.loop-digit.digit-index 0 - 48 < 10 = digit_at-small c.args.digits.now c.loop-digit.digit-index c.loop-digit-test.true c.requires.digits in
    let most =
    few c.loop-digit.number (get_or c.args.digits.now c.loop-digit.digit-index 0 - 48) c.loop-digit.digit-index c.loop-digit.invariant.within digit (omega (arith, c.loop-digit-test.true, c.requires.short)) in
    omega (arith, c.from.ensures, most)

pub loop-digit-preserved : goal.loop-digit-preserved
loop-digit-preserved c = record {
  value = grind (arith, common_steps);
  within =
      let digit : get_or c.args.digits.now c.loop-digit.digit-index 0 - 48 < 10 = digit_at-small c.args.digits.now c.loop-digit.digit-index c.loop-digit-test.true c.requires.digits in
      rw c.from.ensures (power-more c.loop-digit.number (get_or c.args.digits.now c.loop-digit.digit-index 0 - 48) c.loop-digit.digit-index c.loop-digit.invariant.within digit);
}
