use Rattle.std.proofs.Common.{◌≡◌, ◌+◌, ◌-◌, ◌<◌, arith, get_or}
use Rattle.std.proofs.lemmas.Grind.{common_steps}
use Rattle.dec_num.proofs.DigitFacts.{power-more, digit_at-small}
use Rattle.dec_num.proofs.digits.digits_behind.Goals as goal

pub loop-digit-preserved : goal.loop-digit-preserved
loop-digit-preserved c = record {
  value = grind (arith, common_steps);
  within =
      let k = c.args.before + c.loop-digit.digit-index in
      let next : c.args.before + (c.loop-digit.digit-index + 1) ≡ k + 1 = omega arith in
      let digit : get_or c.args.digits.now c.loop-digit.digit-index 0 - 48 < 10 = digit_at-small c.args.digits.now c.loop-digit.digit-index c.loop-digit-test.true c.requires.digits in
      rw (next, c.from.ensures) (power-more c.loop-digit.value (get_or c.args.digits.now c.loop-digit.digit-index 0 - 48) k c.loop-digit.invariant.within digit);
}
