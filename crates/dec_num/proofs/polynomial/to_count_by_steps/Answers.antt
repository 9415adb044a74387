use Rattle.std.proofs.Common.{◌≡◌, ◌∙◌, ap, to_z, of_z, w32, arith}
use Rattle.std.specs.Int.{w128}
use Rattle.std.specs.Prelude.{pos, ◌-ℤ◌}
use Rattle.std.proofs.lemmas.Int.{ints}
use Rattle.dec_num.proofs.LineFacts.{narrow-Some}
use Rattle.dec_num.specs.Narrow.{narrow_result}
use Rattle.mib_model.specs.Counts.{times_power}
use Rattle.dec_num.proofs.polynomial.to_count_by_steps.Goals as goal

pub returns : goal.returns
returns c =
    let scaled : to_z w128 (of_z w128 c.in_ok-times_power.field-0) ≡ c.in_ok-times_power.field-0 = omega (arith, ints) in
    let sum : to_z w128 (of_z w128 c.args.sum) ≡ c.args.sum = omega (arith, ints) in
    let from : to_z w32 (of_z w32 c.from.result) ≡ pos c.args.scale = omega (arith, ints) in
    let exponent : to_z w32 (of_z w32 (pos 12 -ℤ pos c.args.scale)) ≡ pos 12 -ℤ pos c.args.scale = omega (arith, ints) in
    let value = rw (sum, from, exponent) at c.in_ok-times_power.ensures.value in
    (rw scaled at c.outcome.ensures) ∙ ap narrow_result (narrow-Some (times_power c.args.sum (pos 12 -ℤ pos c.args.scale)) c.in_ok-times_power.field-0 value).1
