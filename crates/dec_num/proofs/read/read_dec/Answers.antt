use Rattle.std.proofs.Common.{◌≡◌, ◌-ℤ◌, pos, ◌++◌, ◌∙◌, length, arith}
use Rattle.std.proofs.lemmas.Int.{to_z-of_z}
use Rattle.mib_model.specs.Decimals.{scaled_from}
use Rattle.dec_num.proofs.ScaledFacts.{exponent-form, from_parts}
use Rattle.dec_num.proofs.read.read_dec.Goals as goal

pub returns : goal.returns
returns c =
    let whole = c.split_text.result.0.now in
    let fraction = c.split_text.result.1.now in
    let left = c.without_leading.result.0.now ++ c.without_leading.result.1.now in
    let minus = c.split_sign-minus.result.0 in
    let there : c.scaled_from.result ≡ scaled_from minus left c.lowered-exponent.result = grind (arith, to_z-of_z, c.scaled_from.ensures) in
    let shift : c.lowered-exponent.result ≡ c.in-Some.exponent -ℤ pos (length fraction) = grind (arith, to_z-of_z, c.lowered-exponent.ensures.value, c.in-Some.ensures.within) in
    let form = exponent-form c.args.text.now c.split_text.result.2 c.in-Some.exponent c.split_text.ensures.exponent c.split_text.ensures.marked c.in-Some.ensures.value in
    there ∙ from_parts c.args.text.now whole fraction left minus c.in-Some.exponent c.lowered-exponent.result c.split_text.ensures.whole c.split_text.ensures.fraction c.split_sign-minus.ensures.minus c.if-not-have_digits.ensures.both c.without_leading.ensures.left form shift
