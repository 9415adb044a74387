use Rattle.std.proofs.Common.{◌≡◌, ◌+◌, ◌*◌, ◌<◌, ◌^◌, take, fold}
use Rattle.mib_model.specs.WholeNumbers.{hex_digit_value}
use Rattle.dec_num.proofs.whole.value_in.Given as goal

abbrev pub invariant-loop-digit : goal.invariant-loop-digit
invariant-loop-digit l = record {
  value : l.value ≡ fold (λ value digit. l.base * value + hex_digit_value digit) 0 (take l.digit-index l.digits);
  within : l.value < 16 ^ l.digit-index;
}
