use Rattle.std.proofs.Common.{◌≡◌, ◌<◌, ◌^◌, ◌+◌, ◌-◌, ◌*◌, take}
use Rattle.std.specs.Prelude.{fold}
use Rattle.dec_num.proofs.digits.digits_behind.Given as goal

abbrev pub invariant-loop-digit : goal.invariant-loop-digit
invariant-loop-digit l = record {
  value : l.value ≡ fold (λ value digit. 10 * value + (digit - 48)) l.start (take l.digit-index l.digits);
  within : l.value < 10 ^ (l.before + l.digit-index);
}
