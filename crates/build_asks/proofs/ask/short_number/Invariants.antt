use Rattle.std.proofs.Common.{◌≡◌, ◌<◌, ◌^◌, ◌+◌, ◌-◌, ◌*◌, take}
use Rattle.std.specs.Prelude.{fold}
use Rattle.build_asks.proofs.ask.short_number.Given as goal

abbrev pub invariant-loop-digit : goal.invariant-loop-digit
invariant-loop-digit l = record {
  value : l.number ≡ fold (λ value digit. 10 * value + (digit - 48)) 0 (take l.digit-index l.digits);
  within : l.number < 10 ^ l.digit-index;
}
