use Rattle.std.proofs.Common.{◌≡◌, ◌<◌, ◌^◌}
use Rattle.mib_model.specs.Bits.{little_bits}
use Rattle.bit_field.proofs.value.little_behind.Given as goal

abbrev pub invariant-loop-i : goal.invariant-loop-i
invariant-loop-i l = record { value : l.value ≡ little_bits l.octets l.skip l.i; within : l.value < 256 ^ l.i }
