use Rattle.std.proofs.Common.{◌≡◌, ◌<◌, ◌*◌, ℕ, false}
use Rattle.std.specs.Prelude.{◌==◌, ◌&&◌}
use Rattle.mib_model.specs.Bits.{bit}
use Rattle.bit_writer.proofs.clash.common_bit.Given as goal

abbrev pub invariant-loop-octet : goal.invariant-loop-octet
invariant-loop-octet l = (k : ℕ) → k < 8 * l.octet → ((bit l.first k == 1) && (bit l.second k == 1)) ≡ false
