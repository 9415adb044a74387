use Rattle.std.proofs.Common.{◌≡◌, ◌<◌, ◌≤◌, ◌+◌, ◌*◌, ℕ, false}
use Rattle.std.specs.Prelude.{◌==◌, ◌&&◌}
use Rattle.mib_model.specs.Bits.{bit}
use Rattle.bit_writer.proofs.clash.common_in.Given as goal

abbrev pub invariant-loop-behind : goal.invariant-loop-behind
invariant-loop-behind l = (k : ℕ) → 8 * l.octet ≤ k → k < 8 * l.octet + l.behind → ((bit l.first k == 1) && (bit l.second k == 1)) ≡ false
