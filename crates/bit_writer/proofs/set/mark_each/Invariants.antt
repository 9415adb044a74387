use Rattle.std.proofs.Common.{◌≡◌, ◌*◌, ℕ, cond, nat_lt}
use Rattle.std.specs.Prelude.{◌&&◌}
use Rattle.mib_model.specs.Bits.{bit}
use Rattle.bit_writer.specs.Writes.{sets}
use Rattle.bit_writer.proofs.set.mark_each.Given as goal

abbrev pub invariant-loop-octet : goal.invariant-loop-octet
invariant-loop-octet l =
    ((j : ℕ) → bit l.ones j ≡ cond (nat_lt j (8 * l.octet) && sets 1 j l.write) 1 (bit l.initial.ones j))
    × ((j : ℕ) → bit l.zeros j ≡ cond (nat_lt j (8 * l.octet) && sets 0 j l.write) 1 (bit l.initial.zeros j))
