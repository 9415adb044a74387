use Rattle.std.proofs.Common.{◌≡◌, ℕ, cond, take}
use Rattle.mib_model.specs.Bits.{bit}
use Rattle.bit_writer.specs.Writes.{is_set}
use Rattle.bit_writer.proofs.set.mark_all.Given as goal

abbrev pub invariant-loop-write : goal.invariant-loop-write
invariant-loop-write l =
    ((j : ℕ) → bit l.ones j ≡ cond (is_set 1 (take l.write-index l.writes) j) 1 (bit l.initial.ones j))
    × ((j : ℕ) → bit l.zeros j ≡ cond (is_set 0 (take l.write-index l.writes) j) 1 (bit l.initial.zeros j))
