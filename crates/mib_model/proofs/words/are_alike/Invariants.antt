use Rattle.std.proofs.Common.{◌≡◌, ◌*◌, take}
use Rattle.mib_model.proofs.words.are_alike.Given as goal

abbrev pub invariant-loop-k : goal.invariant-loop-k
invariant-loop-k l = take (8 * l.k) l.fn.a ≡ take (8 * l.k) l.fn.b
