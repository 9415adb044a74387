use Rattle.std.proofs.Common.{◌≡◌, length, map, take}
use Rattle.mib_keys.proofs.read.are_alike_beside.Given as goal

abbrev pub invariant-loop-old : goal.invariant-loop-old
invariant-loop-old g l = map g.R.Read.read (take (length l.yielded) l.fn.old) ≡ map g.R.Read.read (take (length l.yielded) l.fn.new)
