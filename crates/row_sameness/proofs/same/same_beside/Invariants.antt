use Rattle.std.proofs.Common.{◌≡◌, length, drop}
use Rattle.std.specs.Cmp.Lexicographic.{pointwise}
use Rattle.row_sameness.proofs.same.same_beside.Given as goal

abbrev pub invariant-loop-old : goal.invariant-loop-old
invariant-loop-old g l =
    pointwise g.R.Same.same l.fn.old l.fn.new ≡ pointwise g.R.Same.same (drop (length l.yielded) l.fn.old) (drop (length l.yielded) l.fn.new)
