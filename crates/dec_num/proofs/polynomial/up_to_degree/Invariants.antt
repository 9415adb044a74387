use Rattle.std.proofs.Common.{◌≡◌, ◌≤◌, length}
use Rattle.dec_num.specs.Sums.{without_zeros}
use Rattle.dec_num.proofs.polynomial.up_to_degree.Given as goal

abbrev pub invariant-loop-rest : goal.invariant-loop-rest
invariant-loop-rest l = record { same : without_zeros l.rest ≡ without_zeros l.coefficients; few : length l.rest ≤ 4 }

abbrev pub decreases-loop-rest : goal.decreases-loop-rest
decreases-loop-rest l = length l.rest
