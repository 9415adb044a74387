use Rattle.std.proofs.Common.{◌≡◌, length}
use Rattle.mib_model.specs.Lines.{without_front}
use Rattle.dec_num.proofs.spaces.trim_front.Given as goal

abbrev pub invariant-loop-rest : goal.invariant-loop-rest
invariant-loop-rest l = without_front l.rest ≡ without_front l.octets

abbrev pub decreases-loop-rest : goal.decreases-loop-rest
decreases-loop-rest l = length l.rest
