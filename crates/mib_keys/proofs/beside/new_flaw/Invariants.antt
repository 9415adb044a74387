use Rattle.std.proofs.Common.{◌≡◌, drop}
use Rattle.mib_model.specs.Points.{first_of}
use Rattle.mib_model.specs.Soundness.{first_flaw, flaws_of}
use Rattle.mib_keys.specs.Firsts.{first_over}
use Rattle.mib_keys.proofs.beside.new_flaw.Given as goal

abbrev pub invariant-loop-kind : goal.invariant-loop-kind
invariant-loop-kind l = first_flaw l.book ≡ first_over (λ k. first_of (flaws_of l.book k)) (drop l.kind-index l.kind-items)
