use Rattle.std.proofs.Common.{◌≡◌, ◌-◌, vec_len}
use Rattle.decode_session.proofs.ahead.DrawnAhead.pass.Given as goal

abbrev pub invariant-loop-self : goal.invariant-loop-self
invariant-loop-self l = l.self.jobs ≡ l.initial.self.jobs

abbrev pub decreases-loop-self : goal.decreases-loop-self
decreases-loop-self l = vec_len l.self.jobs - l.self.next
