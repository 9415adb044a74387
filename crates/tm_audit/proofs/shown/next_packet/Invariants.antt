use Rattle.std.proofs.Common.{◌≡◌, length}
use Rattle.tm_audit.specs.Shown as Spec
use Rattle.tm_audit.specs.TextLines.{text_lines}
use Rattle.tm_audit.proofs.shown.next_packet.Given as goal

abbrev pub decreases-loop-line : goal.decreases-loop-line
decreases-loop-line l = length l.rest

abbrev pub invariant-loop-line : goal.invariant-loop-line
invariant-loop-line l = Spec.editions_shown l.count l.first (text_lines l.text) ≡ Spec.editions_shown l.count l.edition (text_lines l.rest)
