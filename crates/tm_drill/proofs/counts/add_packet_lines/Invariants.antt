use Rattle.std.proofs.Common.{◌≡◌, ◌++◌}
use Rattle.tm_drill.specs.Counts.{packet_lines}
use Rattle.tm_drill.proofs.counts.add_packet_lines.Given as goal

abbrev pub invariant-loop-place : goal.invariant-loop-place
invariant-loop-place l = l.text.items ≡ l.initial.text.items ++ packet_lines l.counts l.place
