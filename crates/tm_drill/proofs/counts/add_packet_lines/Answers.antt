use Rattle.std.proofs.Common.{◌∙◌, ◌+◌, ◌++◌, ap, sym, append_assoc, get_or}
use Rattle.tm_drill.specs.Counts.{packet_line, packet_lines}
use Rattle.tm_drill.proofs.CountFacts.{packet-lines-more}
use Rattle.tm_drill.proofs.counts.add_packet_lines.Goals as goal

pub loop-place-preserved : goal.loop-place-preserved
loop-place-preserved c =
    let before = c.args.text.now.items in
    let counts = c.args.counts.now in
    let n = c.loop-place.place in
    let line = packet_line (n + 1) (get_or counts n 0) in
    c.in_ok-add_packet_line.ensures ∙ (ap (λ text. text ++ line) c.loop-place.invariant ∙ (append_assoc before (packet_lines counts n) line ∙ ap (λ lines. before ++ lines) (sym (packet-lines-more counts n))))
