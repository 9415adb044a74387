use Rattle.std.proofs.Common.{◌≡◌, [], ap, ◌∙◌}
use Rattle.std.specs.List.{concat}
use Rattle.tm_drill.specs.Counts.{counts_of}
use Rattle.tm_drill.specs.Feed.{drill_packets}
use Rattle.mibtm_tool.proofs.DrillSteps.{run-printed}
use Rattle.mibtm_tool.proofs.drill.drill_counts.Goals as goal

pub returns-in-Ok : goal.returns-in-Ok
returns-in-Ok g c =
    let octets : c.new-replay.result.rest.now ≡ concat (drill_packets c.args.seed) = cc (c.new-replay.ensures, c.deref.ensures.value, c.in_ok-feed.ensures) in
    let start : c.new-counter.result.text ≡ [] = cc c.new-counter.ensures in
    c.counts.ensures ∙ ap counts_of
    (run-printed (g.P.Structures.tables c.args.plans.now) c.args.seed c.in-Ok.field-0 0 0 c.new-replay.result.rest.now c.decode_run.new.source.rest.now
    c.new-counter.result.text c.decode_run.new.out.text octets start c.in-Ok.ensures.ran)
