use Rattle.std.proofs.Common.{◌∙◌, ap, sym, Some, None}
use Rattle.std.proofs.lemmas.List.{append-nil}
use Rattle.curve_plan.proofs.PointFacts.{collected_same}
use Rattle.curve_plan.specs.Ranges.{range_of}
use Rattle.curve_plan.proofs.ranges.ranges_of.Goals as goal
use Rattle.curve_plan.proofs.ranges.ranges_of.Goals.{in-Some+in_ok-push, in_default}

pub loop-row-preserved : goal.loop-row-preserved
loop-row-preserved c = elim c.match-range_of.branch [
  | in-Some+in_ok-push w ↦ ap (λ v. v.items) w.ranges-is ∙ (w.in_ok-push.ensures.items ∙ collected_same range_of c.loop-row.ranges.items c.args.txps.now c.loop-row.row-index c.row-item.result (Some w.in-Some.range) c.loop-row-test.true c.row-item.is w.in-Some.ensures c.loop-row.invariant)
  | in_default w ↦ ap (λ v. v.items) w.ranges-is ∙ (sym (append-nil c.loop-row.ranges.items) ∙ collected_same range_of c.loop-row.ranges.items c.args.txps.now c.loop-row.row-index c.row-item.result None c.loop-row-test.true c.row-item.is w.in_default.ensures c.loop-row.invariant)
]
