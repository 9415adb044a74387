use Rattle.std.proofs.Common.{◌∙◌, sym, ap}
use Rattle.layout_plan.proofs.LayoutFacts.{places-added, layout_places-none}
use Rattle.layout_plan.specs.Spans.{spans_places}
use Rattle.layout_plan.proofs.layout.spans_of.Goals as goal

pub loop-row-init : goal.loop-row-init
loop-row-init c = ap spans_places c.in_ok-spans.ensures.items ∙ sym (layout_places-none c.args.types.now)

pub loop-row-preserved : goal.loop-row-preserved
loop-row-preserved c =
    places-added _ _ c.args.plfs.now c.args.types.now c.loop-row.row-index c.row-item.result c.loop-row-test.true c.row-item.is c.in_ok-add_row.ensures c.loop-row.invariant
