use Rattle.std.proofs.Common.{◌≤◌, ◌<◌, arith, length}
use Rattle.std.specs.Arc.{arc_value}
use Rattle.param_state.specs.Demands.{slice_asks}
use Rattle.param_state.proofs.NamedFacts.{plan-there}
use Rattle.param_state.proofs.DemandFacts.{notes-all, notes-next}
use Rattle.param_state.proofs.demands.Noting.note_all.Goals as goal

pub loop-at-preserved : goal.loop-at-preserved
loop-at-preserved c =
    let params = c.args.params.now in
    let at = c.loop-at.at in
    let s = c.deref.result.now in
    let below : at < length params = omega (arith, c.loop-at-test.true, c.len-at-end.ensures.count) in
    notes-next slice_asks params params at s c.args.self.now.demands.items c.loop-at.self.demands.items c.note_plan.new.self.demands.items below
    (plan-there params at (arc_value c.plan.result.now) s c.deref.ensures c.plan.ensures) c.loop-at.invariant c.note_plan.ensures

pub returns : goal.returns
returns c =
    let params = c.args.params.now in
    let past : length params ≤ c.loop-at.at = omega (arith, c.loop-at-test.false, c.len-at-end.ensures.count) in
    notes-all slice_asks params params c.loop-at.at c.args.self.now.demands.items c.loop-at.self.demands.items past c.loop-at.invariant
