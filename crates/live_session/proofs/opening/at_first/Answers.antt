use Rattle.std.proofs.Common.{◌∙◌, ap, refl, sym}
use Rattle.std.specs.Arc.{arc_value}
use Rattle.desk.proofs.ShownFacts.{made-for}
use Rattle.edition_plans.specs.Params.{param_slices}
use Rattle.param_state.specs.ParamPlans.{plan_names}
use Rattle.live_session.proofs.opening.at_first.Goals as goal

pub returns-clause-start : goal.returns-clause-start
returns-clause-start g c =
    let tables = ap g.E.Structures.tables c.deref.ensures ∙ sym (c.requires.same (arc_value c.args.handle)) in
    (refl, made-for _ c.in_ok-board.board (c.in_ok-board.ensures.names ∙ ap plan_names (c.params.ensures.slices ∙ ap param_slices tables)))
