use Rattle.std.proofs.Common.{◌∙◌, ap, sym}
use Rattle.std.specs.Arc.{arc_value}
use Rattle.edition_plans.specs.Params.{param_slices}
use Rattle.param_state.specs.ParamPlans.{plan_names}
use Rattle.desk.proofs.ShownFacts.{made-for}
use Rattle.desk.proofs.using.start.Goals as goal

pub returns : goal.returns
returns g c =
    let tables = ap g.E.Structures.tables (c.deref.ensures ∙ c.in_ok-handle.ensures) ∙ sym (c.requires.same (arc_value c.args.handle.now)) in (
      ap g.E.Rows.tables c.in_ok-handle.ensures,
      made-for _ c.in_ok-board.board (c.in_ok-board.ensures.names ∙ ap plan_names (c.params.ensures.slices ∙ ap param_slices tables)),
    )
