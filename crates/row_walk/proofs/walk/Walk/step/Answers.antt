use Rattle.std.proofs.Common.{◌≡◌, subst}
use Rattle.mib_model.specs.Walk as Spec
use Rattle.mib_model.specs.Walk.{Walking}
use Rattle.row_walk.proofs.WalkFacts.{some-of, step-by, with-ok}
use Rattle.row_walk.specs.Walks.{led}
use Rattle.row_walk.proofs.walk.Walk.step.Goals as goal

pub returns-clause-step : goal.returns-clause-step
returns-clause-step c =
    with-ok c.on_row.result _ _
    (λ ended is. subst (λ (w : Walking). Spec.step c.args.rows.now c.args.packet.now w ≡ led ended c.on_row.new.self) c.self.view_is
    (step-by c.args.rows.now c.args.packet.now _ c.move_by.new.self _ _ c.next.new.self _ (some-of c.in-Ok-Some.field-0 _ _ c.in-Ok-Some.field-0-is c.in-Ok-Some.ensures.some) c.move_by.ensures is))
    c.on_row.ensures.step
