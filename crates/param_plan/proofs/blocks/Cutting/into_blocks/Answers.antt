use Rattle.std.proofs.Common.{ap, arith, length, subst, sym}
use Rattle.std.proofs.lemmas.List.{length-map}
use Rattle.std.specs.Arc.{arc_value}
use Rattle.param_plan.specs.Blocks.{IsCut}
use Rattle.param_plan.proofs.BlockFacts.{cut-behind}
use Rattle.param_plan.proofs.blocks.Cutting.into_blocks.Goals as goal

pub returns-clause-cut : goal.returns-clause-cut
returns-clause-cut c =
    let behind = c.self.inside.behind.items in
    let last = ap length c.in_ok-shared_block.ensures in
    subst (IsCut arc_value) (sym c.in_ok-push.ensures.items)
    (cut-behind arc_value c.self.inside.blocks.items c.in_ok-shared_block.field-0 c.self.invariant.0 (omega (arith, last, length-map behind arc_value, c.self.invariant.1)))
