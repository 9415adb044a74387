use Rattle.std.proofs.Common.{◌≡◌, ◌∙◌, ◌<◌, ◌%◌, List, ap, arith, get_or, length, map, sym}
use Rattle.std.proofs.lemmas.List.{get_or-map, length-map}
use Rattle.std.specs.Arc.{arc_value}
use Rattle.param_plan.specs.Slices.{ParamSlice}
use Rattle.param_plan.proofs.BlockFacts.{placed-at}
use Rattle.param_plan.proofs.params.Params.plan.Goals as goal

pub index-requires : goal.index-requires
index-requires c =
    let at = placed-at arc_value c.self.inside.blocks.items c.args.at c.self.invariant.1 (omega (arith, c.requires, ap length c.self.view_is)) in
    omega (arith, at.0)

pub bounds-plans-at : goal.bounds-plans-at
bounds-plans-at c =
    let at = placed-at arc_value c.self.inside.blocks.items c.args.at c.self.invariant.1 (omega (arith, c.requires, ap length c.self.view_is)) in
    let block : map arc_value c.plans.result.now ≡ arc_value c.index.result.now = c.plans.ensures ∙ c.deref.ensures in
    let long = length-map c.plans.result.now arc_value in
    let same = ap (λ block. length (arc_value block)) c.index.ensures in
    omega (arith, at.1 c.index.result.now, same, ap length block, long)

pub returns : goal.returns
returns c =
    let at = placed-at arc_value c.self.inside.blocks.items c.args.at c.self.invariant.1 (omega (arith, c.requires, ap length c.self.view_is)) in
    let block : map arc_value c.plans.result.now ≡ arc_value c.index.result.now = c.plans.ensures ∙ c.deref.ensures in
    let long = length-map c.plans.result.now arc_value in
    let same = ap (λ block. length (arc_value block)) c.index.ensures in
    let x = c.index-plans-at.result in
    let within : c.args.at % 64 < length c.plans.result.now = omega (arith, at.1 c.index.result.now, same, ap length block, long) in
    ap arc_value c.index-plans-at.is
    ∙ sym (get_or-map arc_value c.plans.result.now (c.args.at % 64) x (arc_value x) within)
    ∙ ap (λ (slices : List ParamSlice). get_or slices (c.args.at % 64) (arc_value x)) (block ∙ ap arc_value c.index.ensures)
    ∙ sym (at.2 c.index.result.now (arc_value x))
    ∙ ap (λ (slices : List ParamSlice). get_or slices c.args.at (arc_value x)) c.self.view_is
