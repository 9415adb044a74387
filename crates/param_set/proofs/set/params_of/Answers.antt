use Rattle.std.proofs.Common.{◌≡◌, ◌∙◌, Bor, List, ap, arith, filter, length, map, sym, subst}
use Rattle.std.specs.Arc.{arc_value}
use Rattle.std.proofs.lemmas.List.{length-map}
use Rattle.edition_plans.specs.Params.{param_slices}
use Rattle.mib_model.specs.declared.rows.PcfRow.{PcfRow}
use Rattle.mib_model.specs.Orders.{sorted_by}
use Rattle.mib_model.specs.Plans.{has_plan, may_precede}
use Rattle.param_plan.specs.Names.{Ascend}
use Rattle.param_plan.specs.Slices.{slice_for}
use Rattle.param_set.proofs.CountFacts.{few-new, planned-most}
use Rattle.param_set.proofs.UniqueFacts.{slices-ascend}
use Rattle.param_set.proofs.set.params_of.Goals as goal

pub new-requires : goal.new-requires
unfolding param_slices
new-requires g c =
    let rows = ap (map (λ (row : Bor PcfRow). row.now)) c.deref.ensures.value ∙ (c.in_ok-rows.ensures ∙ ap (λ (pcf : List PcfRow). sorted_by (λ x y. may_precede x.name y.name) (filter has_plan pcf)) c.pcf.ensures.rows) in
    let slices : map arc_value c.in_ok-plans.plans.params.items ≡ param_slices c.args.book.now = c.in_ok-plans.ensures.plans ∙ (λ i. map (slice_for (c.in_ok-sources.ensures i)) (rows i)) in
    subst Ascend (sym slices) (slices-ascend c.args.book.now c.requires)

pub returns-clause-few : goal.returns-clause-few
returns-clause-few g c =
    let rows = ap (map (λ (row : Bor PcfRow). row.now)) c.deref.ensures.value ∙ c.in_ok-rows.ensures in
    let few = few-new c.args.base.now (map (slice_for c.in_ok-sources.sources) (map (λ (row : Bor PcfRow). row.now) c.deref.result.now)) in
    let most = planned-most (λ x y. may_precede x.name y.name) has_plan c.pcf.result.now in
    omega (arith, ap length rows, length-map c.deref.result.now (λ (row : Bor PcfRow). row.now), most, c.pcf.ensures.few, ap length c.in_ok-plans.ensures.compiled, few, length-map (map (λ (row : Bor PcfRow). row.now) c.deref.result.now) (slice_for c.in_ok-sources.sources))
