use Rattle.packet_jobs.proofs.Common.{◌∙◌, ◌≡◌, ap, arc_value, Database, plan_names, subst, sym}
use Rattle.decode_one.proofs.ParamFacts.{params-of}
use Rattle.edition_plans.specs.Params.{param_slices}
use Rattle.param_state.specs.ParamPlans.{IsParamsOf}
use Rattle.packet_jobs.proofs.BoardFacts.{made-names}
use Rattle.packet_jobs.proofs.turning.begin.Goals as goal

pub carry-requires : goal.carry-requires
carry-requires g c =
    let tables = g.P.Structures.tables in
    let new = tables (arc_value c.args.start.handle) in
    let from : tables c.deref.result.now ≡ tables (arc_value c.args.in_use.now.handle) = ap tables (c.deref.ensures ∙ ap arc_value c.replace-from.ensures.value) in
    let to : tables c.deref-2.result.now ≡ new = ap tables (c.deref-2.ensures ∙ ap arc_value c.replace-from.ensures.after) in
    record {
      new = made-names new c.args.start.board c.requires.start ∙ ap plan_names (ap param_slices (sym to) ∙ sym c.params-2.ensures.slices);
      old = c.args.in_use.now.made ∙ ap plan_names (ap param_slices (sym from) ∙ sym c.params.ensures.slices);
    }

pub invariant_of-in_use : goal.invariant_of-in_use
invariant_of-in_use g c =
    let tables = g.P.Structures.tables in
    record {
      made = c.carry.ensures.names ∙ made-names (tables (arc_value c.args.start.handle)) c.args.start.board c.requires.start
          ∙ ap plan_names (ap param_slices (ap tables (ap arc_value (sym c.replace-from.ensures.after))));
    }

pub returns-clause-memory : goal.returns-clause-memory
returns-clause-memory g c =
    let tables = g.P.Structures.tables in
    let old = tables (arc_value c.args.in_use.now.handle) in
    let new = tables (arc_value c.args.start.handle) in
    let from : tables c.deref.result.now ≡ old = ap tables (c.deref.ensures ∙ ap arc_value c.replace-from.ensures.value) in
    let to : tables c.deref-2.result.now ≡ new = ap tables (c.deref-2.ensures ∙ ap arc_value c.replace-from.ensures.after) in
    c.carry.ensures.memory old new
    (subst (λ (d : Database). IsParamsOf d c.params.result.now) from (subst (IsParamsOf (tables c.deref.result.now)) (sym c.params.ensures.slices)
    (params-of (tables c.deref.result.now) c.params.ensures.sound)))
    (subst (λ (d : Database). IsParamsOf d c.params-2.result.now) to (subst (IsParamsOf (tables c.deref-2.result.now)) (sym c.params-2.ensures.slices)
    (params-of (tables c.deref-2.result.now) c.params-2.ensures.sound)))
