use Rattle.std.proofs.Common.{◌∙◌, ◌<◌, ap, arith, flat_map, length, subst, sym}
use Rattle.std.proofs.lemmas.List.{length-map}
use Rattle.std.specs.Arc.{arc_value}
use Rattle.std.specs.Str.{bytes_eq}
use Rattle.param_plan.specs.Names.{Ascend}
use Rattle.param_plan.specs.Plain.{is_plain}
use Rattle.param_plan.specs.Slices.{ParamSlice}
use Rattle.param_plan.proofs.NameFacts.{place-named}
use Rattle.param_plan.proofs.params.Params.is_at.Goals as goal

pub returns-then-at-len : goal.returns-then-at-len
returns-then-at-len c = λ named.
    let slices = c.args.self.now in
    let name = c.args.name.now in
    let long = ap length c.self.view_is in
    let marks = ap length c.self.invariant.2 in
    let many = length-map (flat_map arc_value c.self.inside.blocks.items) is_plain in
    let below : c.args.at < length slices = omega (arith, c.if-at-len.true, c.len.ensures, long, marks, many) in
    let here = ap (λ (s : ParamSlice). bytes_eq s.pcf.name name) (sym c.deref.ensures) ∙ (sym c.is_named.ensures ∙ named) in
    place-named (λ slice. slice.pcf.name) name slices (subst Ascend c.self.view_is c.self.invariant.0) c.args.at (arc_value c.plan.result.now) below c.plan.ensures here
