use Rattle.std.proofs.Common.{◌≡◌, ◌∙◌, List, ap, flat_map, map, subst, sym}
use Rattle.std.specs.Arc.{arc_value}
use Rattle.param_plan.specs.Names.{Ascend}
use Rattle.param_plan.specs.Plain.{is_plain}
use Rattle.param_plan.specs.Slices.{ParamSlice}
use Rattle.param_plan.proofs.BlockFacts.{cut-alike, flat-alike}
use Rattle.param_plan.proofs.params.Params.copy.Goals as goal

pub invariant_of-result : goal.invariant_of-result
invariant_of-result c =
    let own = c.self.inside.blocks.items in
    let new = c.in_ok-blocks.blocks.items in
    let alike : map arc_value own ≡ map arc_value new = sym (c.in_ok-blocks.ensures ∙ ap (map arc_value) c.deref.ensures.value) in
    let same : flat_map arc_value own ≡ flat_map arc_value new = flat-alike arc_value arc_value own new alike in (
      subst Ascend same c.self.invariant.0,
      cut-alike arc_value arc_value own new alike c.self.invariant.1,
      c.in_ok-plain.ensures.items ∙ c.deref-2.ensures.value ∙ c.self.invariant.2 ∙ ap (map is_plain) same,
    )

pub returns : goal.returns
returns c =
    let own = c.self.inside.blocks.items in
    let new = c.in_ok-blocks.blocks.items in
    flat-alike arc_value arc_value new own (c.in_ok-blocks.ensures ∙ ap (map arc_value) c.deref.ensures.value) ∙ c.self.view_is
