use Rattle.std.proofs.Common.{◌≡◌, ◌∙◌, List, ap, arith, filter, get_or, length, map, subst, sym}
use Rattle.std.proofs.lemmas.List.{get_or_default, length-map}
use Rattle.edition_plans.specs.Params.{param_slices}
use Rattle.mib_model.specs.declared.database.Database.{Database}
use Rattle.param_plan.specs.Names.{Ascend}
use Rattle.param_plan.specs.Slices.{ParamSlice}
use Rattle.param_changes.proofs.AlikeFacts.{once-alike}
use Rattle.param_changes.proofs.BesideFacts.{few-slices, slices-kept, slices-now}
use Rattle.param_set.proofs.CountFacts.{few-new}
use Rattle.param_set.proofs.UniqueFacts.{slices-ascend, sound-once}
use Rattle.param_changes.specs.Beside.{IsKeptBy, now_of}
use Rattle.param_set.specs.Sharing.{is_new, new_names}
use Rattle.param_changes.proofs.beside.taken_over.Goals as goal

pub blocks_beside-requires : goal.blocks_beside-requires
blocks_beside-requires g c =
    let old : Database = c.args.old.now in
    let new : Database = c.args.book.now in
    let once = once-alike old.pcf new.pcf c.requires.parameters.names (sound-once new c.requires.sound) in
    let long = ap length c.requires.base in
    λ i d below.
    let slice = get_or c.args.base.now i d in
    let is : slice ≡ get_or c.args.base.now i slice = get_or_default c.args.base.now i d slice below in
    subst (λ (db : Database). IsKeptBy c.in_ok-changed.changed slice db) (sym c.in_ok-sources.ensures)
    (slices-kept c.in_ok-changed.changed old new c.in_ok-changed.ensures once i slice (omega (arith, below, long)) (is ∙ ap (λ (slices : List ParamSlice). get_or slices i slice) c.requires.base))

pub of_blocks-requires : goal.of_blocks-requires
of_blocks-requires g c =
    let slices : map (now_of c.in_ok-sources.sources) c.args.base.now ≡ param_slices c.args.book.now =
    (λ i. map (now_of (c.in_ok-sources.ensures i)) (c.requires.base i)) ∙ slices-now c.args.old.now c.args.book.now (sound-once c.args.book.now c.requires.sound) c.requires.parameters in
    record {
      ascend = subst Ascend (sym (c.in_ok-made.ensures.blocks ∙ slices)) (slices-ascend c.args.book.now c.requires.sound);
      cut = c.in_ok-made.ensures.cut;
    }

pub returns : goal.returns
returns g c =
    let old : Database = c.args.old.now in
    let slices : map (now_of c.in_ok-sources.sources) c.args.base.now ≡ param_slices c.args.book.now =
    (λ i. map (now_of (c.in_ok-sources.ensures i)) (c.requires.base i)) ∙ slices-now old c.args.book.now (sound-once c.args.book.now c.requires.sound) c.requires.parameters in
    let count = ap (λ (s : List ParamSlice). length (filter (is_new c.args.base.now) s)) slices in
    let names = c.in_ok-made.ensures.compiled ∙ ap (new_names c.args.base.now) slices in
    record {
      params = c.in_ok-params.ensures ∙ c.in_ok-made.ensures.blocks ∙ slices;
      compiled = names;
      few = omega (arith, ap length c.in_ok-made.ensures.compiled, few-new c.args.base.now (map (now_of c.in_ok-sources.sources) c.args.base.now), length-map c.args.base.now (now_of c.in_ok-sources.sources), few-slices old, ap length c.requires.base, ap length c.pcf.ensures.rows, c.pcf.ensures.few);
      steps = omega (arith, c.in_ok-made.ensures.steps, count);
    }
