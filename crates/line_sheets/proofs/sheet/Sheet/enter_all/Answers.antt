use Rattle.std.proofs.Common.{◌∙◌, List, [], ap, arith, refl, sym}
use Rattle.std.proofs.lemmas.List.{take_all}
use Rattle.mib_model.specs.declared.packet.Value.{Value}
use Rattle.mib_model.specs.Kept.{Memory, all_entered}
use Rattle.param_state.specs.ParamPlans.{plan_names}
use Rattle.param_state.specs.FinishedValues.{IsRaw}
use Rattle.param_state.proofs.ValueFacts.{each-item}
use Rattle.fold_state.proofs.SeatFacts.{entered-more}
use Rattle.line_sheets.specs.Drawings.{HasPlan}
use Rattle.line_sheets.specs.declared.sheet.TheConstants.{SEATS_MOST}
use Rattle.line_sheets.proofs.AddFacts.{adds-none}
use Rattle.line_sheets.proofs.AskedFacts.{for-entered, for-exact, for-same, for-then}
use Rattle.line_sheets.proofs.PlaceFacts.{seat-there}
use Rattle.line_sheets.proofs.sheet.Sheet.enter_all.Goals as goal

pub loop-k-init : goal.loop-k-init
loop-k-init c = record {
  added = λ asked db noted raws has.
      let names = plan_names c.args.params.now in
      let old = c.args.self.now in
      for-exact asked db names old old (λ memory. (memory, [])) (adds-none db names old) (λ memory kept alike. (refl, alike));
  size = refl;
  events = omega arith;
}

pub loop-k-preserved : goal.loop-k-preserved
loop-k-preserved c =
    let inv = c.loop-k.invariant in
    record {
      added = λ asked db noted raws has.
          let i = c.loop-k.k in
          let values = c.args.values.now in
          let params = c.args.params.now in
          let names = plan_names params in
          let v = c.index-values-k.result in
          let seat = c.seat_of.result in
          let below = c.loop-k-test.true in
          let is = c.index-values-k.is in
          let raw = each-item IsRaw values i v below is raws in
          let plan = each-item (λ (u : Value). HasPlan params u.name) values i v below is has in
          let there = seat-there params v.name c.place-place.result seat SEATS_MOST plan c.place-place.ensures c.requires.few c.seat_of.ensures in
          let exact = c.enter_asked.ensures.added db names raw there.named there.below in
          let one = for-entered asked db names c.loop-k.self c.enter_asked.new.self c.args.demands.now seat v (noted v.name seat there.placed) exact in
          let both = for-then asked db names c.args.self.now c.loop-k.self c.enter_asked.new.self _ _ (inv.added asked db noted raws has) one in
          for-same asked db names c.args.self.now c.enter_asked.new.self _ _ both (λ memory. ap (λ (m : Memory). (m, [])) (sym (entered-more memory values v i below is)));
      size = c.enter_asked.ensures.size ∙ inv.size;
      events = omega (arith, inv.events, c.enter_asked.ensures.events);
    }

pub returns-clause-added : goal.returns-clause-added
returns-clause-added c = λ asked db noted raws has.
    let values = c.args.values.now in
    for-same asked db (plan_names c.args.params.now) c.args.self.now c.loop-k.self _ _ (c.loop-k.invariant.added asked db noted raws has)
    (λ memory. ap (λ (vs : List Value). (all_entered memory vs, [])) (take_all c.loop-k.k values c.loop-k-test.false))
