use Rattle.std.proofs.Common.{◌≡◌, ◌∙◌, ◌+◌, ◌++◌, ◌∷◌, [], List, ap, arith, sym, take}
use Rattle.std.proofs.lemmas.List.{take_all, take_more}
use Rattle.mib_model.specs.declared.packet.Value.{Value}
use Rattle.param_state.specs.ParamPlans.{plan_names}
use Rattle.param_state.specs.FinishedValues.{IsRaw}
use Rattle.param_state.proofs.ValueFacts.{each-item}
use Rattle.line_sheets.specs.Drawings.{HasPlan, values_played}
use Rattle.line_sheets.proofs.AddFacts.{adds-none, adds-same, adds-then}
use Rattle.line_sheets.proofs.PacketFacts.{values-more, values-none}
use Rattle.line_sheets.proofs.sheet.Sheet.add_all.Goals as goal

pub loop-k-init : goal.loop-k-init
loop-k-init c = record {
  added = λ asked db plans noted raws has.
      let names = plan_names c.args.params.now in
      adds-same db names c.args.self.now c.args.self.now _ _ (adds-none db names c.args.self.now) (values-none db c.args.packet.now);
  size = omega arith;
  events = omega arith;
}

pub loop-k-preserved : goal.loop-k-preserved
loop-k-preserved c =
    let inv = c.loop-k.invariant in
    record {
      added = λ asked db plans noted raws has.
          let i = c.loop-k.k in
          let values = c.args.values.now in
          let params = c.args.params.now in
          let packet = c.args.packet.now in
          let v = c.index-values-k.result in
          let below = c.loop-k-test.true in
          let is = c.index-values-k.is in
          let raw = each-item IsRaw values i v below is raws in
          let plan = each-item (λ (u : Value). HasPlan params u.name) values i v below is has in
          let one = c.add_value.ensures.added asked db plans noted raw plan c.place-place.ensures in
          let both = adds-then db (plan_names params) c.args.self.now c.loop-k.self c.add_value.new.self _ _ (inv.added asked db plans noted raws has) one in
          let more : take (i + 1) values ≡ _ = take_more values i v below in
          let front = more ∙ ap (λ (x : Value). take i values ++ x ∷ []) (sym is) in
          adds-same db (plan_names params) c.args.self.now c.add_value.new.self _ _ both
          (λ memory. values-more db packet (take i values) v memory ∙ ap (λ (vs : List Value). values_played db packet vs memory) (sym front));
      size = omega (arith, inv.size, c.add_value.ensures.size);
      events = omega (arith, inv.events, c.add_value.ensures.events);
    }

pub returns-clause-added : goal.returns-clause-added
returns-clause-added c = λ asked db plans noted raws has.
    let values = c.args.values.now in
    adds-same db (plan_names c.args.params.now) c.args.self.now c.loop-k.self _ _ (c.loop-k.invariant.added asked db plans noted raws has)
    (λ memory. ap (λ (vs : List Value). values_played db c.args.packet.now vs memory) (take_all c.loop-k.k values c.loop-k-test.false))
