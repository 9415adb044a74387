use Rattle.std.proofs.Common.{List, subst, sym, take}
use Rattle.fold_state.specs.Boards.{memory_of}
use Rattle.param_state.specs.Demands.{AreDemandsOf}
use Rattle.fold_state.specs.Entering.{StandsFor}
use Rattle.mib_model.specs.declared.packet.Value.{Value}
use Rattle.param_plan.specs.Slices.{ParamSlice}
use Rattle.decode_one.specs.Halves.{IsHalf}
use Rattle.decode_one.proofs.FinishFacts.{taken-inside, taken-fit, has-stepped}
use Rattle.decode_one.proofs.finishing.finish.Goals as goal

pub finish-requires-clause-inside : goal.finish-requires-clause-inside
finish-requires-clause-inside g c =
    let db = g.P.Structures.tables c.args.plans.now in
    let half = c.args.values.now.half in
    let is = subst (λ (l : List Value). IsHalf db c.args.packet.now half l) (sym c.deref.ensures.value) c.requires.decoded in
    taken-inside db c.params-params.ensures.sound c.args.packet.now half c.deref.result.now is

pub returns-clause-step : goal.returns-clause-step
returns-clause-step g c = λ asked m course s demanded alike.
    let db = g.P.Structures.tables c.args.plans.now in
    let sound = c.params-params.ensures.sound in
    let packet = c.args.packet.now in
    let half = c.args.values.now.half in
    let slots = c.deref.result.now in
    let is = subst (λ (l : List Value). IsHalf db packet half l) (sym c.deref.ensures.value) c.requires.decoded in
    let all = c.params-params.ensures.slices in
    let stands : StandsFor asked db c.params-params.result.now c.args.demands.now c.args.board.now (take half.used slots) m = record {
      fits = taken-fit db sound packet half slots is c.params-params.result.now c.args.board.now all c.requires.board;
      demanded = subst (λ (params : List ParamSlice). AreDemandsOf asked params c.args.demands.now) (sym all) demanded;
      alike = alike;
    } in
    has-stepped db sound packet half slots is c.finish_is_a_step.ensures asked c.args.number _
    m (memory_of c.finish.new.self) c.args.out.now c.finish.new.out c.title.ensures (c.finish.ensures.memory asked db m stands) (c.finish.ensures.text asked db m stands) course s
