use Rattle.std.proofs.Common.{List, ℕ, ap, subst, sym}
use Rattle.param_state.specs.ParamPlans.{plan_names}
use Rattle.param_state.specs.Demands.{AreDemandsOf}
use Rattle.line_sheets.specs.Drawings.{AddsFor, packet_played}
use Rattle.mib_model.specs.declared.packet.Value.{Value}
use Rattle.param_plan.specs.Slices.{ParamSlice}
use Rattle.decode_one.specs.Halves.{IsHalf}
use Rattle.line_sheets.proofs.AskedFacts.{for-same}
use Rattle.decode_one.proofs.FinishFacts.{record-drawn, taken-inside, taken-params, taken-planned, taken-raw}
use Rattle.decode_one.proofs.sheets.draw_record.Goals as goal

pub draw-requires : goal.draw-requires
draw-requires g c =
    let db = g.P.Structures.tables c.args.plans.now in
    let half = c.args.values.now.half in
    let is = subst (λ (l : List Value). IsHalf db c.args.packet.now half l) (sym c.deref.ensures.value) c.requires.decoded in
    taken-inside db c.params-params.ensures.sound c.args.packet.now half c.deref.result.now is

pub returns-clause-drawn : goal.returns-clause-drawn
returns-clause-drawn g c = λ ok asked s demanded of.
    let db = g.P.Structures.tables c.args.plans.now in
    let sound = c.params-params.ensures.sound in
    let packet = c.args.packet.now in
    let half = c.args.values.now.half in
    let values = c.deref.result.now in
    let is = subst (λ (l : List Value). IsHalf db packet half l) (sym c.deref.ensures.value) c.requires.decoded in
    let params = c.params-params.result.now in
    let all = c.params-params.ensures.slices in
    let noted = subst (λ (slices : List ParamSlice). AreDemandsOf asked slices c.args.demands.now) (sym all) demanded in
    let adds = c.draw.ensures.drawn ok asked db (taken-params db sound packet half values is params all) noted (taken-raw db sound packet half values is) (taken-planned db sound packet half values is params all) in
    let meant = for-same asked db (plan_names params) c.args.sheet.now c.draw.new.self _ (packet_played s) adds (record-drawn db sound packet half values is c.args.number _ s c.title.ensures of) in
    subst (λ (names : List (List ℕ)). AddsFor asked db names c.args.sheet.now c.draw.new.self (packet_played s)) (ap plan_names all) meant
