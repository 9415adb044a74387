use Rattle.std.proofs.Common.{[], subst}
use Rattle.edition_plans.specs.Params.{param_slices}
use Rattle.param_state.specs.ParamPlans.{plan_names}
use Rattle.line_sheets.specs.Drawings.{AddsFor, packet_played}
use Rattle.line_sheets.specs.Sheets.{SheetView, no_sheet}
use Rattle.packet_sheets.proofs.SheetFacts.{sheet-more, sheet-none}
use Rattle.packet_sheets.proofs.drawing.draw_packet.Goals as goal

pub returns : goal.returns
returns g c = λ ok asked s demanded of.
    let db = g.P.Structures.tables c.args.plans.now in
    let names = plan_names (param_slices db) in
    let new = c.draw_next.new.sheet in
    let adds = subst (λ (old : SheetView). AddsFor asked db names old new (packet_played s)) c.clear.ensures (c.draw_next.ensures.drawn ok asked s demanded of) in
    sheet-more asked db names [] s no_sheet new (sheet-none asked db names) adds
