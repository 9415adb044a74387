use Rattle.packet_jobs.proofs.Common.{◌∙◌, ◌≡◌, [], ◌∷◌, ap, arc_value, Database, List, ℕ, memory_of, plan_names, refl, subst, sym}
use Rattle.decode_one.specs.Steps.{ComesTo}
use Rattle.decode_one.proofs.FinishFacts.{stepped-all}
use Rattle.decode_session.specs.declared.room.Buffers.{Buffers}
use Rattle.edition_plans.specs.Params.{param_slices}
use Rattle.line_sheets.specs.Drawings.{IsSheetFor}
use Rattle.line_sheets.specs.Sheets.{SheetView}
use Rattle.memory_laws.proofs.AlikeFacts.{alike-same}
use Rattle.param_state.specs.Demands.{any_name}
use Rattle.packet_jobs.proofs.finishing.finish_job.Goals as goal

pub returns-clause-step : goal.returns-clause-step
returns-clause-step g c = λ same course s comes.
    let tables = g.P.Structures.tables in
    let job = c.args.job.now in
    let in_use = c.args.in_use.now in
    let own : tables (arc_value in_use.handle) ≡ tables c.deref.result.now = ap tables (sym c.deref.ensures) in
    let db : tables (arc_value job.handle) ≡ tables c.deref.result.now = same ∙ own in
    let names : plan_names (param_slices (tables (arc_value job.handle))) ≡ in_use.board.names = ap (λ (d : Database). plan_names (param_slices d)) same ∙ sym in_use.made in
    let sheet : job.cell.buffers.value.sheet ≡ c.deref-2.result.now.sheet = ap (λ (b : Buffers). b.sheet) (sym c.deref-2.ensures) in
    let drawn = job.drawn c.if-not-job.false s (record { number = comes.number; packet = comes.packet; tables = comes.tables ∙ sym same }) in
    let is = subst (λ (x : Database × (List (List ℕ) × SheetView)). IsSheetFor any_name x.0 x.1.0 (s ∷ []) x.1.1) (λ i. (db i, (names i, sheet i))) drawn in
    let here : ComesTo course s s.number s.packet (tables c.deref.result.now) (memory_of in_use.board) = record { number = refl; packet = refl; tables = comes.tables ∙ own; memory = comes.memory } in
    stepped-all (c.play_sheet.ensures.step any_name (memory_of in_use.board) course s (alike-same any_name (memory_of in_use.board)) here is)
