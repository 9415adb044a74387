use Rattle.std.proofs.Common.{◌++◌, subst, sym, take, ap, ◌∙◌}
use Rattle.std.specs.Io.KnownBytes.{Appends}
use Rattle.decode_session.specs.Finishing.{batch_text, standing}
use Rattle.decode_session.proofs.FinishFacts.{come-to, leaves-run}
use Rattle.decode_session.proofs.TurnFacts.{on-err, on-ok}
use Rattle.decode_session.proofs.playing.write_sheet.Goals as goal
use Rattle.edition_plans.specs.Params.{param_slices}
use Rattle.param_state.specs.Demands.{asked_in}
use Rattle.line_sheets.specs.Drawings.{IsSheetFor}
use Rattle.mib_model.specs.Interpreter.{course_after_all, stamped_from}
use Rattle.tm_io.specs.Octets.{AppendsPrefix}

pub returns-clause-done : goal.returns-clause-done
returns-clause-done g c =
    let db = g.P.Structures.tables c.args.plans.now in
    let job = c.args.job.now in
    let packets = take job.drawn job.stretch.packets in
    let ss = stamped_from db job.number packets in
    let asked = asked_in (param_slices db) in
    let sheet = subst (λ names. IsSheetFor asked db names ss job.sheet) (sym c.requires.board) (c.requires.job.sheet c.requires.some) in
    on-ok c.write_all.result _ _
    (λ wrote m serves.
    let run = c.play_sheet.ensures.run asked m (standing 1 db m) ss serves (come-to db job.number packets m) sheet in
    let text = c.bytes.ensures ∙ run.text ∙ ap (λ l. l ++ batch_text 1 db m ss) c.clear.ensures in (
      (course_after_all (standing 1 db m) ss).memory,
      run.memory,
      record { leaves = leaves-run db job.number packets m; wrote = subst (Appends (g.O.Sink.written c.args.out.now) (g.O.Sink.written c.write_all.new.out)) text wrote },
    ))
    c.write_all.ensures.all

pub returns-clause-part : goal.returns-clause-part
returns-clause-part g c =
    let db = g.P.Structures.tables c.args.plans.now in
    let job = c.args.job.now in
    let packets = take job.drawn job.stretch.packets in
    let ss = stamped_from db job.number packets in
    let asked = asked_in (param_slices db) in
    let sheet = subst (λ names. IsSheetFor asked db names ss job.sheet) (sym c.requires.board) (c.requires.job.sheet c.requires.some) in
    on-err c.write_all.result _ _
    (λ stopped m serves.
    let run = c.play_sheet.ensures.run asked m (standing 1 db m) ss serves (come-to db job.number packets m) sheet in
    let text = c.bytes.ensures ∙ run.text ∙ ap (λ l. l ++ batch_text 1 db m ss) c.clear.ensures in
    subst (AppendsPrefix (g.O.Sink.written c.args.out.now) (g.O.Sink.written c.write_all.new.out)) text stopped)
    c.write_all.ensures.part
