use Rattle.std.proofs.Common.{subst, refl}
use Rattle.run_model.specs.DeskLines as Lines
use Rattle.mib_model.specs.Reading.{row_read}
use Rattle.mib_rows.specs.Answers.{Fails}
use Rattle.mib_rows.specs.declared.read_fault.ReadFault.{ReadFault}
use Rattle.row_laws.proofs.RowFitFacts.{read_fits}
use Rattle.script_tables.proofs.SavingFacts.{puts, stays-bad_row}
use Rattle.script_tables.specs.Savings.{Makes, Saving}
use Rattle.script_tables.proofs.saving.Saving.put.Goals as goal

pub returns-in-Err-Mib : goal.returns-in-Err-Mib
returns-in-Err-Mib c =
    stays-bad_row c.args.self.now c.args.table c.args.line.now c.in-Err-Mib.field-0-0
    (subst (λ (f : ReadFault). Fails f (row_read c.args.table c.args.line.now)) c.in-Err-Mib.field-0-is c.in-Err-Mib.ensures)

pub returns : goal.returns
returns c =
    let new : Saving = record { draft = c.put.new.self; saved = c.self.inside.saved.items } in
    subst (λ (s : Saving). Makes (Lines.Put c.args.table c.args.line.now) s new) c.self.view_is
    (puts (record { draft = c.self.inside.draft; saved = c.self.inside.saved.items }) new c.args.table c.args.line.now c.in-Ok.row c.in-Ok.ensures
    (read_fits c.args.table c.args.line.now c.in-Ok.row c.in-Ok.ensures).1 c.in_ok-put.ensures.rows refl)
