use Rattle.std.proofs.Common.{Err, ap, refl, subst}
use Rattle.mib_model.specs.declared.database.Database.{Database}
use Rattle.run_model.specs.DeskLines as Lines
use Rattle.mib_model.specs.Reading.{key_read}
use Rattle.mib_rows.specs.Answers.{Fails}
use Rattle.mib_rows.specs.declared.read_fault.ReadFault.{ReadFault}
use Rattle.script_tables.proofs.SavingFacts.{deletes, stays-bad_key, stays-no_row}
use Rattle.script_tables.specs.Savings.{Makes, Saving}
use Rattle.script_tables.proofs.saving.Saving.delete.Goals as goal

pub returns-in-Err-Mib : goal.returns-in-Err-Mib
returns-in-Err-Mib c =
    stays-bad_key c.args.self.now c.args.table c.args.line.now c.in-Err-Mib.field-0-0
    (subst (λ (f : ReadFault). Fails f (key_read c.args.table c.args.line.now)) c.in-Err-Mib.field-0-is c.in-Err-Mib.ensures)

pub returns-in-Ok-del : goal.returns-in-Ok-del
returns-in-Ok-del c =
    let old : Saving = record { draft = c.self.inside.draft; saved = c.self.inside.saved.items } in
    let new : Saving = record { draft = c.del.new.self; saved = c.self.inside.saved.items } in
    subst (λ (s : Saving). Makes (Lines.Delete c.args.table c.args.line.now) s new) c.self.view_is
    (deletes old new c.args.table c.args.line.now c.in-Ok.key c.in-Ok.ensures c.in-Ok-del.ensures.held c.in-Ok-del.ensures.rows refl)

pub returns-in-Err-NoRow : goal.returns-in-Err-NoRow
returns-in-Err-NoRow c =
    let old : Saving = record { draft = c.self.inside.draft; saved = c.self.inside.saved.items } in
    let new : Saving = record { draft = c.del.new.self; saved = c.self.inside.saved.items } in
    subst (λ (s : Saving). Makes (Lines.Delete c.args.table c.args.line.now) s new) c.self.view_is
    (stays-no_row old new c.args.table c.args.line.now c.in-Ok.key c.in-Ok.ensures (c.in-Err-NoRow.ensures.missing (λ i. Err (c.in-Err-NoRow.field-0-is i)))
    (ap (λ (db : Database). record { draft = db; saved = c.self.inside.saved.items }) c.in-Err-NoRow.ensures.kept))
