use Rattle.std.proofs.Common.{◌∙◌, Some, subst, sym}
use Rattle.run_model.specs.DeskLines as Spec
use Rattle.run_model.specs.declared.reply.Reply.{Reply}
use Rattle.mib_tables.specs.declared.table.Put.TheVariants as put_row
use Rattle.row_laws.proofs.RowFitFacts.{read_fits}
use Rattle.desk.specs.Handling.{Edits}
use Rattle.desk.proofs.HandlingFacts.{put-edits, put-refused}
use Rattle.desk.proofs.edits.put.Goals as goal

pub put-requires : goal.put-requires
put-requires c = (read_fits c.args.table c.args.row.now c.in-Ok.row c.in-Ok.ensures).1

pub returns-in-Err : goal.returns-in-Err
returns-in-Err c = subst (λ (r : Reply). Edits (Spec.Put c.args.table c.args.row.now) c.args.draft.now (Some r) c.args.draft.now) (sym c.refusal.ensures)
    (put-refused c.args.draft.now c.args.table c.args.row.now c.in-Err.fault c.in-Err.ensures)

pub returns-in-Ok-Added : goal.returns-in-Ok-Added
returns-in-Ok-Added c =
    put-edits c.args.draft.now c.put.new.self c.args.table c.args.row.now c.in-Ok.row put_row.Added c.in-Ok.ensures c.in-Ok-Added.ensures.rows (sym c.in-Ok-Added.field-0-is ∙ c.in-Ok-Added.ensures.made) c.in-Ok-Added.ensures.base

pub returns-in-Ok-Replaced : goal.returns-in-Ok-Replaced
returns-in-Ok-Replaced c =
    put-edits c.args.draft.now c.put.new.self c.args.table c.args.row.now c.in-Ok.row put_row.Replaced c.in-Ok.ensures c.in-Ok-Replaced.ensures.rows (sym c.in-Ok-Replaced.field-0-is ∙ c.in-Ok-Replaced.ensures.made) c.in-Ok-Replaced.ensures.base
