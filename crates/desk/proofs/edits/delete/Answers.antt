use Rattle.std.proofs.Common.{Err, Some, subst, sym}
use Rattle.run_model.specs.DeskLines as Spec
use Rattle.run_model.specs.declared.reply.Reply.{Reply}
use Rattle.run_model.specs.declared.reply.Reply.TheVariants as reply
use Rattle.desk.specs.Drafts.{Drafted}
use Rattle.desk.specs.Handling.{Edits}
use Rattle.desk.proofs.KeyFacts.{key-of-table}
use Rattle.desk.proofs.HandlingFacts.{delete-edits, delete-none, delete-refused}
use Rattle.desk.proofs.edits.delete.Goals as goal

pub del-requires : goal.del-requires
del-requires c = key-of-table c.args.table c.args.key.now c.in-Ok.key c.in-Ok.ensures

pub returns-in-Err : goal.returns-in-Err
returns-in-Err c = subst (λ (r : Reply). Edits (Spec.Delete c.args.table c.args.key.now) c.args.draft.now (Some r) c.args.draft.now) (sym c.refusal.ensures)
    (delete-refused c.args.draft.now c.args.table c.args.key.now c.in-Err.fault c.in-Err.ensures)

pub returns-in-Ok-del : goal.returns-in-Ok-del
returns-in-Ok-del c =
    delete-edits c.args.draft.now c.del.new.self c.args.table c.args.key.now c.in-Ok.key c.in-Ok.ensures (sym c.in-Ok-del.ensures.held) c.in-Ok-del.ensures.rows c.in-Ok-del.ensures.base

pub returns-in-Err-NoRow : goal.returns-in-Err-NoRow
returns-in-Err-NoRow c = subst (λ (d : Drafted). Edits (Spec.Delete c.args.table c.args.key.now) c.args.draft.now (Some reply.NoRow) d) (sym c.in-Err-NoRow.ensures.kept)
    (delete-none c.args.draft.now c.args.table c.args.key.now c.in-Ok.key c.in-Ok.ensures (sym (c.in-Err-NoRow.ensures.missing (λ i. Err (c.in-Err-NoRow.field-0-is i)))))
