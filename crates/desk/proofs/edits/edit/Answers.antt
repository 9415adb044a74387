use Rattle.std.proofs.Common.{None, Some, subst, sym}
use Rattle.desk.specs.Handling.{Edits}
use Rattle.desk_lines.specs.Requests.{asked}
use Rattle.run_model.specs.declared.reply.Reply.TheVariants as reply
use Rattle.desk.proofs.HandlingFacts.{edits-bad_line, edits-bad_table, edits-comment, edits-go, edits-too_long}
use Rattle.desk.proofs.edits.edit.Goals as goal

pub returns-in-Comment-clause-edits : goal.returns-in-Comment-clause-edits
returns-in-Comment-clause-edits c = subst (λ r. Edits (asked r) c.args.draft.now None c.args.draft.now) (sym c.in-Comment.is) (edits-comment c.args.draft.now)

pub returns-in-TooLong-clause-edits : goal.returns-in-TooLong-clause-edits
returns-in-TooLong-clause-edits c = subst (λ r. Edits (asked r) c.args.draft.now (Some reply.TooLong) c.args.draft.now) (sym c.in-TooLong.is) (edits-too_long c.args.draft.now)

pub returns-in-BadLine-clause-edits : goal.returns-in-BadLine-clause-edits
returns-in-BadLine-clause-edits c = subst (λ r. Edits (asked r) c.args.draft.now (Some reply.BadLine) c.args.draft.now) (sym c.in-BadLine.is) (edits-bad_line c.args.draft.now)

pub returns-in-BadTable-clause-edits : goal.returns-in-BadTable-clause-edits
returns-in-BadTable-clause-edits c = subst (λ r. Edits (asked r) c.args.draft.now (Some reply.BadTable) c.args.draft.now) (sym c.in-BadTable.is) (edits-bad_table c.args.draft.now)

pub returns-in-Go-clause-edits : goal.returns-in-Go-clause-edits
returns-in-Go-clause-edits c = subst (λ r. Edits (asked r) c.args.draft.now (Some reply.Go) c.args.draft.now) (sym c.in-Go.is) (edits-go c.args.draft.now)
