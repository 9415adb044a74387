use Rattle.std.proofs.Common.{subst, sym}
use Rattle.desk_lines.specs.declared.request.Request.{Request}
use Rattle.desk_lines.specs.Requests.{asked}
use Rattle.script_tables.proofs.SavingFacts.{stays-bad_line, stays-bad_table, stays-comment, stays-go, stays-too_long, stays-use, stays-use_from}
use Rattle.script_tables.specs.Savings.{Makes}
use Rattle.script_tables.proofs.saving.Saving.handle.Goals as goal

pub returns-in-Use : goal.returns-in-Use
returns-in-Use c = subst (λ (r : Request). Makes (asked r) c.args.self.now c.args.self.now) (sym c.in-Use.is) (stays-use c.args.self.now c.in-Use.edition)

pub returns-in-UseFrom : goal.returns-in-UseFrom
returns-in-UseFrom c = subst (λ (r : Request). Makes (asked r) c.args.self.now c.args.self.now) (sym c.in-UseFrom.is) (stays-use_from c.args.self.now c.in-UseFrom.edition c.in-UseFrom.from)

pub returns-in-Comment : goal.returns-in-Comment
returns-in-Comment c = subst (λ (r : Request). Makes (asked r) c.args.self.now c.args.self.now) (sym c.in-Comment.is) (stays-comment c.args.self.now)

pub returns-in-TooLong : goal.returns-in-TooLong
returns-in-TooLong c = subst (λ (r : Request). Makes (asked r) c.args.self.now c.args.self.now) (sym c.in-TooLong.is) (stays-too_long c.args.self.now)

pub returns-in-BadLine : goal.returns-in-BadLine
returns-in-BadLine c = subst (λ (r : Request). Makes (asked r) c.args.self.now c.args.self.now) (sym c.in-BadLine.is) (stays-bad_line c.args.self.now)

pub returns-in-BadTable : goal.returns-in-BadTable
returns-in-BadTable c = subst (λ (r : Request). Makes (asked r) c.args.self.now c.args.self.now) (sym c.in-BadTable.is) (stays-bad_table c.args.self.now)

pub returns-in-Go : goal.returns-in-Go
returns-in-Go c = subst (λ (r : Request). Makes (asked r) c.args.self.now c.args.self.now) (sym c.in-Go.is) (stays-go c.args.self.now)
