use Rattle.std.proofs.Common.{sym, ◌∙◌}
use Rattle.row_sameness.proofs.same.same_row.Goals as goal

pub returns-clause-equal : goal.returns-clause-equal
returns-clause-equal g c = λ holds. g.met.R.Same.equates c.args.old.now c.args.new.now (sym c.is_same.ensures ∙ holds)
