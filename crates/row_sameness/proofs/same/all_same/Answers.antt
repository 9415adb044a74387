use Rattle.std.proofs.Common.{sym, ◌∙◌}
use Rattle.row_sameness.proofs.ListFacts.{equal-lists}
use Rattle.row_sameness.proofs.same.all_same.Goals as goal

pub returns-clause-equal : goal.returns-clause-equal
returns-clause-equal g c = λ holds. equal-lists g.R.Same.same g.met.R.Same.equates c.args.old.now c.args.new.now (sym c.are_same.ensures ∙ holds)
