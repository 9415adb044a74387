use Rattle.std.proofs.Common.{arith}
use Rattle.edition_diff.proofs.TouchedFacts.{plans-length}
use Rattle.edition_diff.proofs.plan_sets.PlanSets.alone.Goals as goal

pub returns-clause-steps : goal.returns-clause-steps
returns-clause-steps g c = omega (arith, c.in_ok-keyed.ensures.steps, c.in_ok-ident.ensures.step, plans-length c.args.book.now)
