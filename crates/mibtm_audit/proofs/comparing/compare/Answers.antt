use Rattle.mibtm_audit.proofs.RunFacts.{stops-at}
use Rattle.mibtm_audit.proofs.comparing.compare.Goals as goal

pub returns-in_default-clause-compares : goal.returns-in_default-clause-compares
returns-in_default-clause-compares g c = stops-at (record { first = c.args.first.now; saved = c.args.saved.now; text = c.args.text.now }) (g.F.Source.left c.args.feed.now)

pub returns-in_default-new-clause-compares : goal.returns-in_default-new-clause-compares
returns-in_default-new-clause-compares g c = stops-at (record { first = c.args.first.now; saved = c.args.saved.now; text = c.args.text.now }) (g.F.Source.left c.args.feed.now)
