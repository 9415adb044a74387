use Rattle.std.proofs.Common.{sym, subst}
use Rattle.mib_keys.proofs.KnownFacts.{same-without}
use Rattle.mib_keys.specs.Kept.{AreSameIn}
use Rattle.mib_model.specs.Drafts.{with_rows}
use Rattle.mib_keys.proofs.known.without.Goals as goal

pub returns-clause-same : goal.returns-clause-same
returns-clause-same c = λ old new rows same. subst (λ set. AreSameIn set old (with_rows new c.args.kind rows)) (sym c.but.ensures) (same-without c.args.set c.args.kind old new rows same)
