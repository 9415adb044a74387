use Rattle.desk.proofs.HandlingFacts.{drop-edits}
use Rattle.desk.proofs.edits.restore.Goals as goal

pub returns-in-Ok : goal.returns-in-Ok
returns-in-Ok c = drop-edits c.args.draft.now c.restore.new.self c.in-Ok.ensures.restored
