use Rattle.std.proofs.Common.{◌∙◌, sym}
use Rattle.mib_model.specs.Lines.{is_feed}
use Rattle.tm_audit.proofs.LineFacts.{no-place, some-place}
use Rattle.tm_audit.proofs.lines.before_feed.Goals as goal

pub returns-in-Some-clause-place : goal.returns-in-Some-clause-place
returns-in-Some-clause-place c = some-place is_feed c.args.text.now c.in-Some.at (sym c.in-Some.is ∙ c.feed_place.ensures)

pub returns-in-None-clause-place : goal.returns-in-None-clause-place
returns-in-None-clause-place c = no-place is_feed c.args.text.now (sym c.in-None.is ∙ c.feed_place.ensures)
