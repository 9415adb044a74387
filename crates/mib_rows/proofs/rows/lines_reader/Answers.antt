use Rattle.std.proofs.Common.{◌∙◌, ap, Some}
use Rattle.mib_rows.proofs.TextFacts.{strip_bom-text}
use Rattle.mib_rows.proofs.rows.lines_reader.Goals as goal

pub returns-clause-text : goal.returns-clause-text
returns-clause-text c = c.from_reader.ensures.source ∙ ap Some (strip_bom-text c.args.text.now c.requires)
