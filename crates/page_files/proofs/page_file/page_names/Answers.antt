use Rattle.std.proofs.Common.{inr}
use Rattle.whole_texts.proofs.PartFacts.{ends-in-part, part-of-file, part-of-none}
use Rattle.page_files.proofs.page_file.page_names.Goals as goal

pub returns-in-Ok-true-clause-part : goal.returns-in-Ok-true-clause-part
returns-in-Ok-true-clause-part g c =
    ends-in-part c.read_names.result _ (g.P.Source.holds c.args.page.now) c.args.name.now _ _ _
    (part-of-file _ (g.P.Source.holds c.args.page.now) c.args.name.now _ _ c.in-Ok-true.ensures.left c.read_names.ensures.part)

pub returns-in-Ok-false-clause-part : goal.returns-in-Ok-false-clause-part
returns-in-Ok-false-clause-part g c =
    inr (part-of-none _ (g.P.Source.holds c.args.page.now) c.args.name.now c.in-Ok-false.field-0 _ c.in-Ok-false.field-0-test c.in-Ok-false.ensures.held)
