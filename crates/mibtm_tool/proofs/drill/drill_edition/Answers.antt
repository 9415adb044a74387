use Rattle.std.proofs.Common.{◌∙◌}
use Rattle.mib_model.specs.Soundness.{first_flaw}
use Rattle.mibtm_tool.proofs.DrillSteps.{accepted-same}
use Rattle.mibtm_tool.proofs.drill.drill_edition.Goals as goal

pub returns-in-Ok : goal.returns-in-Ok
returns-in-Ok c = accepted-same c.in_ok-book.book c.in-Ok.edition (first_flaw c.in_ok-book.book) c.in-Ok.ensures.told ∙ c.in_ok-book.ensures
