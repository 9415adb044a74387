use Rattle.edition_plans.proofs.LayoutFacts.{found-layout}
use Rattle.edition_plans.proofs.laws.found_packets_have_layouts.Goals as goal

pub returns : goal.returns
returns c = found-layout
