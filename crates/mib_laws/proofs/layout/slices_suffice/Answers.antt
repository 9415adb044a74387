use Rattle.mib_laws.proofs.SliceFacts.{slices-suffice}
use Rattle.mib_laws.proofs.layout.slices_suffice.Goals as goal

pub returns : goal.returns
returns c = slices-suffice
