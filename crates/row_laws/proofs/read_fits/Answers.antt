use Rattle.row_laws.proofs.RowFitFacts.{read_fits}
use Rattle.row_laws.proofs.read_fits.Goals as goal

pub returns : goal.returns
returns c = read_fits
