use Rattle.std.proofs.Common.{subst}
use Rattle.mib_model.specs.Soundness.{IsSound}
use Rattle.row_searches.proofs.searches.RowSearches.is_sound.Goals as goal

pub returns : goal.returns
returns c = subst IsSound c.self.view_is c.self.invariant.2
