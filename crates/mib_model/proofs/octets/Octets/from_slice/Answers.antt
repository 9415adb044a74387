use Rattle.std.proofs.Common.{refl}
use Rattle.mib_model.proofs.PaddingFacts.{IsPadded-copied}
use Rattle.mib_model.proofs.octets.Octets.from_slice.Goals as goal

pub invariant_of-result : goal.invariant_of-result
invariant_of-result g c = IsPadded-copied g.row.N c.args.octets.now c.copy_from_slice.new.self _ c.copy_from_slice.ensures.after refl c.requires.fits
