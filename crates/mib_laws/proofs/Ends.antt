-- Each walk over a sound database ends.
use Rattle.std.proofs.Common.{refl}
use Rattle.mib_model.specs.Walk.{walk_start}
use Rattle.mib_laws.specs.Walks.{WalksEnd}
use Rattle.mib_laws.proofs.SoundStructures.{structures-good}
use Rattle.mib_laws.proofs.WalkFacts.{walks-from}

pub walks-end : WalksEnd
walks-end db sound d some largest packet tpsd dfhsize =
    let good = structures-good db sound d largest in walks-from db packet d some good (walk_start db tpsd dfhsize) refl (good tpsd)
