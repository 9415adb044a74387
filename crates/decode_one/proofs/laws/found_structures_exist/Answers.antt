use Rattle.decode_one.proofs.SoundFacts.{found-structures}
use Rattle.decode_one.proofs.laws.found_structures_exist.Goals as goal

pub returns : goal.returns
returns c = found-structures
