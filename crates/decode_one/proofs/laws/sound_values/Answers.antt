use Rattle.decode_one.proofs.ValueFacts.{sound-values}
use Rattle.decode_one.proofs.laws.sound_values.Goals as goal

pub returns : goal.returns
returns c = sound-values
