use Rattle.param_plan.proofs.SoundFacts.{curves-apart}
use Rattle.param_plan.proofs.laws.sound_curves_stand_apart.Goals as goal

pub returns : goal.returns
returns c = curves-apart
