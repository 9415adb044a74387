use Rattle.bit_writer.proofs.EightFacts.{moved-bit}
use Rattle.bit_writer.proofs.fast.field_in.Goals as goal

pub returns : goal.returns
returns c i low = moved-bit c.args.number c.args.skip c.args.width i c.requires.some c.requires.end low
