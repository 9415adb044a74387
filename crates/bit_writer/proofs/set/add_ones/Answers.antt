use Rattle.bit_writer.proofs.SetFacts.{more-ones}
use Rattle.bit_writer.proofs.set.add_ones.Goals as goal

pub returns : goal.returns
returns c = more-ones c.args.octets.now c.args.octet c.args.ones c.requires
