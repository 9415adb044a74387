use Rattle.bit_writer.proofs.EightFacts.{more-from}
use Rattle.bit_writer.proofs.set.add_word.Goals as goal

pub returns : goal.returns
returns c = more-from c.args.octets.now c.add_eight.new.octets c.args.first c.args.ones c.requires c.add_eight.ensures
