use Rattle.bit_writer.proofs.ReadFacts as facts
use Rattle.bit_writer.proofs.laws.written_is_read.Goals as goal

pub returns : goal.returns
returns c = facts.written_is_read
