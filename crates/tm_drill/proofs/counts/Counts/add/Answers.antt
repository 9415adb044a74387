use Rattle.std.proofs.Common.{rules}
use Rattle.tm_drill.proofs.CountFacts.{counted-more}
use Rattle.tm_drill.proofs.counts.Counts.add.Goals as goal

pub returns : goal.returns
returns c = λ lines is.
    counted-more lines c.args.line.now c.args.self.now c.add_packet.new.packets _ _ _ (search rules) (λ k h. c.add_packet.ensures k (search rules)) (search rules) (search rules) (search rules) is
