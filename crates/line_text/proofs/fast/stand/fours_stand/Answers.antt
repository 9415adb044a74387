use Rattle.line_text.proofs.StandFacts.{quoted-ends}
use Rattle.line_text.proofs.fast.stand.fours_stand.Goals as goal

pub returns : goal.returns
returns c = quoted-ends c.eight_stand.result c.args.octets.now c.ends.result 4 c.ends.ensures c.requires.some c.requires.few c.eight_stand.ensures
