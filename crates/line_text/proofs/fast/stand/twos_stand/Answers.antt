use Rattle.line_text.proofs.StandFacts.{quoted-ends}
use Rattle.line_text.proofs.fast.stand.twos_stand.Goals as goal

pub returns : goal.returns
returns c = quoted-ends c.four_stand.result c.args.octets.now c.ends.result 2 c.ends.ensures c.requires.some c.requires.few c.four_stand.ensures
