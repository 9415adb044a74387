use Rattle.line_text.proofs.StandFacts.{quoted-ends}
use Rattle.line_text.proofs.fast.stand.eights_stand.Goals as goal

pub returns : goal.returns
returns c = quoted-ends c.sixteen_stand.result c.args.octets.now c.ends.result 8 c.ends.ensures c.requires.some c.requires.few c.sixteen_stand.ensures
