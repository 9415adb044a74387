use Rattle.line_text.proofs.StandFacts.{quoted-itself}
use Rattle.line_text.proofs.fast.stand.sixteens_stand.Goals as goal

pub returns : goal.returns
returns c = quoted-itself c.both_stand.result c.args.octets.now c.both_stand.ensures
