use Rattle.std.proofs.Common.{rules}
use Rattle.desk_lines.proofs.WordFacts.{use_cut}
use Rattle.desk_lines.proofs.request.use_request.Goals as goal

pub returns-in-Some-Some : goal.returns-in-Some-Some
returns-in-Some-Some c = rw (use_cut c.args.text.now c.in-Some.word.now c.in-Some.rest.now c.in-Some.ensures) (search rules)

pub returns-in_default-2 : goal.returns-in_default-2
returns-in_default-2 c = rw (use_cut c.args.text.now c.in-Some.word.now c.in-Some.rest.now c.in-Some.ensures) (search rules)
