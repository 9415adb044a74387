use Rattle.std.proofs.Common.{rules}
use Rattle.desk_lines.proofs.WordFacts.{from_cut}
use Rattle.desk_lines.proofs.request.from_number.Goals as goal

pub returns-then-ne : goal.returns-then-ne
returns-then-ne c = rw (from_cut c.args.text.now c.in-Some.word.now c.in-Some.rest.now c.in-Some.ensures) (search rules)

pub returns-in-Some-only_word : goal.returns-in-Some-only_word
returns-in-Some-only_word c = rw (from_cut c.args.text.now c.in-Some.word.now c.in-Some.rest.now c.in-Some.ensures) (search rules)

pub returns-in-None : goal.returns-in-None
returns-in-None c = rw (from_cut c.args.text.now c.in-Some.word.now c.in-Some.rest.now c.in-Some.ensures) (search rules)
