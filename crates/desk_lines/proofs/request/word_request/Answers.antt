use Rattle.std.proofs.Common.{rules}
use Rattle.desk_lines.proofs.WordFacts.{word_cut}
use Rattle.desk_lines.proofs.request.word_request.Goals as goal

pub returns-then-eq : goal.returns-then-eq
returns-then-eq c = rw (word_cut c.args.text.now c.in-Some.word.now c.in-Some.rest.now c.in-Some.ensures) (search rules)

pub returns-else-eq : goal.returns-else-eq
returns-else-eq c = rw (word_cut c.args.text.now c.in-Some.word.now c.in-Some.rest.now c.in-Some.ensures) (search rules)
