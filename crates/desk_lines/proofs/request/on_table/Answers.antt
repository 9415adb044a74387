use Rattle.std.proofs.Common.{rules}
use Rattle.desk_lines.proofs.WordFacts.{table_cut}
use Rattle.desk_lines.proofs.request.on_table.Goals as goal

pub returns-in-Some-from_name : goal.returns-in-Some-from_name
returns-in-Some-from_name c = λ make. rw (table_cut make c.args.rest.now c.in-Some.word.now c.in-Some.text.now c.in-Some.ensures) (search rules)

pub returns-in-None : goal.returns-in-None
returns-in-None c = λ make. rw (table_cut make c.args.rest.now c.in-Some.word.now c.in-Some.text.now c.in-Some.ensures) (search rules)
