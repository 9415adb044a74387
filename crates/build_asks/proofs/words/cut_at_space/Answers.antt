use Rattle.std.proofs.Common.{◌+◌}
use Rattle.std.proofs.lemmas.List.{take_rest}
use Rattle.desk_lines.proofs.CutFacts.{cut-none, cut-some}
use Rattle.run_model.specs.DeskLines.{is_blank}
use Rattle.build_asks.proofs.words.cut_at_space.Goals as goal

pub returns-in-Some : goal.returns-in-Some
returns-in-Some c = rw (take_rest c.args.text.now (c.in-Some.place + 1)) (cut-some is_blank c.args.text.now c.in-Some.place c.in-Some.ensures.place)

pub returns-in-None : goal.returns-in-None
returns-in-None c = cut-none is_blank c.args.text.now c.in-None.ensures.place
