use Rattle.std.proofs.Common.{◌+◌, take, arith}
use Rattle.std.proofs.lemmas.List.{length-take-le}
use Rattle.line_text.proofs.PlaceFacts.{cut_behind}
use Rattle.line_text.proofs.place.add_first.Goals as goal

pub returns-clause-text : goal.returns-clause-text
returns-clause-text g c =
    let before = length-take-le c.args.used c.args.line.now (omega (arith, c.requires.room)) in
    rw c.from.ensures (cut_behind c.put.new.octets (take c.args.used c.args.line.now) c.args.word.now c.args.used (c.args.used + g.row.N) c.args.count
    c.put.ensures.text before (omega (arith, c.requires.few)) (omega (arith, c.requires.room, c.put.ensures.kept)))
