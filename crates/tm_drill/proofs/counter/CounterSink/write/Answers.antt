use Rattle.std.proofs.Common.{sym}
use Rattle.tm_drill.proofs.TextFacts.{one-line, all-one-line, write-line}
use Rattle.tm_drill.proofs.counter.CounterSink.write.Goals as goal

pub end_line-requires : goal.end_line-requires
end_line-requires c = one-line c.args.piece.now c.in-Some.end (sym c.in-Some.ensures)

pub add_front-requires : goal.add_front-requires
add_front-requires c = all-one-line c.args.piece.now (sym c.in-None.ensures)

pub returns-in-Some-clause-bytes : goal.returns-in-Some-clause-bytes
returns-in-Some-clause-bytes c = write-line c.end_line.result c.args.self.now.text c.end_line.new.self.text c.args.piece.now c.in-Some.end (sym c.in-Some.ensures) c.end_line.ensures.text
