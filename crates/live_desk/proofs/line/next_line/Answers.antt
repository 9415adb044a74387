use Rattle.std.proofs.Common.{◌∙◌, ap}
use Rattle.desk_lines.proofs.LongFacts.{long-front}
use Rattle.live_desk.specs.Operators.{is_several, number_if}
use Rattle.live_desk.specs.Standing.{standing_of}
use Rattle.live_desk.proofs.ComesFacts.{answers-as, comes-of}
use Rattle.live_desk.proofs.line.next_line.Goals as goal
use Rattle.run_model.specs.DeskLines.{request_of}

pub returns-in-TooLong-clause-comes : goal.returns-in-TooLong-clause-comes
returns-in-TooLong-clause-comes g c =
    let (line, long, front, takes) = c.in-TooLong.ensures.gives in
    let number = number_if g.O.Operator.several c.args.place.now.desk in
    let before = standing_of g.O.Operator.state g.D.Source.left g.P.Sink.written c.args.reader.now c.args.operator.now c.args.seat.now c.args.replies.now in
    let after = standing_of g.O.Operator.state g.D.Source.left g.P.Sink.written c.next.new.self c.handle-in-TooLong.new.operator c.handle-in-TooLong.new.seat c.handle-in-TooLong.new.replies in
    comes-of number before after c.handle-in-TooLong.result line
    (answers-as number before.held after.held c.handle-in-TooLong.result c.next.new.into line (ap (request_of (is_several number)) front ∙ long-front (is_several number) line long) c.handle-in-TooLong.ensures.answers) takes
