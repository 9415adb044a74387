use Rattle.std.proofs.Common.{false, true}
use Rattle.live_desk.specs.Operators.{number_if}
use Rattle.live_desk.specs.Standing.{held_by}
use Rattle.live_desk.proofs.ComesFacts.{replied-of}
use Rattle.live_desk.proofs.line.handle.Goals as goal

pub returns-in-Ok-clause-answers : goal.returns-in-Ok-clause-answers
returns-in-Ok-clause-answers g c =
    let before = held_by g.O.Operator.state g.P.Sink.written c.args.operator.now c.args.seat.now c.args.replies.now in
    let after = held_by g.O.Operator.state g.P.Sink.written c.handle_line-reply.new.self c.handle_line-reply.new.seat c.write_given.new.replies in
    replied-of (number_if g.O.Operator.several c.args.place.now.desk) false c.is_go-go.result c.args.line.now before after c.handle_line-reply.result c.handle_line-reply.ensures.operates c.is_go-go.ensures c.in-Ok.ensures.all

pub returns-in-Err-clause-answers : goal.returns-in-Err-clause-answers
returns-in-Err-clause-answers g c =
    let before = held_by g.O.Operator.state g.P.Sink.written c.args.operator.now c.args.seat.now c.args.replies.now in
    let after = held_by g.O.Operator.state g.P.Sink.written c.handle_line-reply.new.self c.handle_line-reply.new.seat c.write_given.new.replies in
    (c.is_go-go.result, replied-of (number_if g.O.Operator.several c.args.place.now.desk) true c.is_go-go.result c.args.line.now before after c.handle_line-reply.result c.handle_line-reply.ensures.operates c.is_go-go.ensures c.in-Err.ensures.part)
