use Rattle.std.proofs.Common.{[], false, sym, ◌∙◌, refl, append-nil, arith}
use Rattle.live_desk.specs.Operators.{number_if}
use Rattle.live_desk.specs.Standing.{standing_of}
use Rattle.live_desk.proofs.DeskFacts.{starts-more}
use Rattle.live_desk.proofs.ScriptFacts.{working-start, working-more, working-pauses, working-ends, line-counted}
use Rattle.live_desk.proofs.script.handle_lines.Goals as goal
use Rattle.turn_cell.specs.Seats.{seen_by}

pub loop-go-init : goal.loop-go-init
loop-go-init g c = record {
  seated = c.requires.seated;
  room = c.requires.room;
  seen = ([], sym (append-nil (seen_by c.args.seat.now)));
  working = working-start (number_if g.O.Operator.several c.args.place.now.desk) c.args.until_go (standing_of g.O.Operator.state g.D.Source.left g.P.Sink.written c.args.reader.now c.args.operator.now c.args.seat.now c.args.replies.now);
  buffer = c.requires.buffer;
  script = refl;
  replies = refl;
  handed = λ all. all;
  stays = (refl, refl, refl);
}

pub returns-then-is_awaited-clause-worked : goal.returns-then-is_awaited-clause-worked
returns-then-is_awaited-clause-worked g c =
    let before = standing_of g.O.Operator.state g.D.Source.left g.P.Sink.written c.args.reader.now c.args.operator.now c.args.seat.now c.args.replies.now in
    let middle = standing_of g.O.Operator.state g.D.Source.left g.P.Sink.written c.loop-go.reader c.loop-go.operator c.loop-go.seat c.loop-go.replies in
    let after = standing_of g.O.Operator.state g.D.Source.left g.P.Sink.written c.next_line.new.reader c.next_line.new.operator c.next_line.new.seat c.next_line.new.replies in
    let inv = c.loop-go.invariant in let yes = c.is_awaited.ensures.yes c.if-is_awaited.true in
    working-pauses (number_if g.O.Operator.several c.args.place.now.desk) c.args.until_go before middle after inv.working c.in-Handled.go yes.0 yes.1 c.in-Handled.ensures.comes

pub loop-go-preserved : goal.loop-go-preserved
loop-go-preserved g c =
    let before = standing_of g.O.Operator.state g.D.Source.left g.P.Sink.written c.args.reader.now c.args.operator.now c.args.seat.now c.args.replies.now in
    let middle = standing_of g.O.Operator.state g.D.Source.left g.P.Sink.written c.loop-go.reader c.loop-go.operator c.loop-go.seat c.loop-go.replies in
    let after = standing_of g.O.Operator.state g.D.Source.left g.P.Sink.written c.next_line.new.reader c.next_line.new.operator c.next_line.new.seat c.next_line.new.replies in
    let inv = c.loop-go.invariant in let few = c.next_line.ensures.few in let h = c.in-Handled.ensures.comes in
    record {
      seated = c.next_line.ensures.seated;
      room = let n = inv.room in let e = line-counted (number_if g.O.Operator.several c.args.place.now.desk) false c.in-Handled.go middle after h in omega (arith, e);
      seen = starts-more (seen_by c.args.seat.now) (seen_by c.loop-go.seat) (seen_by c.next_line.new.seat) inv.seen c.next_line.ensures.seen;
      working = working-more (number_if g.O.Operator.several c.args.place.now.desk) c.args.until_go before middle after inv.working c.in-Handled.go (c.is_awaited.ensures.no c.if-is_awaited.false) h;
      buffer = c.next_line.ensures.buffer;
      script = c.in-Handled.ensures.script ∙ inv.script;
      replies = c.in-Handled.ensures.replies ∙ inv.replies;
      handed = λ all. c.in-Handled.ensures.handed refl (inv.handed all);
      stays = (c.next_line.ensures.kept.0 ∙ inv.stays.0, c.next_line.ensures.kept.1 ∙ inv.stays.1, c.next_line.ensures.kept.2 ∙ inv.stays.2);
    }

pub returns-in-Ended-clause-worked : goal.returns-in-Ended-clause-worked
returns-in-Ended-clause-worked g c =
    let before = standing_of g.O.Operator.state g.D.Source.left g.P.Sink.written c.args.reader.now c.args.operator.now c.args.seat.now c.args.replies.now in
    let middle = standing_of g.O.Operator.state g.D.Source.left g.P.Sink.written c.loop-go.reader c.loop-go.operator c.loop-go.seat c.loop-go.replies in
    let after = standing_of g.O.Operator.state g.D.Source.left g.P.Sink.written c.next_line.new.reader c.next_line.new.operator c.next_line.new.seat c.next_line.new.replies in
    working-ends (number_if g.O.Operator.several c.args.place.now.desk) c.args.until_go before middle after c.loop-go.invariant.working c.in-Ended.end (c.next_line.new.reader.few, c.next_line.new.reader.short) c.in-Ended.ensures.comes
