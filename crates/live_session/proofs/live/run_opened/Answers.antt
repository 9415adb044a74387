use Rattle.std.proofs.Common.{◌∙◌, ap}
use Rattle.desk.specs.State.{desk_of}
use Rattle.desk_lines.specs.Reader.{source_of}
use Rattle.edition_register.specs.Seats.{first_of, history_of}
use Rattle.live_desk.specs.Standing.{standing_of}
use Rattle.live_desk.specs.DeskEnds.{is_reply_fault}
use Rattle.live_session.specs.Codes.{code_by}
use Rattle.live_session.proofs.LiveFacts.{watched-of, unfailed}
use Rattle.live_session.proofs.live.run_opened.Goals as goal
use Rattle.turn_cell.specs.Seats.{own_moves, seen_by}

pub returns-clause-leaves : goal.returns-clause-leaves
returns-clause-leaves g c =
    let intake = c.run.new.intake in let desk = c.run.new.side in let close = c.close.ensures in let ran = c.run.ensures in
    let ended = c.run.result.0 in let end = c.run.result.1 in
    let script = source_of c.args.reader.now in let behind = source_of c.run.new.reader in
    let before = standing_of desk_of g.D.Source.left g.P.Sink.written c.args.reader.now c.args.opened.desk.desk c.args.opened.desk.seat c.args.replies.now in
    let after = standing_of desk_of g.D.Source.left g.P.Sink.written c.run.new.reader desk.desk desk.seat c.run.new.replies in
    let counts = g.P.Sink.faults in
    record {
      watched =
          watched-of g.W.Watch.stands c.args.opened.intake.watch intake.watch ended (first_of c.args.opened.register) (history_of c.close.result) (own_moves intake.seat) close.legal close.permitted close.intake
          c.merged.result end (seen_by intake.seat) before after
          (g.F.Source.faults c.args.feed.now) (g.F.Source.faults c.run.new.feed) (g.D.Source.faults script) (g.D.Source.faults behind)
          (g.O.Sink.faults c.args.out.now) (g.O.Sink.faults c.run.new.out) (counts c.args.replies.now) (counts c.run.new.replies)
          (g.F.Source.left c.args.feed.now) (g.F.Source.left c.run.new.feed)
          (g.O.Sink.written c.args.out.now) (g.O.Sink.written c.run.new.out)
          c.merged.ensures close.seats close.desk close.seen.0 ran.takes.out_cause ran.takes.runs ran.desked ran.causes.script_cause ran.causes.replies_cause;
      handed = λ other. ran.takes.handed (λ is. other (c.merged.ensures ∙ ap (λ e. code_by e end) is));
      replied = λ same more all. ran.causes.handed (unfailed (is_reply_fault end) (counts c.args.replies.now) (counts c.run.new.replies) ran.causes.replies_cause same more) all;
      numbers = (close.next, close.editions);
      feed_holds = ran.takes.holds;
      feed_turned = ran.takes.turned;
      desk_holds = ran.kept.0;
      desk_turned = ran.kept.1;
    }
