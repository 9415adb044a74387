use Rattle.std.proofs.Common.{◌≡◌, ◌-◌, ◌*◌, ◌≤◌, length}
use Rattle.desk_lines.specs.Reader.{reading_of, source_of}
use Rattle.desk_lines.specs.declared.reader.TheConstants.{LINE_ROOM}
use Rattle.histories.specs.History.{StartsWith}
use Rattle.live_desk.specs.Operators.{IsSeated, number_if}
use Rattle.live_desk.specs.Scripts.{Working}
use Rattle.live_desk.specs.Standing.{standing_of}
use Rattle.live_desk.proofs.script.handle_lines.Given as goal
use Rattle.packet_feed.specs.Feed.{SourceStays}
use Rattle.turn_cell.specs.Seats.{own_moves, seen_by}

abbrev pub invariant-loop-go : goal.invariant-loop-go
invariant-loop-go g l = record {
  seated : IsSeated (number_if g.O.Operator.several l.place.desk) l.place.register.now l.seat (g.O.Operator.keeps l.operator);
  room : length (own_moves l.seat) ≤ 2 * (reading_of l.reader).lines;
  seen : StartsWith (seen_by l.seat) (seen_by l.initial.seat);
  working : Working (number_if g.O.Operator.several l.place.desk) l.until_go (standing_of g.O.Operator.state g.D.Source.left g.P.Sink.written l.initial.reader l.initial.operator l.initial.seat l.initial.replies)
      (standing_of g.O.Operator.state g.D.Source.left g.P.Sink.written l.reader l.operator l.seat l.replies);
  buffer : length l.buffer ≡ LINE_ROOM;
  script : g.D.Source.faults (source_of l.reader) ≡ g.D.Source.faults (source_of l.initial.reader);
  replies : g.P.Sink.faults l.replies ≡ g.P.Sink.faults l.initial.replies;
  handed : g.P.Sink.handed l.initial.replies ≡ g.P.Sink.written l.initial.replies → g.P.Sink.handed l.replies ≡ g.P.Sink.written l.replies;
  stays : SourceStays g.D.Source.holds g.D.Source.missed g.D.Source.borrow (source_of l.initial.reader) (source_of l.reader);
}

abbrev pub decreases-loop-go : goal.decreases-loop-go
decreases-loop-go g l = 1000001 - (reading_of l.reader).lines
