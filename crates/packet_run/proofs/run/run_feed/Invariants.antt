use Rattle.packet_run.proofs.Common.{[], ◌+◌, ◌≡◌, ◌≤◌, first_of, From, IsOf, IsSeat, Keeps, length, next_of, own_moves, Piping, seen_by, StartsWith}
use Rattle.decode_session.specs.Run.{most_packets}
use Rattle.packet_feed.specs.Feed.{source_of, SourceStays}
use Rattle.packet_run.proofs.FeedFacts.{Feeding}
use Rattle.packet_run.proofs.run.run_feed.Given as goal

abbrev pub invariant-loop : goal.invariant-loop
invariant-loop g l = record {
  seat : IsSeat 0 l.register l.seat;
  seen : StartsWith (seen_by l.seat) (seen_by l.initial.seat);
  passes : IsOf l.crew.jobs l.pipeline.first × IsOf l.crew.results l.pipeline.second;
  next : next_of l.pipeline.window ≡ l.pipeline.done + 1;
  below : l.pipeline.done ≤ l.pipeline.read;
  ahead : l.pipeline.read ≤ l.pipeline.done + 32;
  limit : l.pipeline.read ≤ most_packets;
  count : length (own_moves l.seat) ≡ l.pipeline.read;
  keeps : Keeps g.P.Structures.tables l.initial.pipeline l.pipeline;
  feeding : (from : From g.row.W.Denot) → from.first ≡ first_of l.register
      → Piping g.P.Structures.tables g.W.Watch.stands from [] l.initial.pipeline l.initial.in_use l.initial.watch (g.O.Sink.written l.initial.out)
      → Feeding g.P.Structures.tables g.W.Watch.stands from (own_moves l.seat) l.pipeline l.in_use l.watch (g.S.Source.left (source_of l.initial.feed))
      (g.S.Source.left (source_of l.feed)) (g.O.Sink.written l.out);
  feed : g.S.Source.faults (source_of l.feed) ≡ g.S.Source.faults (source_of l.initial.feed);
  out : g.O.Sink.faults l.out ≡ g.O.Sink.faults l.initial.out;
  stays : SourceStays g.S.Source.holds g.S.Source.missed g.S.Source.borrow (source_of l.initial.feed) (source_of l.feed);
}
