use Rattle.std.proofs.Common.{◌+◌, ◌-◌, ◌≡◌, ◌≤◌}
use Rattle.std.specs.Prelude.{IfSome}
use Rattle.decode_session.specs.Ahead.{AreDealt, Come, packets_from}
use Rattle.decode_session.specs.Finishing.{Going, Serves}
use Rattle.decode_session.specs.Run.{most_packets}
use Rattle.decode_session.specs.Stocks.{IsStockOf}
use Rattle.decode_session.proofs.run.run_in.Given as goal
use Rattle.fold_state.specs.Boards.{memory_of}
use Rattle.mib_model.specs.Kept.{Memory}
use Rattle.packet_feed.specs.Feed.{SourceStays, source_of}

abbrev pub invariant-loop-number : goal.invariant-loop-number
invariant-loop-number g l = let db = g.P.Structures.tables l.plans in let start = g.S.Source.left (source_of l.initial.feed) in record {
  stock : IsStockOf db l.stock;
  limit : l.number ≤ most_packets + 1;
  dealt : AreDealt db l.number l.stock.ahead.jobs.items;
  come : IfSome start (λ octets. Come (packets_from l.number l.stock.ahead.jobs.items) (g.S.Source.left (source_of l.feed)));
  going : (m : Memory) × Serves db m (memory_of l.stock.board) × Going db l.number m start (g.S.Source.left (source_of l.feed)) (g.O.Sink.written l.initial.out) (g.O.Sink.written l.out);
  feed : g.S.Source.faults (source_of l.feed) ≡ g.S.Source.faults (source_of l.initial.feed);
  stays : SourceStays g.S.Source.holds g.S.Source.missed g.S.Source.borrow (source_of l.initial.feed) (source_of l.feed);
  out : g.O.Sink.faults l.out ≡ g.O.Sink.faults l.initial.out;
}

abbrev pub decreases-loop-number : goal.decreases-loop-number
decreases-loop-number g l = 1000000000 + 1 - l.number
