use Rattle.std.proofs.Common.{◌+◌, ◌-◌, ◌≡◌, ◌<◌, ◌≤◌, ℕ, List, [], length}
use Rattle.std.specs.Prelude.{IfSome}
use Rattle.decode_session.specs.Run.{most_packets}
use Rattle.decode_session.specs.Finishing.{Leads}
use Rattle.decode_session.specs.Turns.{Adds}
use Rattle.decode_session.proofs.alone.add_batch.Given as goal
use Rattle.fold_state.specs.Boards.{memory_of}
use Rattle.fold_state.specs.declared.finish.TheConstants.{TEXT_BEFORE}
use Rattle.packet_feed.specs.Feed.{BeginsWithPacket, SourceStays, source_of}

abbrev pub invariant-loop-next : goal.invariant-loop-next
invariant-loop-next g l = record {
  board : l.board.names ≡ l.initial.board.names;
  adds : Leads (g.P.Structures.tables l.plans) (memory_of l.initial.board) (memory_of l.board) (λ m after. (packets : List (List ℕ)) × Adds (g.P.Structures.tables l.plans) l.number packets (g.S.Source.left (source_of l.initial.feed)) (g.S.Source.left (source_of l.feed)) m after [] l.lines × (l.next ≡ l.number + length packets));
  limit : l.next ≤ most_packets;
  order : l.number ≤ l.next;
  few : l.next ≤ l.end;
  ahead : l.number < l.next → IfSome (g.S.Source.left (source_of l.feed)) BeginsWithPacket;
  room : length l.lines ≤ TEXT_BEFORE;
  faults : g.S.Source.faults (source_of l.feed) ≡ g.S.Source.faults (source_of l.initial.feed);
  stays : SourceStays g.S.Source.holds g.S.Source.missed g.S.Source.borrow (source_of l.initial.feed) (source_of l.feed);
}

abbrev pub decreases-loop-next : goal.decreases-loop-next
decreases-loop-next g l = l.end - l.next
