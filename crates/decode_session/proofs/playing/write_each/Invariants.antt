use Rattle.std.proofs.Common.{◌≡◌, take}
use Rattle.decode_session.specs.Finishing.{Leads}
use Rattle.decode_session.specs.Turns.{Prints}
use Rattle.decode_session.proofs.playing.write_each.Given as goal
use Rattle.fold_state.specs.Boards.{memory_of}

abbrev pub invariant-loop-k : goal.invariant-loop-k
invariant-loop-k g l = let db = g.P.Structures.tables l.plans in record {
  board : l.board.names ≡ l.initial.board.names;
  done : Leads db (memory_of l.initial.board) (memory_of l.board)
      (λ m after. Prints db l.job.number (take l.k l.job.stretch.packets) m after (g.O.Sink.written l.initial.out) (g.O.Sink.written l.out));
  cause : g.O.Sink.faults l.out ≡ g.O.Sink.faults l.initial.out;
}
