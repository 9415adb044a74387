use Rattle.std.proofs.Common.{◌≡◌, ◌-◌}
use Rattle.desk_lines.proofs.PieceFacts.{Taking}
use Rattle.desk_lines.proofs.piece.take_piece.Given as goal

abbrev pub invariant-loop-octets : goal.invariant-loop-octets
invariant-loop-octets g l = record {
  taking : Taking l.octets l.room (g.S.Source.left l.initial.source) (g.S.Source.left l.source) l.into;
  faults : g.S.Source.faults l.source ≡ g.S.Source.faults l.initial.source;
  holds : g.S.Source.holds l.source ≡ g.S.Source.holds l.initial.source;
  missed : g.S.Source.missed l.source ≡ g.S.Source.missed l.initial.source;
  borrow : g.S.Source.borrow l.source ≡ g.S.Source.borrow l.initial.source;
}

abbrev pub decreases-loop-octets : goal.decreases-loop-octets
decreases-loop-octets g l = l.room - l.octets
