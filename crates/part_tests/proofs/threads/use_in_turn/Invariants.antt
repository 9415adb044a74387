use Rattle.std.proofs.Common.{◌≡◌, ◌≤◌, ◌+◌, ◌∷◌, [], length}
use Rattle.mib_model.specs.Database.{no_rows}
use Rattle.turn_cell.specs.Seats.{own_moves}
use Rattle.edition_register.specs.Seats.{IsSeat, first_of, shown_in}
use Rattle.part_tests.proofs.threads.use_in_turn.Given as goal

abbrev pub invariant-loop-turn : goal.invariant-loop-turn
invariant-loop-turn g l = record {
  seat : IsSeat 1 l.register l.seat;
  own : length (own_moves l.seat) ≤ 2 + l.turn;
  shown : shown_in (first_of l.register) (own_moves l.seat) ≡ no_rows ∷ no_rows ∷ no_rows ∷ [];
}
