use Rattle.std.proofs.Common.{◌≡◌, ℕ, ◌+◌, ◌≤◌, length}
use Rattle.turn_cell.specs.declared.sum.Sum.{Sum}
use Rattle.turn_cell.specs.Views.{times}
use Rattle.turn_cell.specs.Seats.{holdings_of, own_moves, IsIdle, IsSeatOf}
use Rattle.part_tests.proofs.turns.add.Given as goal

abbrev pub invariant-loop-turn : goal.invariant-loop-turn
invariant-loop-turn g l = record {
  seat : IsSeatOf (λ (sum : Sum). sum.total) l.turn l.seat;
  idle : IsIdle l.seat;
  number : 1 ≤ length (holdings_of l.seat);
  own : length (own_moves l.seat) ≡ length (own_moves l.fn.seat) + l._turn;
  numbers : (n : ℕ) → times n (holdings_of l.seat) ≡ times n (holdings_of l.fn.seat);
}
