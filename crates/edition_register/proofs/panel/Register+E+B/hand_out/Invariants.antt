use Rattle.std.proofs.Common.{◌≡◌, ◌+◌, ◌-◌, ◌≤◌, [], length, reverse, vec_capacity}
use Rattle.std.specs.List.{AllByRecursion}
use Rattle.turn_cell.specs.Seats.{holdings_of, own_moves, seen_by, IsIdle, IsSeatOf}
use Rattle.turn_cell.specs.Views.{holdings_below}
use Rattle.edition_register.specs.Panels.{AreDesksFrom}
use Rattle.edition_register.specs.Stored.{state_of}
use Rattle.edition_register.proofs.panel.Register+E+B.hand_out.Given as goal

abbrev pub invariant-loop : goal.invariant-loop
invariant-loop g l = record {
  seat : IsSeatOf state_of l.self.turn l.intake × IsIdle l.intake;
  holds : holdings_of l.intake ≡ holdings_below (l.desks + 1 - l.counter);
  seen : seen_by l.intake ≡ [];
  count : length l.seats.items ≡ l.counter;
  room : 4 ≤ vec_capacity l.seats;
  seats : AreDesksFrom (l.desks + 1 - l.counter) l.self (reverse l.seats.items);
  unmoved : AllByRecursion (λ seat. own_moves seat ≡ []) (reverse l.seats.items);
}
