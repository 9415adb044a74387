use Rattle.std.proofs.Common.{◌≡◌, ◌≢◌, ◌<◌, ◌+◌, ℕ, length, reverse}
use Rattle.histories.specs.History.{StartsWith, moves_of}
use Rattle.run_model.specs.RegisterHistories.{RegisterHistory}
use Rattle.turn_cell.specs.Seats.{callers_of, holdings_of, own_moves, seen_by, HoldsAllBelow, IsIdle, IsSeatOf}
use Rattle.turn_cell.specs.Views.{AreListed}
use Rattle.edition_register.specs.Panels.{AreDesksFrom, ListFrom}
use Rattle.edition_register.specs.Stored.{state_of}
use Rattle.edition_register.proofs.panel.Register+E+B.join_all.Given as goal

abbrev pub invariant-loop-desk : goal.invariant-loop-desk
invariant-loop-desk g l =
    (n : ℕ) × (record {
      seat : IsSeatOf state_of l.self.turn l.seat × IsIdle l.seat;
      numbers : HoldsAllBelow l.seat n;
      desks : AreDesksFrom n l.self (reverse l.desks.items);
      count : n + length l.desks.items ≡ length l.fn.desks.items + 1;
      shows : (history : RegisterHistory) → AreListed history (holdings_of l.seat) → StartsWith history (seen_by l.seat) → ListFrom n history (reverse l.desks.items)
          → (moves_of 0 history ≡ own_moves l.fn.seat) × StartsWith history (seen_by l.fn.seat) × ListFrom 1 history l.fn.desks.items;
    })

abbrev pub decreases-loop-desk : goal.decreases-loop-desk
decreases-loop-desk g l = length l.desks.items
