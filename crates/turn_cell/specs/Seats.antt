-- What contracts say of a turn and of its seats. [This project's own.]
use Rattle.std.specs.Prelude.{◌≡◌, ◌≢◌, ℕ, true, false, ◌<◌, ◌≤◌, List, [], ◌∷◌, length, Some}
pub use Rattle.atomic_table.specs.declared.shared.Seat.{Seat}
use Rattle.histories.specs.declared.history.Move.{Move}
use Rattle.turn_cell.specs.declared.rule.About.{About}
use Rattle.turn_cell.specs.declared.slot.Slot.{Slot}
use Rattle.turn_cell.specs.declared.slot.Slot.TheVariants.{Noted, Out}
use Rattle.turn_cell.specs.declared.turn.Lock.{Lock}
use Rattle.turn_cell.specs.declared.view.Holding.{Holding}
use Rattle.turn_cell.specs.declared.view.Standing.TheVariants.{Idle}
use Rattle.turn_cell.specs.declared.view.View.{View}
use Rattle.turn_cell.specs.Standings.{has_turn, has_entered}
use Rattle.turn_cell.specs.Views.{times, least, listed, origin_of}

module _ {P D S Q : Type 0} where
  -- how many callers the turn was made for
  abbrev pub callers_of : Lock P D (About S) Q → ℕ
  callers_of turn = turn.table.shared.key.callers

  -- the state that the turn was made with
  abbrev pub first_state : Lock P D (About S) Q → S
  first_state turn = turn.table.shared.key.state.value

module _ {P C E A : Type 0} where
  -- the numbers that the seat holds, each with all moves that were made under it
  abbrev pub holdings_of : Seat P (View C E A) → List (Holding E A)
  holdings_of seat = seat.me.0.holdings

  -- how much of the history the seat has seen
  abbrev pub seen_by : Seat P (View C E A) → List (Move E A)
  seen_by seat = seat.me.0.seen

  -- the number that the seat enters under, and the moves that were made under it
  abbrev pub number_of : Seat P (View C E A) → ℕ
  number_of seat = least seat.me.0.holdings

  -- all moves that the seat made, in their order
  abbrev pub own_moves : Seat P (View C E A) → List (Move E A)
  own_moves seat = listed (least seat.me.0.holdings) seat.me.0.holdings

  -- the seat holds each number below this one
  abbrev pub HoldsAllBelow : Seat P (View C E A) → ℕ → Type 0
  HoldsAllBelow seat callers = (n : ℕ) → n < callers → times n seat.me.0.holdings ≢ 0

  -- the seat has no ticket
  abbrev pub IsIdle : Seat P (View C E A) → Type 0
  IsIdle seat = (seat.me.0.standing ≡ Idle) × (seat.me.1 ≡ [])

  -- the seat is one of this turn
  abbrev pub IsSeatOf : {S Q : Type 0} → (S → C) → Lock P (View C E A) (About S) Q → Seat P (View C E A) → Type 0
  IsSeatOf mean turn seat = (seat.table_id ≡ turn.table.shared.table_id) × (seat.me.0.origin ≡ Some (origin_of (mean (first_state turn)) (callers_of turn)))

module _ {S N C E A : Type 0} where
  -- the seat has the turn under one of its numbers, and has made no entry in it
  abbrev pub HasTurn : Seat (Slot S N) (View C E A) → Type 0
  HasTurn seat = (has_turn seat.me.0.standing ≡ true) × (has_entered seat.me.0.standing ≡ false) × (seat.me.1 ≡ (0, Out) ∷ []) × (1 ≤ length seat.me.0.holdings)

  -- the seat has the turn, and has made its entry
  abbrev pub HasEntered : Seat (Slot S N) (View C E A) → Type 0
  HasEntered seat = (has_entered seat.me.0.standing ≡ true) × ((note : N) × (seat.me.1 ≡ (0, Noted note) ∷ []))

  -- the seat is one of this turn, and has it under one of its numbers with no entry made
  abbrev pub IsInTurn : {M Q : Type 0} → (M → C) → Lock (Slot S N) (View C E A) (About M) Q → Seat (Slot S N) (View C E A) → Type 0
  IsInTurn mean turn seat = IsSeatOf mean turn seat × HasTurn seat

  -- the seat is one of this turn, and has it with its entry made
  abbrev pub IsEntered : {M Q : Type 0} → (M → C) → Lock (Slot S N) (View C E A) (About M) Q → Seat (Slot S N) (View C E A) → Type 0
  IsEntered mean turn seat = IsSeatOf mean turn seat × HasEntered seat
