-- Where a seat stands in the queue. [This project's own.]
use Rattle.std.specs.Prelude.{ℕ, Bool, true, false, cond}
use Rattle.turn_cell.specs.declared.view.Standing.{Standing}
use Rattle.turn_cell.specs.declared.view.Standing.TheVariants.{Idle, Waiting, InTurn, Entered}

-- whether it has a ticket
abbrev pub has_ticket : Standing → Bool
has_ticket Idle = false
has_ticket (Waiting t) = true
has_ticket (InTurn t) = true
has_ticket (Entered t) = true

-- whether it has the turn
abbrev pub has_turn : Standing → Bool
has_turn Idle = false
has_turn (Waiting t) = false
has_turn (InTurn t) = true
has_turn (Entered t) = true

-- whether it has made the entry of its turn
abbrev pub has_entered : Standing → Bool
has_entered Idle = false
has_entered (Waiting t) = false
has_entered (InTurn t) = false
has_entered (Entered t) = true

-- the ticket, or 0 where there is none
abbrev pub ticket_of : Standing → ℕ
ticket_of Idle = 0
ticket_of (Waiting t) = t
ticket_of (InTurn t) = t
ticket_of (Entered t) = t

-- 1 for true
abbrev pub bit : Bool → ℕ
bit b = cond b 1 0
