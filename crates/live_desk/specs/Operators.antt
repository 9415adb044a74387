-- Which desk an operator works at, and what its lines come to there. [This profile.]
use Rattle.std.specs.Prelude.{◌≡◌, ℕ, Bool, true, false, List, Option, Some, None, option_map, if◌then◌else◌}
use Rattle.mib_model.specs.declared.database.Database.{Database}
use Rattle.mib_model.specs.declared.meaning.MadeFor as MadeFor
use Rattle.mib_model.specs.declared.meaning.Rows as Rows
use Rattle.run_model.specs.declared.register.Answer.{Answer}
use Rattle.run_model.specs.declared.register.Entry.{Entry}
use Rattle.run_model.specs.declared.register.Register.{Register}
use Rattle.run_model.specs.Desk.{DeskReply, DeskState}
use Rattle.run_model.specs.RegisterHistories.{RegisterHistory}
use Rattle.run_model.specs.Replies.{desk_line}
use Rattle.turn_cell.specs.declared.rule.About.{About}
use Rattle.turn_cell.specs.declared.turn.Lock.{Lock}
use Rattle.turn_cell.specs.declared.view.View.{View}
use Rattle.turn_cell.specs.Seats.{own_moves}
use Rattle.edition_register.specs.declared.editions.Editions.{Editions}
use Rattle.edition_register.specs.declared.register.Over.{Over}
use Rattle.edition_register.specs.Panels.{IsDeskSeat}
use Rattle.edition_register.specs.Seats.{IsSeat, RegisterSeat, first_of}
use Rattle.desk.specs.Handling.{HandlesLineAt}

-- the number of the desk of a seat, where it is one of several; a single desk has none
abbrev pub number_if : Bool → ℕ → Option ℕ
number_if several seat = if several then Some seat else None

-- whether a desk is one of several, by its number
abbrev pub is_several : Option ℕ → Bool
is_several None = false
is_several (Some number) = true

-- the number of a desk's seat at the register, by its number
abbrev pub seat_of : Option ℕ → ℕ
seat_of None = 1
seat_of (Some number) = number

module _ {E B P Q : Type 0} {rows : Rows.Ghosts E} {boards : MadeFor.Ghosts B} where
  -- the seat is that of the desk of this number at the register
  abbrev pub IsSeatAt : Option ℕ → Over (Lock P (View Register Entry Answer) (About (Editions E B rows boards)) Q) → RegisterSeat P → Type 0
  IsSeatAt None register seat = IsSeat 1 register seat
  IsSeatAt (Some number) register seat = IsDeskSeat number register seat

  -- the seat is that of the desk of this number, and what its operator keeps fits the moves that the seat made behind edition 1
  abbrev pub IsSeated : Option ℕ → Over (Lock P (View Register Entry Answer) (About (Editions E B rows boards)) Q) → RegisterSeat P
      → (Database → RegisterHistory → Type 0) → Type 0
  IsSeated number register seat keeps = IsSeatAt number register seat × keeps (first_of register) (own_moves seat)

-- at the desk of this number a line went the way of its request, or want of memory refused it; the seat's moves grew by the entries that were
-- made, and this is the line of its reply, where it has one
pub record Operates (number : Option ℕ) (line : List ℕ) (old : DeskState) (before after : RegisterHistory) (reply : Option (List ℕ))
    (new : DeskState) : Type 0 where
  pub given : Option DeskReply
  pub handles : HandlesLineAt (is_several number) (seat_of number) line old before after given new
  pub told : reply ≡ option_map (desk_line number) given
