-- What contracts say of a register's seats where it has several desks. [This profile.]
use Rattle.std.specs.Prelude.{◌≡◌, ◌<◌, ◌≤◌, ℕ, suc, Bool, true, List, [], ◌∷◌, Result, Ok, Err}
use Rattle.std.specs.Arc.{arc_value}
use Rattle.std.specs.declared.alloc.AllocError.{AllocError}
use Rattle.std.specs.declared.alloc.Global.{Global}
use Rattle.std.specs.declared.sync.Arc.{Arc}
use Rattle.histories.specs.History.{StartsWith, moves_of}
use Rattle.mib_model.specs.declared.database.Database.{Database}
use Rattle.mib_model.specs.declared.meaning.MadeFor as MadeFor
use Rattle.mib_model.specs.declared.meaning.Rows as Rows
use Rattle.mib_model.specs.declared.plan.Plan.{Plan}
use Rattle.run_model.specs.declared.register.Answer as seen_answer
use Rattle.run_model.specs.declared.register.Answer.TheVariants as answer
use Rattle.run_model.specs.declared.register.Entry as seen_entry
use Rattle.run_model.specs.declared.register.Entry.TheVariants as event
use Rattle.run_model.specs.declared.register.Register.{Register}
use Rattle.run_model.specs.RegisterHistories.{RegisterHistory}
use Rattle.turn_cell.specs.declared.rule.About.{About}
use Rattle.turn_cell.specs.declared.turn.Lock.{Lock}
use Rattle.turn_cell.specs.declared.view.View.{View}
use Rattle.turn_cell.specs.Seats.{callers_of, holdings_of, own_moves, seen_by}
use Rattle.turn_cell.specs.Views.{AreListed}
use Rattle.edition_register.specs.declared.editions.Editions.{Editions}
use Rattle.edition_register.specs.declared.outcome.AddOnFault.{AddOnFault}
use Rattle.edition_register.specs.declared.outcome.AddOnFault.TheVariants as add_on_fault
use Rattle.edition_register.specs.declared.outcome.Drawn.{Drawn}
use Rattle.edition_register.specs.declared.outcome.LookFault.{LookFault}
use Rattle.edition_register.specs.declared.outcome.LookFault.TheVariants as look_fault
use Rattle.edition_register.specs.declared.register.Over.{Over}
use Rattle.edition_register.specs.declared.start.Start.{Start}
use Rattle.edition_register.specs.Seats.{IsSeatWhere, Moves, RegisterSeat}
use Rattle.edition_register.specs.Shown.{Shows}

-- a register with so many callers has a desk of this number
abbrev pub HasDesk : ℕ → ℕ → Type 0
HasDesk number callers = (1 ≤ number) × (number < callers)

module _ {E B P Q : Type 0} {rows : Rows.Ghosts E} {boards : MadeFor.Ghosts B} where
  -- the seat is that of this desk of the register
  abbrev pub IsDeskSeat : ℕ → Over (Lock P (View Register seen_entry.Entry seen_answer.Answer) (About (Editions E B rows boards)) Q) → RegisterSeat P → Type 0
  IsDeskSeat number register seat = IsSeatWhere (HasDesk number) number register seat

  -- the seats are those of all desks of the register from this one on, in their order
  abbrev pub AreDesksFrom : ℕ → Over (Lock P (View Register seen_entry.Entry seen_answer.Answer) (About (Editions E B rows boards)) Q) → List (RegisterSeat P) → Type 0
  AreDesksFrom number register [] = callers_of register.turn ≡ number
  AreDesksFrom number register (seat ∷ seats) = IsDeskSeat number register seat × AreDesksFrom (suc number) register seats

module _ {P : Type 0} where
  -- each seat lists the moves of its number in the history, from this number on, and saw a first part of it
  abbrev pub ListFrom : ℕ → RegisterHistory → List (RegisterSeat P) → Type 0
  ListFrom number history [] = Unit {0}
  ListFrom number history (seat ∷ seats) =
      (moves_of number history ≡ own_moves seat) × StartsWith history (seen_by seat) × ListFrom (suc number) history seats

  -- a history in which the moves of all numbers of a seat are as it lists them, and of which it saw a first part, shows what these seats did that were joined to it
  abbrev pub ShowsAll : RegisterSeat P → List (RegisterSeat P) → RegisterSeat P → Type 0
  ShowsAll intake desks joined =
      (history : RegisterHistory) → AreListed history (holdings_of joined) → StartsWith history (seen_by joined)
      → (moves_of 0 history ≡ own_moves intake) × StartsWith history (seen_by intake) × ListFrom 1 history desks

module _ {E B : Type 0} (tables : E → Database) (made_for : Database → B → Bool) where
  -- the moves show the tables of the start's handle under this number, and its board was made for them
  abbrev pub IsShown : Database → RegisterHistory → ℕ → Start E B → Type 0
  IsShown first moves e start = Shows first moves e (tables (arc_value start.handle)) × (made_for (tables (arc_value start.handle)) start.board ≡ true)

module _ {E P : Type 0} where
  -- an edition was added on a base with its plans, or its payload comes back with the register's refusal
  abbrev pub AddsOn : ℕ → Database → RegisterSeat P → RegisterSeat P → ℕ → Database → List Plan → Arc E Global → Result ℕ (AddOnFault E) → Type 0
  AddsOn number first old new base tables plans payload (Ok e) = Moves number first old new (event.AddOn base tables plans) (answer.Added e)
  AddsOn number first old new base tables plans payload (Err (add_on_fault.Stale newer back)) =
      Moves number first old new (event.AddOn base tables plans) (answer.Stale newer) × (back ≡ payload)
  AddsOn number first old new base tables plans payload (Err (add_on_fault.Full back)) =
      Moves number first old new (event.AddOn base tables plans) answer.FullEditions × (back ≡ payload)

module _ {E P : Type 0} (tables : E → Database) where
  -- the newest edition came with a handle of its tables; where memory was wanting the register was asked too
  abbrev pub Draws : ℕ → Database → RegisterSeat P → RegisterSeat P → Result (Drawn E) AllocError → Type 0
  Draws number first old new (Ok drawn) = Moves number first old new event.Newest (answer.Drawn drawn.edition (tables (arc_value drawn.handle)))
  Draws number first old new (Err wanting) = (e : ℕ) × (t : Database) × Moves number first old new event.Newest (answer.Drawn e t)

  -- a handle of the edition's tables came, or the register has no such edition; where memory was wanting the register was asked too
  abbrev pub Looks : ℕ → Database → RegisterSeat P → RegisterSeat P → ℕ → Result (Arc E Global) LookFault → Type 0
  Looks number first old new e (Ok handle) = Moves number first old new (event.Look e) (answer.Drawn e (tables (arc_value handle)))
  Looks number first old new e (Err (look_fault.NoEdition count)) = Moves number first old new (event.Look e) (answer.NoEdition count)
  Looks number first old new e (Err look_fault.Memory) = (t : Database) × Moves number first old new (event.Look e) (answer.Drawn e t)
