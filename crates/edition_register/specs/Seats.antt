-- What contracts say of a register of editions and of its seats. [This profile.]
use Rattle.std.specs.Prelude.{◌≡◌, ◌<◌, ℕ, zero, suc, Bool, List, [], ◌∷◌, ◌++◌, Option, MatchOption, Result, Ok, Err, is_some}
use Rattle.std.specs.declared.alloc.Global.{Global}
use Rattle.std.specs.declared.sync.Arc.{Arc}
use Rattle.std.specs.List.{AllByRecursion}
use Rattle.histories.specs.History.{Permits, StartsWith, move, moves_of}
use Rattle.mib_model.specs.declared.database.Database.{Database}
use Rattle.mib_model.specs.declared.meaning.MadeFor as MadeFor
use Rattle.mib_model.specs.declared.meaning.Rows as Rows
use Rattle.mib_model.specs.declared.plan.Plan.{Plan}
use Rattle.run_model.specs.declared.register.Answer as seen_answer
use Rattle.run_model.specs.declared.register.Answer.TheVariants as answer
use Rattle.run_model.specs.declared.register.Entry as seen_entry
use Rattle.run_model.specs.declared.register.Entry.TheVariants as event
use Rattle.run_model.specs.declared.register.Register.{Register}
use Rattle.run_model.specs.Register.{answer_to, has_edition, opening, tables_of}
use Rattle.run_model.specs.RegisterHistories.{IsRegisterHistory, MayEnter, RegisterHistory, register_after}
use Rattle.turn_cell.specs.declared.rule.About.{About}
use Rattle.turn_cell.specs.declared.turn.Lock.{Lock}
use Rattle.turn_cell.specs.declared.view.View.{View}
use Rattle.turn_cell.specs.Seats.{Seat, IsIdle, IsSeatOf, callers_of, first_state, holdings_of, own_moves, seen_by}
use Rattle.turn_cell.specs.Views.{holding}
use Rattle.edition_register.specs.declared.editions.Editions.{Editions}
use Rattle.edition_register.specs.declared.entry.Reply.{Reply}
use Rattle.edition_register.specs.declared.entry.Reply.TheVariants as reply
use Rattle.edition_register.specs.declared.outcome.AddFault.{AddFault}
use Rattle.edition_register.specs.declared.outcome.AddFault.TheVariants as add_fault
use Rattle.edition_register.specs.declared.outcome.Closed.{Closed}
use Rattle.edition_register.specs.declared.outcome.UseFault.{UseFault}
use Rattle.edition_register.specs.declared.outcome.UseFault.TheVariants as use_fault
use Rattle.edition_register.specs.declared.register.Over.{Over}
use Rattle.edition_register.specs.declared.start.Start.{Start}
use Rattle.edition_register.specs.Shown.{HasItsTables, added_in, last_stamped}
use Rattle.edition_register.specs.Starts.{IsStart}
use Rattle.edition_register.specs.Stored.{FitsUse, begins, state_of}

-- a seat of the register
abbrev pub RegisterSeat : Type 0 → Type 0
RegisterSeat P = Seat P (View Register seen_entry.Entry seen_answer.Answer)

-- how many callers a register has of which a seat is told by its number alone: the intake's is of any register, a desk's of one with one desk
abbrev pub HasCallers : ℕ → ℕ → Type 0
HasCallers zero callers = 0 < callers
HasCallers (suc desk) callers = callers ≡ 2

module _ {E B P Q : Type 0} {rows : Rows.Ghosts E} {boards : MadeFor.Ghosts B} where
  -- the tables of edition 1
  abbrev pub first_of : Over (Lock P (View Register seen_entry.Entry seen_answer.Answer) (About (Editions E B rows boards)) Q) → Database
  first_of register = tables_of (state_of (first_state register.turn)) 1

  -- the seat is this one of a register with so many callers: it has no ticket, holds its number alone, and lists its moves
  pub record IsSeatWhere (Has : ℕ → Type 0) (number : ℕ) (register : Over (Lock P (View Register seen_entry.Entry seen_answer.Answer) (About (Editions E B rows boards)) Q))
      (seat : RegisterSeat P) : Type 0 where
    pub opens : state_of (first_state register.turn) ≡ opening (first_of register)
    pub callers : Has (callers_of register.turn)
    pub of : IsSeatOf state_of register.turn seat
    pub idle : IsIdle seat
    pub moves : RegisterHistory
    pub holds : holdings_of seat ≡ holding number moves ∷ []
    pub listed : moves_of number (seen_by seat) ≡ moves

  -- the seat of the intake of a register, or that of its one desk
  abbrev pub IsSeat : ℕ → Over (Lock P (View Register seen_entry.Entry seen_answer.Answer) (About (Editions E B rows boards)) Q) → RegisterSeat P → Type 0
  IsSeat number register seat = IsSeatWhere (HasCallers number) number register seat

module _ {P : Type 0} where
  -- the seat made one move behind all that it had seen, and lists it; the reply is the register's at that place
  pub record Moves (number : ℕ) (first : Database) (old new : RegisterSeat P) (entry : seen_entry.Entry) (reply : seen_answer.Answer) : Type 0 where
    pub before : RegisterHistory
    pub later : StartsWith before (seen_by old)
    pub legal : IsRegisterHistory first before
    pub permitted : Permits MayEnter before
    pub answers : reply ≡ answer_to (register_after first before) entry
    pub seen : seen_by new ≡ before ++ move number entry reply ∷ []
    pub own : own_moves new ≡ own_moves old ++ move number entry reply ∷ []

-- the tables of the editions that a desk's moves show
abbrev pub shown_in : Database → RegisterHistory → List Database
shown_in first moves = first ∷ added_in moves

module _ {E B P : Type 0} (tables : E → Database) (made_for : Database → B → Bool) where
  -- a packet was stamped: its start comes just where an activation begins with it, and is for its tables; else edition and tables are those of the stamp before
  pub record Stamps (first : Database) (old new : RegisterSeat P) (number edition : ℕ) (start : Option (Start E B)) : Type 0 where
    pub shown : Database
    pub moves : Moves 0 first old new event.Stamp (answer.Stamped number edition shown)
    pub exactly : is_some start ≡ begins (register_after first moves.before)
    pub begins : MatchOption start ((edition, shown) ≡ last_stamped (1, first) (own_moves old)) (λ x. IsStart tables made_for shown x)
    pub throughout : AllByRecursion (λ m. HasItsTables (register_after first moves.before).editions m.reply) (own_moves new)

module _ {E B : Type 0} (tables : E → Database) (made_for : Database → B → Bool) where
  -- a start is there just where these are the tables of an edition of this number, and is for them
  abbrev pub StartFits : List Database → ℕ → Option (Start E B) → Type 0
  StartFits editions e start = FitsUse tables made_for (record { next = 0; editions = editions; schedule = [] }) e start

module _ {E P : Type 0} where
  -- an edition was added with its plans, or its payload comes back
  abbrev pub Adds : Database → RegisterSeat P → RegisterSeat P → Database → List Plan → Arc E Global → Result ℕ (AddFault E) → Type 0
  Adds first old new tables plans payload (Ok e) = Moves 1 first old new (event.Add tables plans) (answer.Added e)
  Adds first old new tables plans payload (Err refused) = Moves 1 first old new (event.Add tables plans) answer.FullEditions
      × (refused ≡ add_fault.Full payload)

module _ {E B : Type 0} where
  -- the reply and the start of a refusal
  abbrev pub refused_by : UseFault E B → seen_answer.Answer × Option (Start E B)
  refused_by (use_fault.NoEdition count start) = (answer.NoEdition count, start)
  refused_by (use_fault.Late next start) = (answer.Late next, start)
  refused_by (use_fault.Disorder last start) = (answer.Disorder last, start)
  refused_by (use_fault.Full start) = (answer.FullPending, start)

module _ {E B : Type 0} where
  -- what a reply to an activation gives the caller
  abbrev pub IsUsed : Reply E B → Result ℕ (UseFault E B) → Type 0
  IsUsed (reply.Used k) given = given ≡ Ok k
  IsUsed (reply.NoEdition count start) given = given ≡ Err (use_fault.NoEdition count start)
  IsUsed (reply.Late next start) given = given ≡ Err (use_fault.Late next start)
  IsUsed (reply.Disorder last start) given = given ≡ Err (use_fault.Disorder last start)
  IsUsed (reply.FullPending start) given = given ≡ Err (use_fault.Full start)
  IsUsed other given = ⊥

module _ {E B P : Type 0} where
  -- a seat used an edition, or the start comes back with the register's refusal
  abbrev pub UsesAt : ℕ → Database → RegisterSeat P → RegisterSeat P → seen_entry.Entry → Option (Start E B) → Result ℕ (UseFault E B) → Type 0
  UsesAt number first old new entry start (Ok from) = Moves number first old new entry (answer.Used from)
  UsesAt number first old new entry start (Err refused) = Moves number first old new entry (refused_by refused).0 × ((refused_by refused).1 ≡ start)

  -- the one desk used an edition, or the start comes back
  abbrev pub Uses : Database → RegisterSeat P → RegisterSeat P → seen_entry.Entry → Option (Start E B) → Result ℕ (UseFault E B) → Type 0
  Uses first old new entry start given = UsesAt 1 first old new entry start given

module _ {E B : Type 0} {rows : Rows.Ghosts E} {boards : MadeFor.Ghosts B} where
  -- the whole history of a closed register
  abbrev pub history_of : Closed E B rows boards → RegisterHistory
  history_of closed = seen_by closed.seat.value
