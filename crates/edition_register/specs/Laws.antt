-- What a history of the register shows each seat. [This profile.]
use Rattle.std.specs.Prelude.{◌≡◌, ℕ, ◌+◌, ◌∷◌, length}
use Rattle.std.specs.List.{AllByRecursion}
use Rattle.histories.specs.History.{IsOfSeatsBelow, Permits, moves_of}
use Rattle.mib_model.specs.declared.database.Database.{Database}
use Rattle.run_model.specs.declared.register.Answer.TheVariants.{Stamped}
use Rattle.run_model.specs.declared.register.Entry.TheVariants.{Stamp}
use Rattle.run_model.specs.Register.{answer_to}
use Rattle.run_model.specs.RegisterHistories.{RegisterHistory, IsRegisterHistory, MayEnter, register_after}
use Rattle.edition_register.specs.Shown.{added_in, editions_shown, last_stamped, HasItsTables, NoneBegins, Stands}

-- the next packet's number is one more than the intake has moves
abbrev pub IntakeCounts : Type 0
IntakeCounts = (first : Database) (history : RegisterHistory) → IsRegisterHistory first history → Permits MayEnter history
    → (register_after first history).next ≡ 1 + length (moves_of 0 history)

-- the editions are the first and those that the desk's moves show
abbrev pub DeskShowsEditions : Type 0
DeskShowsEditions = (first : Database) (history : RegisterHistory) → IsRegisterHistory first history → Permits MayEnter history → IsOfSeatsBelow 2 history
    → (register_after first history).editions ≡ first ∷ added_in (moves_of 1 history)

-- a stamp at which no activation begins has the edition and the tables of the intake's stamp before, or edition 1 and its tables
abbrev pub StampGoesOn : Type 0
StampGoesOn = (first : Database) (history : RegisterHistory) (n e : ℕ) (tables : Database) → IsRegisterHistory first history → Permits MayEnter history
    → answer_to (register_after first history) Stamp ≡ Stamped n e tables → NoneBegins (register_after first history)
    → (e, tables) ≡ last_stamped (1, first) (moves_of 0 history)

-- one edition has the same tables throughout: each stamp's are those of its edition at the end
abbrev pub TablesStay : Type 0
TablesStay = (first : Database) (history : RegisterHistory) → IsRegisterHistory first history
    → AllByRecursion (λ m. HasItsTables (register_after first history).editions m.reply) history

-- what the moves of a seat show stays: at the end of the history each edition that they show stands, with these tables
abbrev pub ShownStays : Type 0
ShownStays = (first : Database) (history : RegisterHistory) (seat : ℕ) → IsRegisterHistory first history
    → AllByRecursion (Stands (register_after first history)) (editions_shown first (moves_of seat history))
