-- Editions that are looked at before they are used. [This profile.]
use Rattle.std.specs.Prelude.{◌≡◌, ℕ, true, Result, Ok, Err}
use Rattle.std.specs.Arc.{arc_value}
use Rattle.edition_register.specs.declared.start.Start.{Start}
use Rattle.edition_register.specs.Seats.{Moves, RegisterSeat}
use Rattle.fold_state.specs.Boards.{Slots, is_made_for}
use Rattle.mib_model.specs.declared.database.Database.{Database}
use Rattle.run_model.specs.declared.register.Answer.TheVariants as answer
use Rattle.run_model.specs.declared.register.Entry.TheVariants as entry
use Rattle.run_model.specs.declared.reply.Reply.{Reply}
use Rattle.run_model.specs.declared.reply.Reply.TheVariants as reply

module _ {P : Type 0} where
  -- a seat looked at an edition: a start came with its tables, for which its board was made; or there is no such edition; or memory was wanting
  abbrev pub LooksFor : ℕ → Database → RegisterSeat P → RegisterSeat P → ℕ → Result (Start Database Slots) Reply → Type 0
  LooksFor number first old new e (Ok start) =
      Moves number first old new (entry.Look e) (answer.Drawn e (arc_value start.handle)) × (is_made_for (arc_value start.handle) start.board ≡ true)
  LooksFor number first old new e (Err (reply.NoEdition count)) = Moves number first old new (entry.Look e) (answer.NoEdition count)
  LooksFor number first old new e (Err reply.Want) = (tables : Database) × Moves number first old new (entry.Look e) (answer.Drawn e tables)
  LooksFor number first old new e (Err other) = ⊥
