-- What moves of the register show of packets and of editions. [This profile.]
use Rattle.std.specs.Prelude.{◌≡◌, ◌≢◌, ℕ, ◌-◌, true, List, [], ◌∷◌, filter_map, Option, Some, None}
use Rattle.std.specs.List.{AllByRecursion, IsAmong, flat_map, slice_index_or}
use Rattle.mib_model.specs.declared.database.Database.{Database}
use Rattle.run_model.specs.declared.register.Answer.{Answer}
use Rattle.run_model.specs.declared.register.Answer.TheVariants.{Stamped, Added, Drawn}
use Rattle.run_model.specs.declared.register.Entry.{Entry}
use Rattle.run_model.specs.declared.register.Entry.TheVariants.{Add, AddOn}
use Rattle.run_model.specs.declared.register.Register.{Register}
use Rattle.mib_model.specs.Database.{no_rows}
use Rattle.run_model.specs.Register.{has_edition, tables_of}
use Rattle.run_model.specs.RegisterHistories.{RegisterHistory}

-- the edition and the tables that a reply stamps, or else those before
abbrev pub stamped_by : ℕ × Database → Answer → ℕ × Database
stamped_by before (Stamped number edition tables) = (edition, tables)
stamped_by before other = before

-- the edition and the tables of the last stamp, or those before where there is none
abbrev pub last_stamped : ℕ × Database → RegisterHistory → ℕ × Database
last_stamped before [] = before
last_stamped before (m ∷ ms) = last_stamped (stamped_by before m.reply) ms

-- the tables that an entry added
abbrev pub added_by : Entry → Answer → List Database
added_by (Add tables plans) (Added e) = tables ∷ []
added_by (AddOn base tables plans) (Added e) = tables ∷ []
added_by entry other = []

-- the tables that moves added, in their order
abbrev pub added_in : RegisterHistory → List Database
added_in moves = flat_map (λ m. added_by m.entry m.reply) moves

-- a stamp's tables are those of its edition
abbrev pub HasItsTables : List Database → Answer → Type 0
HasItsTables editions (Stamped number edition tables) = tables ≡ slice_index_or editions (edition - 1) no_rows
HasItsTables editions other = Unit {0}

-- no activation begins with the next packet
abbrev pub NoneBegins : Register → Type 0
NoneBegins s = AllByRecursion (λ pair. pair.from ≢ s.next) s.schedule

-- the edition that an entry added on a base, with its tables
abbrev pub added_as : ℕ → Entry → Option (ℕ × Database)
added_as e (AddOn base tables plans) = Some (e, tables)
added_as e other = None

-- the edition that an answer to a desk among several shows, with its tables: one that it added or was handed
abbrev pub shown_by : Entry → Answer → Option (ℕ × Database)
shown_by entry (Added e) = added_as e entry
shown_by entry (Drawn e tables) = Some (e, tables)
shown_by entry other = None

-- the editions that the moves of such a desk show, edition 1 before all, each with its tables
abbrev pub editions_shown : Database → RegisterHistory → List (ℕ × Database)
editions_shown first moves = (1, first) ∷ filter_map (λ m. shown_by m.entry m.reply) moves

-- the moves of such a desk show an edition with these tables
abbrev pub Shows : Database → RegisterHistory → ℕ → Database → Type 0
Shows first moves e tables = IsAmong (editions_shown first moves) (e, tables)

-- an edition of this number stands, with these tables
abbrev pub Stands : Register → ℕ × Database → Type 0
Stands s shown = (has_edition s shown.0 ≡ true) × (tables_of s shown.0 ≡ shown.1)
