-- The pieces of a sheet: the records of a stretch of packets, as far as they are known before it is known what is kept. [This profile.]
use Rattle.std.specs.Prelude.{ℕ, ℤ, List, [], ◌∷◌, ◌++◌, Option, Some}
use Rattle.param_state.specs.FinishedValues.{bare_value}
use Rattle.fold_state.specs.Opened.{opened}
use Rattle.line_marks.specs.Marks.{told_after_nominal}
use Rattle.mib_model.specs.declared.database.Database.{Database}
use Rattle.mib_model.specs.Finish.{finished}
use Rattle.mib_model.specs.Kept.{Memory, entered}

-- octets; a raw number of a name, which is its latest; a number of a name that is nominal; a value of a name, with its raw number
-- where it has one, whose line goes on by what is kept
pub data Piece : Type 0 where
  Text : (octets : List ℕ) → Piece
  Enter : (name : List ℕ) (raw : ℤ) → Piece
  Calm : (name : List ℕ) (number : ℤ) → Piece
  Open : (name : List ℕ) (raw : Option ℤ) → Piece

-- what is kept after pieces, and their octets
abbrev pub Played : Type 0
Played = Memory × List ℕ

-- one piece
abbrev pub played_one : Database → Piece → Memory → Played
played_one db (Text octets) memory = (memory, octets)
played_one db (Enter name raw) memory = (entered memory (bare_value name (Some raw)), [])
played_one db (Calm name number) memory = told_after_nominal memory name number
played_one db (Open name raw) memory = opened (finished db memory (bare_value name raw))

-- octets in front of those that are played
abbrev pub behind : List ℕ → Played → Played
behind octets others = (others.0, octets ++ others.1)

-- one, and then another from what the first has left
abbrev pub and_then : Played → (Memory → Played) → Played
and_then first next = behind first.1 (next first.0)

-- pieces in their order
unfoldable pub played : Database → List Piece → Memory → Played
played db [] memory = (memory, [])
played db (p ∷ ps) memory = behind (played_one db p memory).1 (played db ps (played_one db p memory).0)
