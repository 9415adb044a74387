-- What is drawn behind a sheet. [This profile.]
use Rattle.std.specs.Prelude.{◌≡◌, ℕ, Bool, List, [], ◌∷◌, ◌++◌, IsSome}
use Rattle.std.specs.List.{flat_map, position}
use Rattle.std.specs.Str.{bytes_eq}
use Rattle.line_sheets.specs.Pieces.{Played, and_then, played}
use Rattle.line_sheets.specs.Sheets.{AreSeated, SheetView, pieces_of}
use Rattle.memory_laws.specs.Alike.{AreAlike, TellAlike}
use Rattle.mib_model.specs.declared.database.Database.{Database}
use Rattle.mib_model.specs.declared.packet.Value.{Value}
use Rattle.mib_model.specs.Finish.{all_finished}
use Rattle.mib_model.specs.Headers.{header_of}
use Rattle.mib_model.specs.Interpreter.{StampedPacket, finished_for, title_of, values_of}
use Rattle.mib_model.specs.Kept.{Memory, all_entered}
use Rattle.mib_model.specs.Match.{match_of}
use Rattle.mib_model.specs.Tails.{Told}
use Rattle.mib_model.specs.Texts.{ended_text, head_text, told_text}
use Rattle.param_plan.specs.Slices.{ParamSlice}

-- a name has a plan among plans
abbrev pub HasPlan : List ParamSlice → List ℕ → Type 0
HasPlan params name = IsSome (position (λ slice. bytes_eq slice.pcf.name name) params)

-- a sheet is another with more behind it, which is played so whatever is kept, and names that have seats are spoken of alone
pub record Adds (db : Database) (names : List (List ℕ)) (old new : SheetView) (more : Memory → Played) : Type 0 where
  pub played : (memory : Memory) → played db (pieces_of names new) memory ≡ and_then (played db (pieces_of names old) memory) more
  pub seated : AreSeated names old.runs → AreSeated names new.runs

-- from memories that are alike both give the same octets, and what is kept is alike
abbrev pub PlaysAlike : (List ℕ → Bool) → (Memory → Played) → (Memory → Played) → Type 0
PlaysAlike asked f g = (memory kept : Memory) → AreAlike asked memory kept → TellAlike asked (f memory) (g kept)

-- a sheet is another with more behind it, which is played so as far as names are asked, and names that have seats are spoken of alone
pub record AddsFor (asked : List ℕ → Bool) (db : Database) (names : List (List ℕ)) (old new : SheetView) (more : Memory → Played) : Type 0 where
  pub extra : Memory → Played
  pub adds : Adds db names old new extra
  pub alike : PlaysAlike asked more extra

-- what is kept after values of a packet, and their lines
abbrev pub values_played : Database → List ℕ → List Value → Memory → Played
values_played db packet vs memory =
    ((all_finished db memory vs).0, flat_map (told_text packet) (all_finished db memory vs).1)

-- what is kept after a packet with such values, and its record, where its head and its end are these
abbrev pub body_played : Database → List ℕ → List Value → List ℕ → List ℕ → Memory → Played
body_played db packet vs head ended memory =
    ((all_finished db (all_entered memory vs) vs).0, head ++ flat_map (told_text packet) (all_finished db (all_entered memory vs) vs).1 ++ ended)

-- the head of a packet's record
abbrev pub head_of : StampedPacket → List ℕ
head_of s = head_text s.number (header_of s.packet) (match_of s.tables s.packet) (title_of s.tables (match_of s.tables s.packet))

-- the octets of a packet's record without its edition, where such is told of its values
abbrev pub body_of : StampedPacket → List Told → List ℕ
body_of s tolds = head_of s ++ flat_map (told_text s.packet) tolds ++ ended_text (values_of s.tables s.packet (match_of s.tables s.packet)).1

-- what is kept after a packet and its record without its edition, by the definitions
abbrev pub packet_played : StampedPacket → Memory → Played
packet_played s memory = ((finished_for s memory).0, body_of s (finished_for s memory).1)

-- the records of packets without their editions, each from what the ones before have left
unfoldable pub packets_played : List StampedPacket → Memory → Played
packets_played [] memory = (memory, [])
packets_played (s ∷ ss) memory = and_then (packet_played s memory) (packets_played ss)

-- a sheet is the records of packets by a database, whatever is kept, as far as names are asked, and speaks of names that have seats alone
pub record IsSheetFor (asked : List ℕ → Bool) (db : Database) (names : List (List ℕ)) (ss : List StampedPacket) (sheet : SheetView) : Type 0 where
  pub played : PlaysAlike asked (packets_played ss) (played db (pieces_of names sheet))
  pub seated : AreSeated names sheet.runs
