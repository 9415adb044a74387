-- What is known of the values of a packet by sound tables. [This profile.]
use Rattle.std.specs.Prelude.{◌≡◌, ◌≢◌, ℕ, ℤ, pos, int_lt, Bool, true, false, ◌&&◌, List, []}
use Rattle.std.specs.List.{All, list_any}
use Rattle.std.specs.Str.{bytes_eq}
use Rattle.param_state.specs.FinishedValues.{IsRaw}
use Rattle.mib_model.specs.declared.database.Database.{Database}
use Rattle.mib_model.specs.declared.packet.Found.TheVariants as found
use Rattle.mib_model.specs.declared.packet.Value.{Value}
use Rattle.mib_model.specs.declared.rows.PcfRow.{PcfRow}
use Rattle.mib_model.specs.Bits.{is_inside}
use Rattle.mib_model.specs.Interpreter.{values_of}
use Rattle.mib_model.specs.Match.{match_of}
use Rattle.mib_model.specs.Plans.{has_plan}
use Rattle.mib_model.specs.Soundness.{IsSound}
use Rattle.mib_model.specs.Structures.{structure}

-- a row of a name whose parameter has a plan
abbrev pub is_planned : List ℕ → PcfRow → Bool
is_planned name row = has_plan row && bytes_eq row.name name

-- a value whose bits are in a packet, whose number is a raw number, and whose parameter has a plan
pub record IsValueOf (db : Database) (packet : List ℕ) (v : Value) : Type 0 where
  pub inside : is_inside packet v.at v.shape.width ≡ true
  pub number : IsRaw v
  pub planned : list_any (is_planned v.name) db.pcf ≡ true

-- over a sound database a packet that is found and names a structure names one that has rows
abbrev pub FoundStructuresExist : Type 0
FoundStructuresExist =
    (db : Database) → IsSound db → (packet : List ℕ) (spid service subtype : ℕ) (tpsd : ℤ) (dfhsize : ℕ) →
    match_of db packet ≡ found.Spid spid service subtype tpsd dfhsize → int_lt tpsd (pos 1) ≡ false → structure db tpsd ≢ []

-- over a sound database all values of a packet are such
abbrev pub SoundValues : Type 0
SoundValues =
    (db : Database) → IsSound db → (packet : List ℕ) → All (IsValueOf db packet) (values_of db packet (match_of db packet)).0
