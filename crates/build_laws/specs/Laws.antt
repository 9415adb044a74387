-- What a packet that is built gives back. [This profile.]
use Rattle.std.specs.Prelude.{◌≡◌, ℕ, ◌<◌, ◌^◌, List, map, ◌==◌, Some, Ok}
use Rattle.std.specs.List.{find}
use Rattle.mib_model.specs.declared.database.Database.{Database}
use Rattle.mib_model.specs.declared.kind.Kind.{Kind}
use Rattle.mib_model.specs.declared.packet.Ended.TheVariants.{Whole}
use Rattle.mib_model.specs.declared.packet.Found.TheVariants.{Spid}
use Rattle.mib_model.specs.declared.packet.Value.{Value}
use Rattle.mib_model.specs.declared.rows.PidRow.{PidRow}
use Rattle.mib_model.specs.DatabaseTexts.{database_read}
use Rattle.mib_model.specs.Interpreter.{values_of}
use Rattle.mib_model.specs.Match.{match_of}
use Rattle.mib_model.specs.Soundness.{IsSound}
use Rattle.build_rules.specs.declared.item.Item.{Item}
use Rattle.build_rules.specs.Building.{built}

-- the item that a value is of
abbrev pub item_of : Value → Item
item_of v = record { name = v.name; raw = v.raw }

-- a packet is told apart as this SPID's, and its layout or structure ends whole with these items as its values
pub record GivesBack (db : Database) (spid : ℕ) (items : List Item) (packet : List ℕ) : Type 0 where
  pub row : PidRow
  pub is_spid : row.spid ≡ spid
  pub matches : match_of db packet ≡ Spid row.spid row.service row.subtype row.tpsd row.dfhsize
  pub values : List Value
  pub extracted : values_of db packet (match_of db packet) ≡ (values, Whole)
  pub same : map item_of values ≡ items

-- the types of a SPID's row are octets, as those of each row in memory are
abbrev pub HasOctets : Database → ℕ → Type 0
HasOctets db spid = (row : PidRow) → find (λ r. r.spid == spid) db.pid ≡ Some row → (row.service < 2 ^ 8) × (row.subtype < 2 ^ 8)

-- a packet that is built of a sound database gives back its SPID and its items
abbrev pub BuiltGivesBack : Type 0
BuiltGivesBack =
    (db : Database) (spid count : ℕ) (items : List Item) (packet : List ℕ) → IsSound db → HasOctets db spid → built db spid count items ≡ Ok packet
    → GivesBack db spid items packet

-- so it does of each sound database that is read
abbrev pub BuiltOfReadGivesBack : Type 0
BuiltOfReadGivesBack =
    (texts : Kind → List ℕ) (db : Database) (spid count : ℕ) (items : List Item) (packet : List ℕ) → database_read texts ≡ Ok db → IsSound db
    → built db spid count items ≡ Ok packet → GivesBack db spid items packet
