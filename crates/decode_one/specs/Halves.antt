-- A packet that was decoded, and isn't finished yet. [This profile.]
use Rattle.std.specs.Prelude.{◌≡◌, ◌≤◌, ℕ, List, take, length}
use Rattle.decode_one.specs.declared.half.Half.{Half}
use Rattle.decode_one.specs.declared.values.PacketValues.{PacketValues}
use Rattle.mib_model.specs.declared.database.Database.{Database}
use Rattle.mib_model.specs.declared.packet.Value.{Value}
use Rattle.mib_model.specs.Fixed.{most_values}
use Rattle.mib_model.specs.Headers.{header_of}
use Rattle.mib_model.specs.Interpreter.{values_of}
use Rattle.mib_model.specs.Match.{match_of}

-- what was decoded is a packet by a database: its header, what it is, and its values in the front of slots with their end
pub record IsHalf (db : Database) (packet : List ℕ) (half : Half) (slots : List Value) : Type 0 where
  pub header : half.header ≡ header_of packet
  pub found : half.found ≡ match_of db packet
  pub values : (take half.used slots, half.ended) ≡ values_of db packet (match_of db packet)
  pub few : half.used ≤ most_values
  pub there : half.used ≤ length slots

-- what was decoded is a packet by a database
abbrev pub HasDecoded : Database → List ℕ → PacketValues → Type 0
HasDecoded db packet values = IsHalf db packet values.half values.slots.items
