-- What is written is read. [This profile.]
use Rattle.std.specs.Prelude.{◌≡◌, ℕ, ◌+◌, ◌*◌, ◌/◌, ◌^◌, ◌<◌, ◌≤◌, List, None}
use Rattle.std.specs.List.{Contains}
use Rattle.mib_model.specs.declared.shape.Order.TheVariants.{Little}
use Rattle.mib_model.specs.Bits.{field_number}
use Rattle.bit_writer.specs.declared.write.Write.{Write}
use Rattle.bit_writer.specs.Writes.{first_clash, octets_left}

-- a write whose number has room in its field, and a field of whole octets where they are turned round
pub record HasRoom (w : Write) : Type 0 where
  pub number : w.number < 2 ^ w.width
  pub whole : w.order ≡ Little → w.width ≡ 8 * (w.width / 8)

-- in octets that writes leave without a clash the number of each of them that has room is read
abbrev pub WrittenIsRead : Type 0
WrittenIsRead =
    (writes : List Write) (octets : ℕ) (w : Write) → first_clash writes octets ≡ None → Contains writes w → HasRoom w → w.at + w.width ≤ 8 * octets
    → field_number w.order (octets_left writes octets) w.at w.width ≡ w.number
