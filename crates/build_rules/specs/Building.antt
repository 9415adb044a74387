-- The packet that is built of items: what is written into it, and the first fault. [CCSDS 133.0-B, packet primary header; the
-- service type and subtype of ECSS-E-70-41A, telemetry packet data field header; the discriminants and the faults are this profile's.]
use Rattle.std.specs.Prelude.{ℕ, suc, max, ◌+◌, ◌-◌, ◌*◌, ◌^◌, ℤ, pos, negsuc, Bool, List, [], ◌∷◌, ◌++◌, map, nat_le, nat_lt, ◌==◌, not, if◌then◌else◌, Option, Some, None, Result, Ok, Err}
use Rattle.std.specs.List.{find}
use Rattle.std.specs.Option.{option_or}
use Rattle.mib_model.specs.declared.database.Database.{Database}
use Rattle.mib_model.specs.declared.packet.TheConstants.{IDLE_APID}
use Rattle.mib_model.specs.declared.packet.Value.{Value}
use Rattle.mib_model.specs.declared.rows.PicRow.{PicRow}
use Rattle.mib_model.specs.declared.rows.PidRow.{PidRow}
use Rattle.mib_model.specs.declared.shape.Order.TheVariants.{Big}
use Rattle.mib_model.specs.Attempts.{◌>>=◌}
use Rattle.mib_model.specs.Match.{is_criterion}
use Rattle.bit_writer.specs.declared.write.Write.{Write}
use Rattle.bit_writer.specs.Writes.{first_clash, octets_for, octets_left}
use Rattle.build_rules.specs.declared.fault.BuildFault.{BuildFault}
use Rattle.build_rules.specs.declared.fault.BuildFault.TheVariants.{NoSpid, Apid, Discriminant, Long, Clash}
use Rattle.build_rules.specs.declared.item.Item.{Item}
use Rattle.build_rules.specs.Laying.{laid}

-- a number in so many bits from a place on, the most significant octet first
abbrev pub big : ℕ → ℕ → ℕ → Write
big at width number = record { order = Big; at = at; width = width; number = number }

-- ---- what is written

-- a raw number in so many bits: that below zero as its two's complement
abbrev pub pattern : ℕ → ℤ → ℕ
pattern width (pos n) = n
pattern width (negsuc n) = 2 ^ width - suc n

-- a value at its place
abbrev pub value_write : Value → Write
value_write v = record { order = v.shape.order; at = v.at; width = v.shape.width; number = pattern v.shape.width v.raw }

-- the criterion by which packets of a row are told apart: that for its APID, else that for none
abbrev pub criterion_of : List PicRow → PidRow → Option PicRow
criterion_of pics row =
    option_or (find (is_criterion row.service row.subtype (Some row.apid)) pics) (find (is_criterion row.service row.subtype None) pics)

-- a discriminant at an octet offset: nothing where there is no offset or no width
abbrev pub discriminant_writes : ℤ → ℕ → ℕ → List Write
discriminant_writes (negsuc n) width value = []
discriminant_writes (pos offset) width value = if width == 0 then [] else big (8 * offset) width value ∷ []

-- the two discriminants of a row
abbrev pub both_discriminants : PidRow → Option PicRow → List Write
both_discriminants row None = []
both_discriminants row (Some pic) =
    discriminant_writes pic.pi1_off pic.pi1_wid row.pi1_val ++ discriminant_writes pic.pi2_off pic.pi2_wid row.pi2_val

-- the headers but for the length: version 0, telemetry, a secondary header, the APID, unsegmented, the count; then 10 in
-- hexadecimal, the service type and the subtype
abbrev pub header_writes : PidRow → ℕ → List Write
header_writes row count =
    big 0 3 0 ∷ big 3 1 0 ∷ big 4 1 1 ∷ big 5 11 row.apid ∷ big 16 2 3 ∷ big 18 14 count ∷
    big 48 8 0x10 ∷ big 56 8 row.service ∷ big 64 8 row.subtype ∷ []

-- all of a packet but for its length
abbrev pub packet_writes : Database → PidRow → ℕ → List Value → List Write
packet_writes db row count values = header_writes row count ++ both_discriminants row (criterion_of db.pic row) ++ map value_write values

-- the length of a packet of so many octets
abbrev pub length_write : ℕ → Write
length_write octets = big 32 16 (octets - 7)

-- the octets of a packet of a row: those that hold all that is written, the service type and subtype, and DFHSIZE octets behind the
-- primary header
abbrev pub packet_size : PidRow → List Write → ℕ
packet_size row writes = octets_for (max 9 (6 + row.dfhsize)) writes

-- ---- the packet

-- the most octets of a packet
abbrev pub octets_most : ℕ
octets_most = 65542

-- whether a value has no room in a discriminant at an octet offset
abbrev pub lacks_room : ℤ → ℕ → ℕ → Bool
lacks_room (negsuc n) width value = not (value == 0)
lacks_room (pos offset) width value = nat_le (2 ^ width) value

-- the first of two discriminants that lacks room
abbrev pub first_lacking : Bool → Bool → Option ℕ
first_lacking first second = if first then Some 1 else if second then Some 2 else None

-- the first discriminant that lacks room for the row's value
abbrev pub lacking : PidRow → Option PicRow → Option ℕ
lacking row None = first_lacking (not (row.pi1_val == 0)) (not (row.pi2_val == 0))
lacking row (Some pic) = first_lacking (lacks_room pic.pi1_off pic.pi1_wid row.pi1_val) (lacks_room pic.pi2_off pic.pi2_wid row.pi2_val)

-- the octets that writes leave, if none of them clash
abbrev pub unless_clash : List Write → ℕ → Option ℕ → Result (List ℕ) BuildFault
unless_clash writes octets None = Ok (octets_left writes octets)
unless_clash writes octets (Some bit) = Err (Clash bit)

-- the octets that writes and the length leave
abbrev pub with_length : List Write → ℕ → Result (List ℕ) BuildFault
with_length writes octets =
    if nat_lt octets_most octets then Err Long
    else unless_clash (writes ++ length_write octets ∷ []) octets (first_clash (writes ++ length_write octets ∷ []) octets)

-- the packet of a row with these values
abbrev pub packed : Database → PidRow → ℕ → List Value → Result (List ℕ) BuildFault
packed db row count values = with_length (packet_writes db row count values) (packet_size row (packet_writes db row count values))

-- the packet of a row with these items, unless a discriminant lacks room
abbrev pub unless_lacking : Database → PidRow → ℕ → List Item → Option ℕ → Result (List ℕ) BuildFault
unless_lacking db row count items (Some which) = Err (Discriminant which)
unless_lacking db row count items None = laid db row items >>= packed db row count

-- the packet of a row, if there is one
abbrev pub built_of : Database → ℕ → List Item → Option PidRow → Result (List ℕ) BuildFault
built_of db count items None = Err NoSpid
built_of db count items (Some row) =
    if nat_le IDLE_APID row.apid then Err (Apid row.apid) else unless_lacking db row count items (lacking row (criterion_of db.pic row))

-- the packet of a SPID with a sequence count and items, or the first fault
unfoldable pub built : Database → ℕ → ℕ → List Item → Result (List ℕ) BuildFault
built db spid count items = built_of db count items (find (λ row. row.spid == spid) db.pid)
