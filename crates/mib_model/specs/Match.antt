-- What a packet is by the tables. [CCSDS 133.0-B, packet version number, packet type and idle packets; the service type and
-- subtype of ECSS-E-70-41A, telemetry packet data field header; the discriminants of the SCOS-2000 Database Import ICD,
-- pic and pid, in this profile.]
use Rattle.std.specs.Prelude.{ℕ, ◌*◌, ℤ, pos, negsuc, Bool, true, false, List, length, slice_index, nat_lt, nat_eq, ◌==◌, ◌&&◌, not, if◌then◌else◌, Option, Some, None}
use Rattle.std.specs.List.{find}
use Rattle.std.specs.Option.{option_eq, option_or}
use Rattle.mib_model.specs.declared.rows.PicRow.{PicRow}
use Rattle.mib_model.specs.declared.rows.PidRow.{PidRow}
use Rattle.mib_model.specs.declared.packet.Found.{Found}
use Rattle.mib_model.specs.declared.packet.Found.TheVariants.{Spid, Unknown, Idle, Bad}
use Rattle.mib_model.specs.declared.packet.BadWhy.TheVariants as why
use Rattle.mib_model.specs.declared.packet.TheConstants.{IDLE_APID}
use Rattle.mib_model.specs.Bits.{bits, is_inside}
use Rattle.mib_model.specs.Database.{Database}
use Rattle.mib_model.specs.Headers.{header_of}

-- the service type: octet 7 behind a secondary header, else 0
abbrev pub service_of : List ℕ → ℕ
service_of packet = if (header_of packet).secondary then slice_index packet 7 else 0

-- the service subtype: octet 8 behind a secondary header, else 0
abbrev pub subtype_of : List ℕ → ℕ
subtype_of packet = if (header_of packet).secondary then slice_index packet 8 else 0

-- whether the secondary header is there and the packet ends before its service type and subtype
abbrev pub lacks_service : List ℕ → Bool
lacks_service packet = (header_of packet).secondary && nat_lt (length packet) 9

-- whether a row is a criterion of these types for this APID, or for none
abbrev pub is_criterion : ℕ → ℕ → Option ℕ → PicRow → Bool
is_criterion service subtype apid row = (row.service == service) && (row.subtype == subtype) && option_eq nat_eq row.apid apid

-- the criterion of a packet: that for its APID, else that for none
unfoldable pub criterion : List PicRow → List ℕ → Option PicRow
criterion pics packet =
    option_or (find (is_criterion (service_of packet) (subtype_of packet) (Some (header_of packet).apid)) pics)
    (find (is_criterion (service_of packet) (subtype_of packet) None) pics)

-- the number at an octet offset, most significant bit first: 0 where there is no offset or no width, none where it passes the end
abbrev pub discriminant : List ℕ → ℤ → ℕ → Option ℕ
discriminant packet (negsuc n) width = Some 0
discriminant packet (pos offset) width =
    if width == 0 then Some 0
    else if is_inside packet (8 * offset) width then Some (bits packet (8 * offset) width)
    else None

-- two numbers, where both are there
abbrev pub both : Option ℕ → Option ℕ → Option (ℕ × ℕ)
both None other = None
both (Some x) None = None
both (Some x) (Some y) = Some (x, y)

-- the two discriminants of a packet by its criterion
abbrev pub discriminants : List ℕ → Option PicRow → Option (ℕ × ℕ)
discriminants packet None = Some (0, 0)
discriminants packet (Some row) = both (discriminant packet row.pi1_off row.pi1_wid) (discriminant packet row.pi2_off row.pi2_wid)

-- whether a row is of the packet's APID, types and discriminants
abbrev pub agrees : List ℕ → ℕ × ℕ → PidRow → Bool
agrees packet values row =
    (row.apid == (header_of packet).apid) && (row.service == service_of packet) && (row.subtype == subtype_of packet) &&
    (row.pi1_val == values.0) && (row.pi2_val == values.1)

-- what a packet of these types is by the row that agrees with it
abbrev pub found_of : ℕ → ℕ → Option PidRow → Found
found_of service subtype None = Unknown service subtype
found_of service subtype (Some row) = Spid row.spid service subtype row.tpsd row.dfhsize

-- what a packet with these discriminants is: by the first row that agrees, in the order of the file
abbrev pub found_with : List PidRow → List ℕ → Option (ℕ × ℕ) → Found
found_with pids packet None = Bad why.Short
found_with pids packet (Some values) = found_of (service_of packet) (subtype_of packet) (find (agrees packet values) pids)

-- whether a packet is well-formed by what it is: a packet of the database, or unknown
abbrev pub is_well_formed : Found → Bool
is_well_formed (Spid spid service subtype tpsd dfhsize) = true
is_well_formed (Unknown service subtype) = true
is_well_formed other = false

-- what a packet is by rows of pid and pic: the first of version, type, idle APID, length and identification decides
abbrev pub match_by : List PidRow → List PicRow → List ℕ → Found
match_by pids pics packet =
    if not ((header_of packet).version == 0) then Bad why.Version
    else if (header_of packet).telecommand then Bad why.Telecommand
    else if (header_of packet).apid == IDLE_APID then Idle
    else if lacks_service packet then Bad why.Short
    else found_with pids packet (discriminants packet (criterion pics packet))

-- what a packet is by a database
unfoldable pub match_of : Database → List ℕ → Found
match_of db packet = match_by db.pid db.pic packet
