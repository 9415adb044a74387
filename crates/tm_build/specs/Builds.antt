-- What a call that builds says of the packet. [This profile.]
use Rattle.std.specs.Prelude.{◌≡◌, ◌≢◌, ℕ, ◌+◌, ◌*◌, List, [], ◌∷◌, ◌++◌, map, take, Option, Result, Ok, Err}
use Rattle.mib_model.specs.declared.packet.Value.{Value}
use Rattle.mib_model.specs.declared.rows.PicRow.{PicRow}
use Rattle.mib_model.specs.declared.rows.PidRow.{PidRow}
use Rattle.mib_model.specs.declared.database.Database.{Database}
use Rattle.mib_model.specs.Attempts.{◌>>=◌}
use Rattle.bit_writer.specs.declared.write.Write.{Write}
use Rattle.build_rules.specs.Building.{big, both_discriminants, built, header_writes, packet_size, value_write, with_length}
use Rattle.build_rules.specs.declared.fault.BuildFault.{BuildFault}
use Rattle.build_rules.specs.declared.fault.BuildFault.TheVariants.{Memory}
use Rattle.build_rules.specs.declared.item.Item.{Item}
use Rattle.build_rules.specs.Laying.{laid}

-- so many octets at the front are the packet that is to be built, or it is refused for this fault; want of memory may come instead
abbrev pub Builds : Result ℕ BuildFault → Result (List ℕ) BuildFault → List ℕ → Type 0
Builds (Ok octets) packet into = packet ≡ Ok (take octets into)
Builds (Err fault) packet into = fault ≢ Memory → packet ≡ Err fault

-- what is written of values of a row with this criterion, but for the length
abbrev pub writes_with : PidRow → Option PicRow → ℕ → List Value → List Write
writes_with row criterion count values = header_writes row count ++ both_discriminants row criterion ++ map value_write values

-- the headers but for the length as two numbers: the first four octets, and the three behind the primary header
abbrev pub joined_header : PidRow → ℕ → List Write
joined_header row count = big 0 32 (((2048 + row.apid) * 4 + 3) * 16384 + count) ∷ big 48 24 ((4096 + row.service) * 256 + row.subtype) ∷ []

-- whether writes leave the packet of a row that others leave
abbrev pub PacksAs : PidRow → List Write → List Write → Type 0
PacksAs row some others = with_length some (packet_size row some) ≡ with_length others (packet_size row others)

-- the packet of values of a row with this criterion
abbrev pub packed_with : PidRow → Option PicRow → ℕ → List Value → Result (List ℕ) BuildFault
packed_with row criterion count values = with_length (writes_with row criterion count values) (packet_size row (writes_with row criterion count values))

-- the packet of items of a row with this criterion
abbrev pub built_row : Database → PidRow → Option PicRow → ℕ → List Item → Result (List ℕ) BuildFault
built_row db row criterion count items = laid db row items >>= packed_with row criterion count

-- so many octets at the front are this packet, or memory was wanting
abbrev pub GivesOrLacksMemory : Result ℕ BuildFault → List ℕ → List ℕ → Type 0
GivesOrLacksMemory (Ok octets) packet into = take octets into ≡ packet
GivesOrLacksMemory (Err fault) packet into = fault ≡ Memory

-- where nothing is wrong with what is asked for a call gives the packet, or memory is wanting
abbrev pub BuildsWhatIsRight : Type 0
BuildsWhatIsRight =
    (db : Database) (spid count : ℕ) (items : List Item) (packet : List ℕ) (result : Result ℕ BuildFault) (into : List ℕ)
    → built db spid count items ≡ Ok packet
    → Builds result (built db spid count items) into → GivesOrLacksMemory result packet into
