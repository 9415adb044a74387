-- The feed of a generated run: its packets, each of 14 octets. [This profile; CCSDS 133.0-B, packet primary header.]
use Rattle.std.specs.Prelude.{ℕ, ◌+◌, ◌*◌, ◌/◌, ◌%◌, ◌==◌, List, [], ◌∷◌, ◌++◌, map, if◌then◌else◌}
use Rattle.std.specs.List.{range_with_len}
use Rattle.tm_drill.specs.Draws.{state_after, drawn}
use Rattle.tm_drill.specs.declared.feed.TheConstants.{PACKETS}

-- a word of 16 bits, the most significant octet first
abbrev pub word_octets : ℕ → List ℕ
word_octets word = word / 256 ∷ word % 256 ∷ []

-- the APID by a draw: 100 to 107, or 300, which no packet of the tables has
abbrev pub apid_by : ℕ → ℕ
apid_by draw = if draw % 9 == 8 then 300 else 100 + draw % 9

-- the packet of an APID with an index and two values
unfoldable pub packet_octets : ℕ → ℕ → ℕ → ℕ → List ℕ
packet_octets apid index first second =
    word_octets (0x0800 + apid) ++ word_octets (0xC000 + index % 16384) ++ word_octets 7 ++
    (0x10 ∷ 3 ∷ 25 ∷ 0 ∷ []) ++ word_octets first ++ word_octets second

-- the packet with an index whose three draws come behind a state
unfoldable pub packet_behind : ℕ → ℕ → List ℕ
packet_behind state index =
    packet_octets (apid_by (drawn state 1)) index (drawn state 2 % 65536) (drawn state 3 % 65536)

-- the packet with an index: its draws come behind those of all packets before it
abbrev pub drill_packet : ℕ → ℕ → List ℕ
drill_packet seed index = packet_behind (state_after seed (3 * index)) index

-- the first so many packets
unfoldable pub first_packets : ℕ → ℕ → List (List ℕ)
first_packets seed count = map (drill_packet seed) (range_with_len 0 count)

-- the packets of a run, by its seed
abbrev pub drill_packets : ℕ → List (List ℕ)
drill_packets seed = first_packets seed PACKETS
