-- What is counted of a run's printed lines. [This profile; the lines are those of packets' records.]
use Rattle.std.specs.Prelude.{ℕ, ◌+◌, ◌<◌, ◌&&◌, Bool, List, ◌++◌, map, codes, decimal, nat_eq, count_by, slice_index}
use Rattle.std.specs.List.{All, starts_with, ends_with, concat, range_with_len}
use Rattle.run_model.specs.Script.{whole_pieces}
use Rattle.tm_drill.specs.declared.counts.Counts.{Counts}
use Rattle.tm_drill.specs.declared.tables.TheConstants.{KINDS}

-- a head line, which begins the record of a packet
abbrev pub is_head : List ℕ → Bool
is_head line = starts_with nat_eq line (codes "PKT ")

-- the head line of a packet with this SPID
unfoldable pub is_packet : ℕ → List ℕ → Bool
is_packet spid line = is_head line && ends_with nat_eq line (codes " SPID " ++ decimal spid)

-- the head line of an unknown packet
unfoldable pub is_unknown : List ℕ → Bool
is_unknown line = is_head line && ends_with nat_eq line (codes " UNKNOWN")

-- the line of an alarm
unfoldable pub is_alarm : List ℕ → Bool
is_alarm line = starts_with nat_eq line (codes "  ALARM ")

-- the line of an alarm that is over
unfoldable pub is_clear : List ℕ → Bool
is_clear line = starts_with nat_eq line (codes "  CLEAR ")

-- the counts of lines: of packets those of each SPID from 1 on
unfoldable pub counts_in : List (List ℕ) → Counts
counts_in lines = record {
  packets = map (λ place. count_by (is_packet (place + 1)) lines) (range_with_len 0 KINDS);
  unknown = count_by is_unknown lines;
  alarms = count_by is_alarm lines;
  clears = count_by is_clear lines;
}

-- the counts of a text's lines, of those that end with an LF
abbrev pub counts_of : List ℕ → Counts
counts_of text = counts_in (whole_pieces text)

-- each count is below a number
pub record AreBelow (most : ℕ) (counts : Counts) : Type 0 where
  pub packets : All (λ count. count < most) counts.packets
  pub unknown : counts.unknown < most
  pub alarms : counts.alarms < most
  pub clears : counts.clears < most

-- the line of a count
abbrev pub count_line : List ℕ → ℕ → List ℕ
count_line title count = title ++ codes " " ++ decimal count ++ codes "\n"

-- the line of a packet's count, by its SPID
abbrev pub packet_line : ℕ → ℕ → List ℕ
packet_line spid count = count_line (codes "SPID " ++ decimal spid ++ codes " COUNT") count

-- the lines of the first so many packets
abbrev pub packet_lines : List ℕ → ℕ → List ℕ
packet_lines counts places = concat (map (λ place. packet_line (place + 1) (slice_index counts place)) (range_with_len 0 places))

-- the summary of counts: a line for each SPID, and one for each other count
unfoldable pub summary : Counts → List ℕ
summary counts =
    packet_lines counts.packets KINDS ++ count_line (codes "UNKNOWN") counts.unknown ++
    count_line (codes "ALARMS") counts.alarms ++ count_line (codes "CLEARS") counts.clears
