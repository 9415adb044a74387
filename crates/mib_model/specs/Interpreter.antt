-- The sequential interpreter: what packets give one after the other, each by the rows of its own edition. [This profile.]
use Rattle.std.specs.Prelude.{ℕ, List, [], ◌∷◌, Option, Some, None, option_and_then, ◌==◌, if◌then◌else◌, int_lt, pos, map, length}
use Rattle.std.specs.List.{find, flat_map, range_with_len, zip}
use Rattle.mib_model.specs.declared.packet.Ended.TheVariants.{Whole}
use Rattle.mib_model.specs.declared.packet.Found.{Found}
use Rattle.mib_model.specs.declared.packet.Found.TheVariants as found
use Rattle.mib_model.specs.Carry.{carry}
use Rattle.mib_model.specs.Database.{Database}
use Rattle.mib_model.specs.Finish.{all_finished}
use Rattle.mib_model.specs.Fixed.{fixed_values}
use Rattle.mib_model.specs.Kept.{Memory, empty_memory, all_entered}
use Rattle.mib_model.specs.Match.{match_of}
use Rattle.mib_model.specs.Tails.{Told, Record}
use Rattle.mib_model.specs.Texts.{record_text}
use Rattle.mib_model.specs.Walk.{Extracted, structure_values}

-- the values of a packet that was found, and how they end: by its structure where it names one, else by its layout
unfoldable pub values_of : Database → List ℕ → Found → Extracted
values_of db packet (found.Spid spid service subtype tpsd dfhsize) =
    if int_lt tpsd (pos 1) then fixed_values db spid packet else structure_values db tpsd dfhsize packet
values_of db packet other = ([], Whole)

-- the name of a packet that was found, where it has one
unfoldable pub title_of : Database → Found → Option (List ℕ)
title_of db (found.Spid spid service subtype tpsd dfhsize) = option_and_then (λ row. row.name) (find (λ row. row.spid == spid) db.tpcf)
title_of db other = None

-- a packet with its number, its edition and the tables of that edition
pub record StampedPacket : Type 0 where
  pub number : ℕ
  pub packet : List ℕ
  pub edition : ℕ
  pub tables : Database

-- where the interpreter stands: what is kept, and the edition of the packet before
pub record Course : Type 0 where
  pub memory : Memory
  pub edition : ℕ
  pub tables : Database

-- before the first packet nothing is kept, and edition 1 counts as the one before
abbrev pub start : Database → Course
start first = record { memory = empty_memory; edition = 1; tables = first }

-- what is kept where a packet begins: at a change of edition what is carried over
abbrev pub memory_for : Course → StampedPacket → Memory
memory_for c s = if s.edition == c.edition then c.memory else carry c.memory c.tables s.tables

-- all values of a packet finished: the raw numbers of all are entered first
abbrev pub finished_for : StampedPacket → Memory → Memory × List Told
finished_for s memory =
    all_finished s.tables (all_entered memory (values_of s.tables s.packet (match_of s.tables s.packet)).0)
    (values_of s.tables s.packet (match_of s.tables s.packet)).0

-- the record of a packet
unfoldable pub record_for : Course → StampedPacket → Record
record_for c s = record {
  edition = if s.edition == c.edition then None else Some s.edition;
  number = s.number;
  packet = s.packet;
  found = match_of s.tables s.packet;
  title = title_of s.tables (match_of s.tables s.packet);
  values = (finished_for s (memory_for c s)).1;
  ended = (values_of s.tables s.packet (match_of s.tables s.packet)).1;
}

-- where the interpreter stands after a packet
unfoldable pub course_after : Course → StampedPacket → Course
course_after c s = record { memory = (finished_for s (memory_for c s)).0; edition = s.edition; tables = s.tables }

-- the records of packets, each by what the ones before have left
unfoldable pub interpret : Course → List StampedPacket → List Record
interpret c [] = []
interpret c (s ∷ ss) = record_for c s ∷ interpret (course_after c s) ss

-- where the interpreter stands after packets
unfoldable pub course_after_all : Course → List StampedPacket → Course
course_after_all c [] = c
course_after_all c (s ∷ ss) = course_after_all (course_after c s) ss

-- the text of records
abbrev pub records_text : List Record → List ℕ
records_text records = flat_map record_text records

-- a numbered packet of edition 1
abbrev pub stamped_first : Database → ℕ × List ℕ → StampedPacket
stamped_first first pair = record { number = pair.0; packet = pair.1; edition = 1; tables = first }

-- packets numbered from a number on, each of edition 1
unfoldable pub stamped_from : Database → ℕ → List (List ℕ) → List StampedPacket
stamped_from first number packets = map (stamped_first first) (zip (range_with_len number (length packets)) packets)
