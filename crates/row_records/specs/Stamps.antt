-- Packets that are stamped, as the program has them, and what is told of their values. [This profile.]
use Rattle.std.specs.Prelude.{ℕ, List, ◌++◌}
use Rattle.std.specs.List.{flat_map}
use Rattle.mib_model.specs.Interpreter.{Course, StampedPacket, finished_for, values_of}
use Rattle.mib_model.specs.Kept.{Memory}
use Rattle.mib_model.specs.Match.{match_of}
use Rattle.mib_model.specs.Texts.{ended_text, told_text}
use Rattle.row_interpreter.specs.Memories.{memory_of}
use Rattle.row_records.specs.declared.course.Course.{Course as Held}
use Rattle.row_records.specs.declared.course.Stamped.{Stamped}

-- a packet with its number, its edition and the tables of that edition
abbrev pub stamped_as : Stamped → StampedPacket
stamped_as s = record { number = s.number; packet = s.packet.now; edition = s.edition; tables = s.rows.now }

-- the lines of a packet's values, by what is kept before, and the line of how they end
abbrev pub values_text : StampedPacket → Memory → List ℕ
values_text s memory =
    flat_map (told_text s.packet) (finished_for s memory).1 ++ ended_text (values_of s.tables s.packet (match_of s.tables s.packet)).1

-- where the interpretation of packets stands
abbrev pub course_of : Held → Course
course_of c = record { memory = memory_of c.memory; edition = c.edition; tables = c.rows.now }
