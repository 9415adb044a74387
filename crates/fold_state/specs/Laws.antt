-- The step of the interpreter, as a packet is finished. [This profile.]
use Rattle.std.specs.Prelude.{◌≡◌, ℕ, List, ◌++◌}
use Rattle.std.specs.List.{flat_map}
use Rattle.mib_model.specs.declared.packet.Ended.{Ended}
use Rattle.mib_model.specs.declared.packet.Value.{Value}
use Rattle.mib_model.specs.Finish.{all_finished}
use Rattle.mib_model.specs.Headers.{header_of}
use Rattle.mib_model.specs.Interpreter.{Course, StampedPacket, values_of, title_of, memory_for, record_for, course_after}
use Rattle.mib_model.specs.Kept.{Memory, all_entered}
use Rattle.mib_model.specs.Match.{match_of}
use Rattle.mib_model.specs.Tails.{Told}
use Rattle.mib_model.specs.Texts.{head_text, told_text, ended_text, record_body}

-- what is kept after the values of a packet, and what is told of each
abbrev pub values_finished : StampedPacket → Memory → List Value → Memory × List Told
values_finished s memory values = all_finished s.tables (all_entered memory values) values

-- the text of a packet with such values and such an end, where such is told
abbrev pub body_text : StampedPacket → List Told → Ended → List ℕ
body_text s tolds ended =
    head_text s.number (header_of s.packet) (match_of s.tables s.packet) (title_of s.tables (match_of s.tables s.packet)) ++
    flat_map (told_text s.packet) tolds ++ ended_text ended

-- a packet is finished as in a step of the interpreter
pub record IsStep (c : Course) (s : StampedPacket) (values : List Value) (ended : Ended) : Type 0 where
  pub text : record_body (record_for c s) ≡ body_text s (values_finished s (memory_for c s) values).1 ended
  pub memory : (course_after c s).memory ≡ (values_finished s (memory_for c s) values).0

-- values and how they end are those that a packet has by its tables
abbrev pub AreDecoded : StampedPacket → List Value → Ended → Type 0
AreDecoded s values ended = (values, ended) ≡ values_of s.tables s.packet (match_of s.tables s.packet)

-- each packet with the values that its tables give
abbrev pub FinishIsAStep : Type 0
FinishIsAStep = (c : Course) (s : StampedPacket) (values : List Value) (ended : Ended) → AreDecoded s values ended → IsStep c s values ended
