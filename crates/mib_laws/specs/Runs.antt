-- Laws of the interpreter.
use Rattle.std.specs.Prelude.{◌≡◌, List, ◌++◌}
use Rattle.mib_model.specs.Interpreter.{Course, StampedPacket, interpret, course_after_all}

-- the records of two lists of packets in a row
abbrev pub RunsInParts : Type 0
RunsInParts =
    (c : Course) (first others : List StampedPacket) → interpret c (first ++ others) ≡ interpret c first ++ interpret (course_after_all c first) others
