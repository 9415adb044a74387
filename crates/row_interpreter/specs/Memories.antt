-- What is kept, as the program has it. [This profile.]
use Rattle.std.specs.Prelude.{Option, Some, None}
use Rattle.std.specs.HashMap.{get}
use Rattle.std.specs.Str.{bytes_eq}
use Rattle.mib_model.specs.Kept.{Kept, Memory, nothing_kept}
use Rattle.row_interpreter.specs.declared.kept.KeptOf.{KeptOf}
use Rattle.row_interpreter.specs.declared.memory.Memory.{Memory as Held}

-- what is kept of a name
abbrev pub kept_as : KeptOf → Kept
kept_as kept = record { latest = kept.latest; spoken = kept.spoken; run = kept.run; previous = kept.previous }

-- what is kept of a name that may have none
abbrev pub kept_or_nothing : Option KeptOf → Kept
kept_or_nothing None = nothing_kept
kept_or_nothing (Some kept) = kept_as kept

-- what is kept of every name
abbrev pub memory_of : Held → Memory
memory_of held name = kept_or_nothing (get bytes_eq held.kept name)
