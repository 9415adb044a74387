-- What a step of a walk leads to, as the program has it. [This profile.]
use Rattle.std.specs.Prelude.{ℕ, ℤ, ◌++◌, List, Option, Some, None, nat_abs, if◌then◌else◌}
use Rattle.mib_model.specs.declared.packet.Ended.{Ended}
use Rattle.mib_model.specs.declared.packet.Value.{Value}
use Rattle.mib_model.specs.declared.rows.VpdRow.{VpdRow}
use Rattle.mib_model.specs.Bits.{raw_number}
use Rattle.mib_model.specs.Encodings.{Encoding}
use Rattle.mib_model.specs.Walk.{Walking, Step, Goes, Ends, lies_outside}

-- the step that a walk has taken: it goes on, or it has ended
abbrev pub led : Option Ended → Walking → Step
led None on = Goes on
led (Some ended) on = Ends ended on.values

-- a walk with more rows in front of those that are still to walk
abbrev pub with_rows : List VpdRow → Walking → Walking
with_rows rows w = record w { todo = rows ++ w.todo }

-- the value at a bit, if it lies in the packet
abbrev pub value_there : List ℕ → ℤ → List ℕ → Encoding → Option Value
value_there packet cursor name shape =
    if lies_outside packet cursor shape.width then None
    else Some (record { name = name; at = nat_abs cursor; raw = raw_number shape packet (nat_abs cursor); shape = shape })
