-- Why the values at the places of a row stop, and how those of the packet end by it. [This profile.]
use Rattle.std.specs.Prelude.{ℕ, List, Option, Some, None}
use Rattle.mib_model.specs.declared.packet.Ended.{Ended}
use Rattle.mib_model.specs.declared.packet.Ended.TheVariants as ends
use Rattle.layout_plan.specs.declared.span.SpanStop.{SpanStop}
use Rattle.layout_plan.specs.declared.span.SpanStop.TheVariants.{Short, Many}

-- how values end that stop at a value of this name
abbrev pub ended_at : List ℕ → SpanStop → Ended
ended_at name Short = ends.Short name
ended_at name Many = ends.Many

-- how values end that stop so, and nothing where they go on
abbrev pub ended_by : List ℕ → Option SpanStop → Option Ended
ended_by name None = None
ended_by name (Some stop) = Some (ended_at name stop)
