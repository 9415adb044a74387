use Rattle.std.proofs.Common.{◌≡◌, take}
use Rattle.mib_model.specs.Layouts.{layout_places}
use Rattle.layout_plan.specs.Spans.{spans_places}
use Rattle.layout_plan.proofs.layout.spans_of.Given as goal

abbrev pub invariant-loop-row : goal.invariant-loop-row
invariant-loop-row l = spans_places l.spans.items ≡ layout_places (take l.row-index l.plfs) l.types
