use Rattle.std.proofs.Common.{◌≡◌, length, map, option_map, take, zip}
use Rattle.std.specs.Arc.{arc_value}
use Rattle.param_plan.specs.Choices.{selection_of}
use Rattle.param_plan.proofs.choice.selected.Given as goal

abbrev pub invariant-loop-cur : goal.invariant-loop-cur
invariant-loop-cur l = l.selections.items ≡ map selection_of (take (length l.yielded) (zip l.curs (map (option_map arc_value) l.curves)))
