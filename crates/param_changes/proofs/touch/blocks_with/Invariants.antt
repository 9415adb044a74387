use Rattle.std.proofs.Common.{take}
use Rattle.param_changes.specs.Touches.{Touches}
use Rattle.param_changes.proofs.touch.blocks_with.Given as goal

abbrev pub invariant-loop-name : goal.invariant-loop-name
invariant-loop-name l = Touches l.touched.items l.base (take l.name-index l.names)
