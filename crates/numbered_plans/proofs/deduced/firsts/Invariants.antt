use Rattle.std.proofs.Common.{◌≡◌, ℤ, take}
use Rattle.std.specs.HashMap.{get}
use Rattle.std.specs.Ordering.{int_eq}
use Rattle.numbered_plans.specs.Structures.{item_numbered}
use Rattle.numbered_plans.proofs.deduced.firsts.Given as goal

abbrev pub invariant-loop-row : goal.invariant-loop-row
invariant-loop-row l = (pid : ℤ) → get int_eq l.items pid ≡ item_numbered (take l.row-index l.parameters) pid
