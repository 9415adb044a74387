use Rattle.std.proofs.Common.{◌≡◌, ℤ, true, false, take}
use Rattle.std.specs.List.{list_any}
use Rattle.check_plan.specs.Calms.{is_in, may_tell}
use Rattle.check_plan.proofs.fast.Calm.of.Given as goal

abbrev pub invariant-loop-limit : goal.invariant-loop-limit
invariant-loop-limit l = (count : ℤ) → is_in l.calm count ≡ true → list_any (may_tell count) (take l.limit-index l.limits) ≡ false
