use Rattle.curve_plan.proofs.fast.ranges.next_holding.Given as goal

abbrev pub invariant-loop-step : goal.invariant-loop-step
invariant-loop-step l = Unit {0}
