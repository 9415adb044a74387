-- What lies apart from the limits without a condition. [This profile.]
use Rattle.std.specs.Prelude.{List, [], Option, Some, None}
use Rattle.std.specs.Global.{Box}
use Rattle.check_plan.specs.declared.apart.Apart.{Apart}
use Rattle.check_plan.specs.declared.asked.AskedLimit.{AskedLimit}
use Rattle.check_plan.specs.declared.state.ExpectedState.{ExpectedState}

-- the limits with a condition
abbrev pub asked_behind : Option (Box Apart) → List AskedLimit
asked_behind None = []
asked_behind (Some apart) = apart.value.asked.items

-- the expected states
abbrev pub states_behind : Option (Box Apart) → List ExpectedState
states_behind None = []
states_behind (Some apart) = apart.value.states.items
