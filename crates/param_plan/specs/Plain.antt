-- Parameters of whose values the raw number alone is shown. [This profile.]
use Rattle.std.specs.Prelude.{◌≡◌, ◌<◌, ℕ, Bool, false, not, ◌&&◌, ◌==◌, List, length, map, get_or}
use Rattle.std.specs.Arc.{arc_value}
use Rattle.std.specs.Option.{is_some}
use Rattle.std.specs.declared.sync.Arc.{Arc}
use Rattle.std.proofs.Common.{Global}
use Rattle.param_plan.specs.Choices.{only_curve, selections_in}
use Rattle.param_plan.specs.Slices.{ParamSlice}

-- whether a parameter has no curve: none by CURTX, and no selection
abbrev pub has_no_curve : ParamSlice → Bool
has_no_curve s = not (is_some (only_curve s.pcf.curtx s.curves)) && length (selections_in s.pcf.curtx s.curs s.curves) == 0

-- whether a parameter has no condition, no curve and no check
unfoldable pub is_plain : ParamSlice → Bool
is_plain s = not (is_some s.pcf.valid) && has_no_curve s && not (is_some s.ocf)

-- whether the plan behind a handle is one of these
abbrev pub plain_behind : Arc ParamSlice Global → Bool
plain_behind plan = is_plain (arc_value plan)

-- whether there is a plan at a place, and it is plain
abbrev pub plain_at : List ParamSlice → ℕ → Bool
plain_at slices at = get_or (map is_plain slices) at false

-- as far as there are marks for places, they say whether the plans there are plain
abbrev pub AreMarksOf : List ParamSlice → List Bool → Type 0
AreMarksOf slices marks = (at : ℕ) → at < length marks → get_or marks at false ≡ plain_at slices at
