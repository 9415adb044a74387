-- Plans that are looked for first. [This profile.]
use Rattle.std.specs.Prelude.{◌≡◌, ℤ, pos, List, Option, Some}
use Rattle.std.specs.Arc.{arc_value}
use Rattle.std.specs.declared.sync.Arc.{Arc}
use Rattle.std.specs.HashMap.{HashMap}
use Rattle.first_rows.specs.ByNumbers.{IsAtHand}
use Rattle.numbered_plans.specs.Numbered.{plan_at}
use Rattle.numbered_plans.specs.declared.plans.Kept.{Kept}

-- whether each plan at these places is that of its number in a map
abbrev pub ArePlansOf : {R Z S : Type 0} → HashMap ℤ (Arc R Z) S → List (Option (Kept R)) → Type 0
ArePlansOf {R} map by_number = (kept : Kept R) → IsAtHand by_number kept → plan_at map (pos kept.number) ≡ Some (arc_value kept.plan)
