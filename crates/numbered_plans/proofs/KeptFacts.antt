-- Plans at the places of their numbers.
use Rattle.std.proofs.Common.{◌≡◌, ◌⊎◌, inl, inr, ℤ, pos, List, Option, Some, sym, subst}
use Rattle.std.specs.Arc.{arc_value}
use Rattle.std.specs.declared.sync.Arc.{Arc}
use Rattle.std.specs.HashMap.{HashMap}
use Rattle.first_rows.specs.ByNumbers.{IsAtHand}
use Rattle.numbered_plans.specs.Numbered.{plan_at}
use Rattle.numbered_plans.specs.Kept.{ArePlansOf}
use Rattle.numbered_plans.specs.declared.plans.Kept.{Kept}

-- one plan more, which is that of its number
pub kept-more : {R Z S : Type 0} (map : HashMap ℤ (Arc R Z) S) (old new : List (Option (Kept R))) (row : Kept R)
    → ((held : Kept R) → IsAtHand new held → IsAtHand old held ⊎ (held ≡ row)) → plan_at map (pos row.number) ≡ Some (arc_value row.plan) → ArePlansOf map old → ArePlansOf map new
kept-more {R} map old new row put own before held hand = go (put held hand) where
  go : IsAtHand old held ⊎ (held ≡ row) → plan_at map (pos held.number) ≡ Some (arc_value held.plan)
  go (inl there) = before held there
  go (inr same) = subst (λ (k : Kept R). plan_at map (pos k.number) ≡ Some (arc_value k.plan)) (sym same) own
