-- Cases of a choice.
use Rattle.std.proofs.Common.{◌≡◌, Bool, true, false, cond, refl}

-- what holds of both ways holds of the choice between them
pub choice : {X : Type 0} (P : X → Type 0) (b : Bool) (x y : X) → (b ≡ true → P x) → (b ≡ false → P y) → P (cond b x y)
choice P true x y holds others = holds refl
choice P false x y holds others = others refl
