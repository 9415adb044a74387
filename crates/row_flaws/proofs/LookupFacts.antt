-- What is found of rows by the place of the first of them.
use Rattle.std.proofs.Common.{◌≡◌, ℕ, ◌+◌, Bool, true, false, cond, ◌||◌, List, [], ◌∷◌, Option, Some, None, option_map, is_some, refl, ap, ◌∙◌}
use Rattle.std.specs.List.{position, list_any}
use Rattle.mib_index.proofs.PlaceFacts.{position-cons}

-- a place is found where some item passes
pub found-any : {X : Type 0} (p : X → Bool) (xs : List X) → is_some (position p xs) ≡ list_any p xs
found-any p [] = refl
found-any p (x ∷ xs) = ap is_some (position-cons p x xs) ∙ go (p x) (position p xs) (found-any p xs) where
  go : (b : Bool) (o : Option ℕ) → is_some o ≡ list_any p xs → is_some (cond b (Some 0) (option_map (λ i. i + 1) o)) ≡ (b || list_any p xs)
  go true o h = refl
  go false None h = h
  go false (Some i) h = h
