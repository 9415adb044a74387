-- Lists put in order.
use Rattle.std.specs.Prelude.{ℕ, List, [], ◌∷◌, Bool, nat_le, if◌then◌else◌}

-- an item put before the first that it may stand before
abbrev pub insert_by : {A : Type 0} → (A → A → Bool) → A → List A → List A
insert_by before x [] = x ∷ []
insert_by before x (y ∷ ys) = if before x y then x ∷ y ∷ ys else y ∷ insert_by before x ys

-- the items in order; of two that may stand either way the earlier stays first
unfoldable pub sorted_by : {A : Type 0} → (A → A → Bool) → List A → List A
sorted_by before [] = []
sorted_by before (x ∷ xs) = insert_by before x (sorted_by before xs)

-- the items by a number that each has
abbrev pub sorted_by_number : {A : Type 0} → (A → ℕ) → List A → List A
sorted_by_number number = sorted_by (λ x y. nat_le (number x) (number y))
