-- Plans that are shared by handle, found by their names.
use Rattle.std.proofs.Common.{◌≡◌, ℕ, ◌+◌, Bool, true, false, cond, not, ltb, List, [], ◌∷◌, Some, None, All, length, get_or, map, option_map, refl, ap, subst, arith}
use Rattle.std.proofs.lemmas.List.{get_or-map, length-map}
use Rattle.std.specs.List.{AllAdjacentBelow, find, position, position_or_len}

-- what is found among images is the image of what is found
pub find-map : {X Y : Type 0} (f : X → Y) (p : Y → Bool) (xs : List X) → find p (map f xs) ≡ option_map f (find (λ x. p (f x)) xs)
find-map f p [] = refl
find-map f p (x ∷ xs) = go (p (f x)) (find-map f p xs) where
  go : (b : Bool) → find p (map f xs) ≡ option_map f (find (λ x. p (f x)) xs) → cond b (Some (f x)) (find p (map f xs)) ≡ option_map f (cond b (Some x) (find (λ x. p (f x)) xs))
  go true others = refl
  go false others = others

-- what holds of neighbours among images holds of neighbours
pub adjacent-map : {X Y : Type 0} (f : X → Y) (R : Y → Y → Type 0) (xs : List X) → AllAdjacentBelow R (map f xs) (length (map f xs)) → AllAdjacentBelow (λ x y. R (f x) (f y)) xs (length xs)
adjacent-map f R xs all = λ k d below.
    let long : length (map f xs) ≡ length xs = simp length-map in
    let here = all k (f d) (omega (arith, below, long)) in
    let first : get_or (map f xs) k (f d) ≡ f (get_or xs k d) = get_or-map f xs k d (f d) (omega (arith, below)) in
    let next : get_or (map f xs) (k + 1) (f d) ≡ f (get_or xs (k + 1) d) = get_or-map f xs (k + 1) d (f d) below in
    subst (λ y. R y (f (get_or xs (k + 1) d))) first (subst (λ y. R (get_or (map f xs) k (f d)) y) next here)

-- what holds of images holds of the items they are of
pub all-map : {X Y : Type 0} (f : X → Y) (P : Y → Type 0) (xs : List X) → All P (map f xs) → All (λ x. P (f x)) xs
all-map f P xs all = λ k d below.
    let long : length (map f xs) ≡ length xs = simp length-map in
    subst P (get_or-map f xs k d (f d) below) (all k (f d) (omega (arith, below, long)))

first-map : {X Y : Type 0} (f : X → Y) (p : Y → Bool) (xs : List X) → position_or_len p (map f xs) ≡ position_or_len (λ x. p (f x)) xs
first-map f p [] = refl
first-map f p (x ∷ xs) = ap (λ (n : ℕ). cond (not (p (f x))) (1 + n) 0) (first-map f p xs)

-- the place of an image is that of what it is of
pub position-map : {X Y : Type 0} (f : X → Y) (p : Y → Bool) (xs : List X) → position p (map f xs) ≡ position (λ x. p (f x)) xs
position-map f p xs =
    let long : length (map f xs) ≡ length xs = simp length-map in
    λ i. cond (ltb (first-map f p xs i) (long i)) (Some (first-map f p xs i)) None
