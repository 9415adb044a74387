-- Where the plan at a place stands, of plans in blocks.
use Rattle.std.proofs.Common.{◌≡◌, ◌∙◌, ℕ, zero, suc, ◌+◌, ◌*◌, ◌/◌, ◌%◌, ◌<◌, ◌≤◌, List, [], ◌∷◌, ◌++◌, All, length, get_or, map, refl, sym, ap, arith, flat_map}
use Rattle.std.proofs.lemmas.List.{append-nil, get_or-append-add, get_or_append_left, length-append, length-map, map-append}
use Rattle.std.proofs.lemmas.Nat.{div-add-mod', mod_below}
use Rattle.param_plan.specs.Blocks.{IsCut, IsWhole}

module _ {X A : Type 0} (f : X → List A) where
  -- where the item of a place stands: its block, and its place in that
  abbrev pub StandsAt : List X → ℕ → ℕ → ℕ → Type 0
  StandsAt xs k j at = (k < length xs) × ((e : X) → j < length (f (get_or xs k e))) × ((e : X) (d : A) → get_or (flat_map f xs) at d ≡ get_or (f (get_or xs k e)) j d)

  placed : (xs : List X) (k j at : ℕ) → IsCut f xs → j < 64 → at ≡ k * 64 + j → at < length (flat_map f xs) → StandsAt xs k j at
  placed [] k j at cut low is below = absurd (omega (arith, below))
  placed (x ∷ []) zero j at cut low is below =
      let same : f x ++ [] ≡ f x = append-nil (f x) in
      let first : at ≡ j = omega (arith, is) in
      (omega arith, λ e. omega (arith, below, first, ap length same), λ e d i. get_or (same i) (first i) d)
  placed (x ∷ []) (suc k) j at cut low is below = absurd (omega (arith, is, below, cut, ap length (append-nil (f x))))
  placed (x ∷ y ∷ xs) zero j at cut low is below =
      let within : j < length (f x) = omega (arith, low, cut.0) in
      let first : at ≡ j = omega (arith, is) in
      (omega arith, λ e. within, λ e d. ap (λ (n : ℕ). get_or (f x ++ flat_map f (y ∷ xs)) n d) first ∙ get_or_append_left (f x) (flat_map f (y ∷ xs)) d j within)
  placed (x ∷ y ∷ xs) (suc k) j at cut low is below =
      let rest = placed (y ∷ xs) k j (k * 64 + j) cut.1 low refl (let long = length-append (f x) (flat_map f (y ∷ xs)) in omega (arith, is, below, long, cut.0)) in
      let further : at ≡ length (f x) + (k * 64 + j) = omega (arith, is, cut.0) in
      (omega (arith, rest.0), rest.1, λ e d. ap (λ (n : ℕ). get_or (f x ++ flat_map f (y ∷ xs)) n d) further ∙ get_or-append-add (f x) (flat_map f (y ∷ xs)) (k * 64 + j) d ∙ rest.2 e d)

  -- the item at a place stands in the block of the place's quotient, at the remainder
  pub placed-at : (xs : List X) (at : ℕ) → IsCut f xs → at < length (flat_map f xs) → StandsAt xs (at / 64) (at % 64) at
  placed-at xs at cut below = placed xs (at / 64) (at % 64) at cut (mod_below at 64 (omega arith)) (sym (div-add-mod' at 64)) below

  -- behind whole blocks may stand one of no more
  pub cut-behind : (xs : List X) (y : X) → All (IsWhole f) xs → length (f y) ≤ 64 → IsCut f (xs ++ y ∷ [])
  cut-behind [] y whole last = last
  cut-behind (x ∷ []) y whole last = (whole 0 x (omega arith), last)
  cut-behind (x ∷ z ∷ xs) y whole last = (whole 0 x (omega arith), cut-behind (z ∷ xs) y (λ k d below. whole (suc k) d (omega (arith, below))) last)

  -- an item of a block stands at a place
  pub stands : (xs : List X) (k j at : ℕ) (e : X) → IsCut f xs → k < length xs → j < length (f (get_or xs k e)) → at ≡ k * 64 + j → (j < 64) × (at < length (flat_map f xs)) × ((d : A) → get_or (flat_map f xs) at d ≡ get_or (f (get_or xs k e)) j d)
  stands [] k j at e cut low below is = absurd (omega (arith, low))
  stands (x ∷ []) zero j at e cut low below is =
      let same : f x ++ [] ≡ f x = append-nil (f x) in
      let first : at ≡ j = omega (arith, is) in
      (omega (arith, below, cut), omega (arith, first, below, ap length same), λ d i. get_or (same i) (first i) d)
  stands (x ∷ []) (suc k) j at e cut low below is = absurd (omega (arith, low))
  stands (x ∷ y ∷ xs) zero j at e cut low below is =
      let first : at ≡ j = omega (arith, is) in
      let long = length-append (f x) (flat_map f (y ∷ xs)) in
      (omega (arith, below, cut.0), omega (arith, first, below, long), λ d. ap (λ (n : ℕ). get_or (f x ++ flat_map f (y ∷ xs)) n d) first ∙ get_or_append_left (f x) (flat_map f (y ∷ xs)) d j below)
  stands (x ∷ y ∷ xs) (suc k) j at e cut low below is =
      let rest = stands (y ∷ xs) k j (k * 64 + j) e cut.1 (omega (arith, low)) below refl in
      let long = length-append (f x) (flat_map f (y ∷ xs)) in
      let further : at ≡ length (f x) + (k * 64 + j) = omega (arith, is, cut.0) in
      (rest.0, omega (arith, further, long, rest.1), λ d. ap (λ (n : ℕ). get_or (f x ++ flat_map f (y ∷ xs)) n d) further ∙ get_or-append-add (f x) (flat_map f (y ∷ xs)) (k * 64 + j) d ∙ rest.2 d)

-- images of all items, block by block
pub map-blocks : {X A B : Type 0} (f : X → List A) (g : A → B) (xs : List X) → map g (flat_map f xs) ≡ flat_map (λ x. map g (f x)) xs
map-blocks f g [] = refl
map-blocks {X} {A} {B} f g (x ∷ xs) = map-append g (f x) (flat_map f xs) ∙ ap (λ (ys : List B). map g (f x) ++ ys) (map-blocks f g xs)

module _ {X Y A : Type 0} (f : X → List A) (g : Y → List A) where
  -- blocks of the same items have the same items
  pub flat-alike : (xs : List X) (ys : List Y) → map f xs ≡ map g ys → flat_map f xs ≡ flat_map g ys
  flat-alike xs ys same = flat-images f xs ∙ ap (flat_map (λ (ys : List A). ys)) same ∙ sym (flat-images g ys) where
    flat-images : {Z : Type 0} (h : Z → List A) (zs : List Z) → flat_map h zs ≡ flat_map (λ ys. ys) (map h zs)
    flat-images h [] = refl
    flat-images h (z ∷ zs) = ap (λ (ys : List A). h z ++ ys) (flat-images h zs)

  -- and are cut as they are
  pub cut-alike : (xs : List X) (ys : List Y) → map f xs ≡ map g ys → IsCut f xs → IsCut g ys
  cut-alike [] [] same cut = cut
  cut-alike [] (y ∷ ys) same cut = absurd (cc same)
  cut-alike (x ∷ xs) [] same cut = absurd (cc same)
  cut-alike (x ∷ []) (y ∷ []) same cut = (let is : f x ≡ g y = cc in omega (arith, cut, ap length is))
  cut-alike (x ∷ []) (y ∷ z ∷ ys) same cut = absurd (cc same)
  cut-alike (x ∷ w ∷ xs) (y ∷ []) same cut = absurd (cc same)
  cut-alike (x ∷ w ∷ xs) (y ∷ z ∷ ys) same cut =
      let is : f x ≡ g y = cc in
      let rest : map f (w ∷ xs) ≡ map g (z ∷ ys) = cc in
      (sym (ap length is) ∙ cut.0, cut-alike (w ∷ xs) (z ∷ ys) rest cut.1)

-- blocks of images are cut as those that they are of
pub cut-map : {X A B : Type 0} (f : X → List A) (h : A → B) (xs : List X) → IsCut f xs → IsCut (λ x. map h (f x)) xs
cut-map f h [] cut = cut
cut-map f h (x ∷ []) cut = omega (arith, cut, length-map (f x) h)
cut-map f h (x ∷ y ∷ xs) cut = (length-map (f x) h ∙ cut.0, cut-map f h (y ∷ xs) cut.1)
