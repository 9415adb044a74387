-- The images of the items of a list, as plans behind handles.
use Rattle.std.proofs.Common.{◌≡◌, ◌∙◌, ℕ, ◌+◌, ◌<◌, ◌≤◌, List, [], ◌∷◌, ◌++◌, length, get_or, take, map, sym, ap, arith}
use Rattle.std.proofs.lemmas.List.{get_or-map, length-map, map-append, take_all, take_more}

module _ {X Y : Type 0} (f : X → Y) (xs : List X) (ys : List Y) (are : map f xs ≡ ys) where
  -- the image of an item stands where the item does
  pub image-at : (i : ℕ) (x : X) → i < length xs → x ≡ get_or xs i x → (i < length ys) × (f x ≡ get_or ys i (f x))
  image-at i x below is =
      let long : length (map f xs) ≡ length xs = simp length-map in
      let within : i < length ys = omega (arith, below, long, ap length are) in
      let at : f x ≡ get_or ys i (f x) = ap f is ∙ sym (get_or-map f xs i x (f x) below) ∙ ap (λ (zs : List Y). get_or zs i (f x)) are in
      (within, at)

  -- the images of all items
  pub images-all : (i : ℕ) → length xs ≤ i → map f (take i xs) ≡ ys
  images-all i all = ap (map f) (take_all i xs all) ∙ are

-- the images of one item more
pub images-more : {X Y : Type 0} (f : X → Y) (xs : List X) (i : ℕ) (x : X) → i < length xs → x ≡ get_or xs i x → map f (take (i + 1) xs) ≡ map f (take i xs) ++ f x ∷ []
images-more {X} f xs i x below is = ap (map f) (take_more xs i x below ∙ ap (λ (y : X). take i xs ++ y ∷ []) (sym is)) ∙ map-append f (take i xs) (x ∷ [])
