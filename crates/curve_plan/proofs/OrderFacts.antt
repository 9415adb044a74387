-- What a stable sort gives is the list put in order, item by item.
use Rattle.std.proofs.Common.{◌≡◌, ℕ, suc, ◌<◌, ◌≤◌, Bool, true, false, not, cond, List, [], ◌∷◌, length, get_or, filter, map, refl, sym, ap, ◌∙◌, arith}
use Rattle.std.specs.Cmp.{IsStrictWeakOrder}
use Rattle.std.specs.List.{AllByRecursion}
use Rattle.mib_model.specs.Orders.{insert_by, sorted_by}

module _ {X : Type 0} (lt tie le : X → X → Bool) (o : IsStrictWeakOrder lt) where
  -- ties, and what may stand before what, by the order
  pub record IsOrderOf : Type 0 where
    pub below : (x y : X) → lt x y ≡ true → tie x y ≡ false
    pub above : (x y : X) → lt y x ≡ true → tie x y ≡ false
    pub alike : (x y : X) → lt x y ≡ false → lt y x ≡ false → tie x y ≡ true
    pub first : (x y : X) → le x y ≡ not (lt y x)

  abbrev pub Rises : List X → Type 0
  Rises [] = Unit {0}
  Rises (x ∷ xs) = AllByRecursion (λ y. lt y x ≡ false) xs × Rises xs

  all-later : (x : X) (zs : List X) → ((j : ℕ) (d : X) → j < length zs → lt (get_or zs j d) x ≡ false) → AllByRecursion (λ y. lt y x ≡ false) zs
  all-later x [] at = tt
  all-later x (z ∷ zs) at = (at 0 z (omega arith), all-later x zs (λ j d b. at (suc j) d (omega (arith, b))))

  pub rises-from_far : (xs : List X) → ((i j : ℕ) (d : X) → i ≤ j → j < length xs → lt (get_or xs j d) (get_or xs i d) ≡ false) → Rises xs
  rises-from_far [] far = tt
  rises-from_far (x ∷ xs) far =
      (all-later x xs (λ j d b. far 0 (suc j) d (omega arith) (omega (arith, b))), rises-from_far xs (λ i j d a b. far (suc i) (suc j) d (omega (arith, a)) (omega (arith, b))))

  self : (x : X) → lt x x ≡ false
  self x = go (lt x x) refl where
    go : (b : Bool) → lt x x ≡ b → lt x x ≡ false
    go true e = o.one_way x x e
    go false e = e

  -- what is not below something that is above x is above x
  past : (x y z : X) → lt x y ≡ true → lt z y ≡ false → lt x z ≡ true
  past x y z h k = go (lt x z) refl where
    go : (b : Bool) → lt x z ≡ b → lt x z ≡ true
    go true e = e
    go false e = absurd (let f = o.chain x z y e k in cc)

  module _ (is : IsOrderOf) where
    not_below : (x y : X) → tie x y ≡ true → lt x y ≡ false
    not_below x y t = go (lt x y) refl where
      go : (b : Bool) → lt x y ≡ b → lt x y ≡ false
      go true e = absurd (let f = is.below x y e in cc)
      go false e = e

    not_above : (x y : X) → tie x y ≡ true → lt y x ≡ false
    not_above x y t = go (lt y x) refl where
      go : (b : Bool) → lt y x ≡ b → lt y x ≡ false
      go true e = absurd (let f = is.above x y e in cc)
      go false e = e

    none : (x y : X) (ys : List X) → lt x y ≡ true → AllByRecursion (λ z. lt z y ≡ false) ys → filter (tie x) ys ≡ []
    none x y [] h all = refl
    none x y (z ∷ zs) h all = let e : tie x z ≡ false = is.below x z (past x y z h all.0) in rw e (none x y zs h all.1)

    none-first : (x y : X) (ys : List X) → lt x y ≡ true → Rises (y ∷ ys) → filter (tie x) (y ∷ ys) ≡ []
    none-first x y ys h up = let e : tie x y ≡ false = is.below x y h in rw e (none x y ys h up.0)

    own : (x : X) (xs : List X) → filter (tie x) (x ∷ xs) ≡ x ∷ filter (tie x) xs
    own x xs = let e : tie x x ≡ true = is.alike x x (self x) (self x) in rw e refl

    same-first : (x y : X) (xs ys : List X) → Rises (x ∷ xs) → Rises (y ∷ ys) → ((k : X) → filter (tie k) (x ∷ xs) ≡ filter (tie k) (y ∷ ys)) → tie x y ≡ true
    same-first x y xs ys up higher same = go (lt x y) refl (lt y x) refl where
      go : (b : Bool) → lt x y ≡ b → (c : Bool) → lt y x ≡ c → tie x y ≡ true
      go true e c f = absurd (let n = none-first x y ys e higher in let m = own x xs in let s = same x in cc)
      go false e true f = absurd (let n = none-first y x xs f up in let m = own y ys in let s = same y in cc)
      go false e false f = is.alike x y e f

    firsts : (x y : X) (xs ys : List X) → tie x y ≡ true → filter (tie x) (x ∷ xs) ≡ filter (tie x) (y ∷ ys) → x ≡ y
    firsts x y xs ys t s = let m = own x xs in let n = rw t at s in cc

    -- two lists in order that have the same items of each tie are one
    pub unique : (xs ys : List X) → Rises xs → Rises ys → ((k : X) → filter (tie k) xs ≡ filter (tie k) ys) → xs ≡ ys
    unique [] [] up higher same = refl
    unique [] (y ∷ ys) up higher same = absurd (let m = own y ys in let s = same y in cc)
    unique (x ∷ xs) [] up higher same = absurd (let m = own x xs in let s = same x in cc)
    unique (x ∷ xs) (y ∷ ys) up higher same =
        let first : x ≡ y = firsts x y xs ys (same-first x y xs ys up higher same) (same x) in
        let rest : xs ≡ ys = unique xs ys up.1 higher.1 (λ k. behind k (tie k x) refl (same k) first) in
        cc where
          behind : (k : X) (b : Bool) → tie k x ≡ b → filter (tie k) (x ∷ xs) ≡ filter (tie k) (y ∷ ys) → x ≡ y → filter (tie k) xs ≡ filter (tie k) ys
          behind k true e both first = let f : tie k y ≡ true = ap (tie k) (sym first) ∙ e in let h = rw (e, f) at both in cc
          behind k false e both first = let f : tie k y ≡ false = ap (tie k) (sym first) ∙ e in rw (e, f) at both

    -- an item put in its place
    insert-ties : (k x : X) (ys : List X) → filter (tie k) (insert_by le x ys) ≡ filter (tie k) (x ∷ ys)
    insert-ties k x [] = refl
    insert-ties k x (y ∷ ys) = go (le x y) refl (tie k x) refl (tie k y) refl (insert-ties k x ys) where
      not-both : le x y ≡ false → tie k x ≡ true → tie k y ≡ true → true ≡ false
      not-both h e f =
          let chained : lt y x ≡ false = o.chain y k x (not_above k y f) (not_below k x e) in
          let first = is.first x y in
          let turned : not (lt y x) ≡ true = ap not chained in
          cc

      go : (b : Bool) → le x y ≡ b → (c : Bool) → tie k x ≡ c → (d : Bool) → tie k y ≡ d → filter (tie k) (insert_by le x ys) ≡ filter (tie k) (x ∷ ys)
          → filter (tie k) (cond b (x ∷ y ∷ ys) (y ∷ insert_by le x ys)) ≡ filter (tie k) (x ∷ y ∷ ys)
      go true h c e d f others = refl
      go false h true e true f others = absurd (let n = not-both h e f in cc)
      go false h true e false f others = rw (e, f) (rw e at others)
      go false h false e d f others = rw e (ap (λ zs. cond (tie k y) (y ∷ zs) zs) (rw e at others))

    sorted-ties : (k : X) (xs : List X) → filter (tie k) (sorted_by le xs) ≡ filter (tie k) xs
    unfolding sorted_by
    sorted-ties k [] = refl
    sorted-ties k (x ∷ xs) = insert-ties k x (sorted_by le xs) ∙ ap (λ zs. cond (tie k x) (x ∷ zs) zs) (sorted-ties k xs)

    all-insert : (P : X → Type 0) (x : X) (ys : List X) → P x → AllByRecursion P ys → AllByRecursion P (insert_by le x ys)
    all-insert P x [] px all = (px, tt)
    all-insert P x (y ∷ ys) px all = go (le x y) (all-insert P x ys px all.1) where
      go : (b : Bool) → AllByRecursion P (insert_by le x ys) → AllByRecursion P (cond b (x ∷ y ∷ ys) (y ∷ insert_by le x ys))
      go true more = (px, all)
      go false more = (all.0, more)

    chained : (x y : X) (ys : List X) → lt y x ≡ false → AllByRecursion (λ z. lt z y ≡ false) ys → AllByRecursion (λ z. lt z x ≡ false) ys
    chained x y [] h all = tt
    chained x y (z ∷ zs) h all = (o.chain z y x all.0 h, chained x y zs h all.1)

    insert-rises : (x : X) (ys : List X) → Rises ys → Rises (insert_by le x ys)
    insert-rises x [] up = (tt, tt)
    insert-rises x (y ∷ ys) up = go (le x y) refl (lt y x) refl (insert-rises x ys up.1) where
      go : (b : Bool) → le x y ≡ b → (c : Bool) → lt y x ≡ c → Rises (insert_by le x ys) → Rises (cond b (x ∷ y ∷ ys) (y ∷ insert_by le x ys))
      go true h true e rest = absurd (let f = is.first x y in let t : not (lt y x) ≡ false = ap not e in cc)
      go true h false e rest = ((e, chained x y ys e up.0), up)
      go false h false e rest = absurd (let f = is.first x y in let t : not (lt y x) ≡ true = ap not e in cc)
      go false h true e rest = (all-insert (λ z. lt z y ≡ false) x ys (o.one_way y x e) up.0, rest)

    sorted-rises : (xs : List X) → Rises (sorted_by le xs)
    unfolding sorted_by
    sorted-rises [] = tt
    sorted-rises (x ∷ xs) = insert-rises x (sorted_by le xs) (sorted-rises xs)

    -- what rises and has the same items of each tie is the list in order
    pub sorted-is : (xs ys : List X) → Rises ys → ((k : X) → filter (tie k) ys ≡ filter (tie k) xs) → ys ≡ sorted_by le xs
    sorted-is xs ys up stable = unique ys (sorted_by le xs) up (sorted-rises xs) (λ k. stable k ∙ sym (sorted-ties k xs))

-- what an order of images puts in order, of the items themselves
module _ {X Y : Type 0} (f : X → Y) (le : Y → Y → Bool) where
  abbrev before : X → X → Bool
  before x y = le (f x) (f y)

  insert-map : (x : X) (ys : List X) → map f (insert_by before x ys) ≡ insert_by le (f x) (map f ys)
  insert-map x [] = refl
  insert-map x (y ∷ ys) = go (le (f x) (f y)) (insert-map x ys) where
    go : (b : Bool) → map f (insert_by before x ys) ≡ insert_by le (f x) (map f ys) → map f (cond b (x ∷ y ∷ ys) (y ∷ insert_by before x ys)) ≡ cond b (f x ∷ f y ∷ map f ys) (f y ∷ insert_by le (f x) (map f ys))
    go true others = refl
    go false others = ap (λ zs. f y ∷ zs) others

  pub sorted-map : (xs : List X) → map f (sorted_by before xs) ≡ sorted_by le (map f xs)
  unfolding sorted_by
  sorted-map [] = refl
  sorted-map (x ∷ xs) = insert-map x (sorted_by before xs) ∙ ap (insert_by le (f x)) (sorted-map xs)
