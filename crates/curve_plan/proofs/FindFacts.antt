-- What is found in a list in any order, where at most one item passes.
use Rattle.std.proofs.Common.{◌≡◌, ℕ, suc, ◌<◌, Bool, true, false, List, [], ◌∷◌, Option, Some, None, All, Contains, IsPermutation, length, get_or, refl, sym, ap, ◌∙◌, arith}
use Rattle.std.proofs.lemmas.List.{get_or_default}
use Rattle.std.proofs.lemmas.List.Elements.{All-cons, All-nil}
use Rattle.std.proofs.lemmas.List.Sorted.{All-permutation, Contains-permutation}
use Rattle.std.specs.List.{find}

-- what is found, and that nothing is
module _ {X : Type 0} (p : X → Bool) where
  found-at : (xs : List X) (x : X) → find p xs ≡ Some x → Contains xs x × (p x ≡ true)
  found-at [] x e = absurd (cc e)
  found-at (y ∷ ys) x e = go (p y) refl e (found-at ys x) where
    go : (b : Bool) → p y ≡ b → find p (y ∷ ys) ≡ Some x → (find p ys ≡ Some x → Contains ys x × (p x ≡ true)) → Contains (y ∷ ys) x × (p x ≡ true)
    go true f e later = let g = rw f at e in let s : y ≡ x = cc in ((0, omega arith, s), ap p (sym s) ∙ f)
    go false f e later = let at = later (rw f at e) in ((suc at.0.0, omega (arith, at.0.1), at.0.2), at.1)

  nothing-at : (xs : List X) → find p xs ≡ None → All (λ x. p x ≡ false) xs
  nothing-at [] e = All-nil (λ x. p x ≡ false)
  nothing-at (y ∷ ys) e = go (p y) refl e (nothing-at ys) where
    go : (b : Bool) → p y ≡ b → find p (y ∷ ys) ≡ None → (find p ys ≡ None → All (λ x. p x ≡ false) ys) → All (λ x. p x ≡ false) (y ∷ ys)
    go true f e later = absurd (let g = rw f at e in cc)
    go false f e later = All-cons (λ x. p x ≡ false) y ys f (later (rw f at e))

  -- the only one that passes is found in any order
  pub found-only : (xs ys : List X) (k : ℕ) (x : X) → IsPermutation ys xs → k < length xs → get_or xs k x ≡ x → p x ≡ true
      → ((j : ℕ) (d : X) → j < length xs → p (get_or xs j d) ≡ true → j ≡ k) → find p ys ≡ Some x
  found-only xs ys k x moved below is here only = go (find p ys) refl where
    go : (o : Option X) → find p ys ≡ o → find p ys ≡ Some x
    go None e = absurd (let f = All-permutation (λ x. p x ≡ false) ys xs moved (nothing-at ys e) k x below in let g = ap p is in cc)
    go (Some y) e =
        let at = found-at ys y e in
        let in' = Contains-permutation ys xs y moved at.0 in
        let same : in'.0 ≡ k = only in'.0 y in'.1 (ap p in'.2 ∙ at.1) in
        let one : get_or xs k y ≡ y = ap (λ n. get_or xs n y) (sym same) ∙ in'.2 in
        let two : get_or xs k x ≡ get_or xs k y = get_or_default xs k x y below in
        e ∙ ap Some (sym one ∙ (sym two ∙ is))

  -- where none passes, nothing is found in any order
  pub found-none : (xs ys : List X) → IsPermutation ys xs → ((j : ℕ) (d : X) → j < length xs → p (get_or xs j d) ≡ false) → find p ys ≡ None
  found-none xs ys moved none = go (find p ys) refl where
    go : (o : Option X) → find p ys ≡ o → find p ys ≡ None
    go None e = e
    go (Some y) e =
        let at = found-at ys y e in
        let in' = Contains-permutation ys xs y moved at.0 in
        absurd (let f = none in'.0 y in'.1 in let g = ap p in'.2 in let h = at.1 in cc)

  -- where at most one passes, what is found is the same in any order
  pub found-same : (xs ys : List X) → IsPermutation ys xs
      → ((i j : ℕ) (d : X) → i < length xs → j < length xs → p (get_or xs i d) ≡ true → p (get_or xs j d) ≡ true → i ≡ j) → find p ys ≡ find p xs
  found-same xs ys moved once = go (find p xs) refl where
    go : (o : Option X) → find p xs ≡ o → find p ys ≡ find p xs
    go None e = found-none xs ys moved (nothing-at xs e) ∙ sym e
    go (Some x) e =
        let at = found-at xs x e in
        let here : p (get_or xs at.0.0 x) ≡ true = ap p at.0.2 ∙ at.1 in
        found-only xs ys at.0.0 x moved at.0.1 at.0.2 at.1
        (λ j d b h. once j at.0.0 d b at.0.1 h (ap p (get_or_default xs at.0.0 d x at.0.1) ∙ here)) ∙ sym e
