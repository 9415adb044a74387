-- The first place of a row among rows that grow.
use Rattle.std.proofs.Common.{◌≡◌, ℕ, suc, ◌+◌, ◌<◌, Bool, true, false, not, cond, List, [], ◌∷◌, ◌++◌, length, get_or, take, if◌then◌else◌, Option, Some, None, is_some, option_map, ◌||◌, refl, sym, ap, ◌∙◌, nat_lt, arith}
use Rattle.std.proofs.lemmas.Bool.{ltb-true, ltb-false, lt-ltb, le-ltb}
use Rattle.std.proofs.lemmas.List.{take_more, length-take-le}
use Rattle.std.specs.List.{find, list_any, position, prefix_len, slice_get}
use Rattle.std.specs.Option.{option_and_then, option_or}

-- a place, where something holds of the row there
abbrev some_if : Bool → ℕ → Option ℕ
some_if holds place = if holds then Some place else None

pub below_one_more : (n m : ℕ) → nat_lt (1 + n) (suc m) ≡ nat_lt n m
below_one_more n m = go (nat_lt n m) refl where
  go : (b : Bool) → nat_lt n m ≡ b → nat_lt (1 + n) (suc m) ≡ b
  go true h = lt-ltb (1 + n) (suc m) (let l = ltb-true n m h in omega arith)
  go false h = le-ltb (1 + n) (suc m) (let l = ltb-false n m h in omega arith)

-- the first place by recursion
pub position-cons : {X : Type 0} (p : X → Bool) (x : X) (xs : List X) → position p (x ∷ xs) ≡ cond (p x) (Some 0) (option_map (λ i. i + 1) (position p xs))
position-cons {X} p x xs = go (p x) where
  later : (n m : ℕ) (b : Bool) → cond b (Some (1 + n)) None ≡ option_map (λ i. i + 1) (cond b (Some n) None)
  later n m true = let e : 1 + n ≡ n + 1 = omega arith in ap Some e
  later n m false = refl

  go : (b : Bool) → cond (nat_lt (cond (not b) (1 + prefix_len (λ y. not (p y)) xs) 0) (suc (length xs))) (Some (cond (not b) (1 + prefix_len (λ y. not (p y)) xs) 0)) None ≡ cond b (Some 0) (option_map (λ i. i + 1) (position p xs))
  go true = let e : nat_lt 0 (suc (length xs)) ≡ true = lt-ltb 0 (suc (length xs)) (omega arith) in rw e refl
  go false = rw (below_one_more (prefix_len (λ y. not (p y)) xs) (length xs)) (later (prefix_len (λ y. not (p y)) xs) (length xs) (nat_lt (prefix_len (λ y. not (p y)) xs) (length xs)))

-- of one more item
pub position-push : {X : Type 0} (p : X → Bool) (xs : List X) (y : X) → position p (xs ++ y ∷ []) ≡ option_or (position p xs) (some_if (p y) (length xs))
position-push p [] y = position-cons p y [] ∙ go (p y) where
  go : (b : Bool) → cond b (Some 0) None ≡ some_if b 0
  go true = refl
  go false = refl
position-push p (x ∷ xs) y = position-cons p x (xs ++ y ∷ []) ∙ (ap (λ o. cond (p x) (Some 0) (option_map (λ i. i + 1) o)) (position-push p xs y) ∙ (go (p x) (position p xs) (p y) ∙ ap (λ o. option_or o (some_if (p y) (suc (length xs)))) (sym (position-cons p x xs)))) where
  go : (b : Bool) (o : Option ℕ) (c : Bool) → cond b (Some 0) (option_map (λ i. i + 1) (option_or o (some_if c (length xs)))) ≡ option_or (cond b (Some 0) (option_map (λ i. i + 1) o)) (some_if c (suc (length xs)))
  go true o c = refl
  go false (Some i) c = refl
  go false None true = let e : length xs + 1 ≡ suc (length xs) = omega arith in ap Some e
  go false None false = refl

-- items read one by one
module _ {A : Type 0} (rows : List A) (i : ℕ) (row : A) where
  taken-more : i < length rows → row ≡ get_or rows i row → take (i + 1) rows ≡ take i rows ++ row ∷ []
  taken-more below is = take_more rows i row below ∙ ap (λ (x : A). take i rows ++ x ∷ []) (sym is)

  taken-long : i < length rows → length (take i rows) ≡ i
  taken-long below = length-take-le i rows (omega (arith, below))

  pub position-more : (p : A → Bool) → i < length rows → row ≡ get_or rows i row → position p (take (i + 1) rows) ≡ option_or (position p (take i rows)) (some_if (p row) i)
  position-more p below is = ap (position p) (taken-more below is) ∙ (position-push p (take i rows) row ∙ ap (λ n. option_or (position p (take i rows)) (some_if (p row) n)) (taken-long below))

-- the item at the place that is found
pub found-item : {X : Type 0} (p : X → Bool) (xs : List X) → option_and_then (λ i. slice_get xs i) (position p xs) ≡ find p xs
found-item p [] = refl
found-item p (x ∷ xs) = ap (λ o. option_and_then (λ i. slice_get (x ∷ xs) i) o) (position-cons p x xs) ∙ go (p x) (position p xs) (found-item p xs) where
  go : (b : Bool) (o : Option ℕ) → option_and_then (λ i. slice_get xs i) o ≡ find p xs → option_and_then (λ i. slice_get (x ∷ xs) i) (cond b (Some 0) (option_map (λ i. i + 1) o)) ≡ cond b (Some x) (find p xs)
  go true o h = refl
  go false None h = h
  go false (Some i) h = (let e : i + 1 ≡ suc i = omega arith in ap (slice_get (x ∷ xs)) e) ∙ h

-- an item is found where some item passes
pub found-some : {X : Type 0} (p : X → Bool) (xs : List X) → is_some (find p xs) ≡ list_any p xs
found-some p [] = refl
found-some p (x ∷ xs) = go (p x) (found-some p xs) where
  go : (b : Bool) → is_some (find p xs) ≡ list_any p xs → is_some (cond b (Some x) (find p xs)) ≡ (b || list_any p xs)
  go true h = refl
  go false h = h

-- what is there is there under any view
pub viewed : {A B : Type 0} (view : A → B) (o : Option A) → is_some (option_map view o) ≡ is_some o
viewed view None = refl
viewed view (Some x) = refl
