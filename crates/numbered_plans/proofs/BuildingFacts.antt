-- Plans of numbers that are taken one after the other.
use Rattle.std.proofs.Common.{◌≡◌, ℕ, ◌+◌, ◌<◌, ◌≤◌, ℤ, pos, nat_eq, nat_le, suc, Bool, true, false, cond, ◌||◌, not, List, [], ◌∷◌, ◌++◌, append-nil, take, length, get_or, filter, Option, Some, None, is_some, refl, sym, ap, ◌∙◌, nat_abs, arith, if◌then◌else◌}
use Rattle.std.proofs.lemmas.Bool.{eqb-true, eqb-false, eq-eqb, ne_eqb}
use Rattle.std.proofs.lemmas.List.{take_more}
use Rattle.std.proofs.lemmas.List.Folds.{list_any-append, list_any_more}
use Rattle.std.proofs.lemmas.List.Sums.{count_by-le-length, length-filter}
use Rattle.std.specs.Bool.{one_answer}
use Rattle.std.specs.Cmp.{signed_Decides}
use Rattle.std.specs.List.{list_any}
use Rattle.std.specs.Option.{option_or}
use Rattle.std.specs.Ordering.{int_eq}
use Rattle.mib_model.specs.Orders.{sorted_by}
use Rattle.mib_model.specs.Plans.{distinct}
use Rattle.numbered_plans.proofs.NumberFacts.{in_order, long-insert, long-sorted, put, put-swap, sorted-more}
use Rattle.numbered_plans.specs.Numbered.{added, found_among, is_new, is_new_at, new_among}

-- one number more, among those of which each is kept once that passes
module _ (p : ℕ → Bool) where
  abbrev kept : List ℕ → List ℕ
  kept xs = in_order (filter p (distinct xs))

  abbrev has : ℕ → List ℕ → Bool
  has x = list_any (λ m. nat_eq m x)

  -- a number that passes put among others, if it isn't there
  abbrev noted : Bool → ℕ → List ℕ → List ℕ
  noted b x ns = cond b ns (cond (p x) (put x ns) ns)

  noted-swap : (b : Bool) (x y : ℕ) (ns : List ℕ) → put y (noted b x ns) ≡ noted b x (put y ns)
  noted-swap true x y ns = refl
  noted-swap false x y ns = go (p x) where
    go : (c : Bool) → put y (cond c (put x ns) ns) ≡ cond c (put x (put y ns)) (put y ns)
    go true = put-swap y x ns
    go false = refl

  front : (c b : Bool) (x y : ℕ) (xs ys : List ℕ) → in_order xs ≡ noted b x (in_order ys) → in_order (cond c (y ∷ xs) xs) ≡ noted b x (in_order (cond c (y ∷ ys) ys))
  unfolding sorted_by
  front true b x y xs ys more = ap (put y) more ∙ noted-swap b x y (in_order ys)
  front false b x y xs ys more = more

  first-kept : (c : Bool) (x : ℕ) (xs : List ℕ) → cond c (put x (in_order xs)) (in_order xs) ≡ in_order (cond c (x ∷ xs) xs)
  unfolding sorted_by
  first-kept true x xs = refl
  first-kept false x xs = refl

  way : (y x : ℕ) (ys : List ℕ) (a c b : Bool) → has y ys ≡ a → nat_eq x y ≡ c → has x ys ≡ b → kept (ys ++ x ∷ []) ≡ noted b x (kept ys)
      → in_order (filter p (cond (a || (c || false)) (distinct (ys ++ x ∷ [])) (y ∷ distinct (ys ++ x ∷ [])))) ≡ noted (nat_eq y x || b) x (in_order (filter p (cond a (distinct ys) (y ∷ distinct ys))))
  way y x ys true true b is_a is_c is_b more =
      let same : x ≡ y = eqb-true x y is_c in
      let other : nat_eq y x ≡ true = eq-eqb y x (sym same) in
      let held : b ≡ true = sym is_b ∙ ap (λ z. has z ys) same ∙ is_a in
      more ∙ ap (λ z. noted z x (kept ys)) held ∙ ap (λ z. noted (z || b) x (kept ys)) (sym other)
  way y x ys true false b is_a is_c is_b more =
      more ∙ ap (λ z. noted (z || b) x (kept ys)) (sym (ne_eqb y x (λ same. eqb-false x y is_c (sym same))))
  way y x ys false true b is_a is_c is_b more =
      let same : x ≡ y = eqb-true x y is_c in
      let other : nat_eq y x ≡ true = eq-eqb y x (sym same) in
      let held : b ≡ false = sym is_b ∙ ap (λ z. has z ys) same ∙ is_a in
      more
      ∙ ap (λ z. noted z x (kept ys)) held
      ∙ ap (λ z. cond (p z) (put z (kept ys)) (kept ys)) same
      ∙ first-kept (p y) y (filter p (distinct ys))
      ∙ ap (λ z. noted (z || b) x (in_order (cond (p y) (y ∷ filter p (distinct ys)) (filter p (distinct ys))))) (sym other)
  way y x ys false false b is_a is_c is_b more =
      front (p y) b x y (filter p (distinct (ys ++ x ∷ []))) (filter p (distinct ys)) more
      ∙ ap (λ z. noted (z || b) x (in_order (cond (p y) (y ∷ filter p (distinct ys)) (filter p (distinct ys))))) (sym (ne_eqb y x (λ same. eqb-false x y is_c (sym same))))

  pub kept-more : (xs : List ℕ) (x : ℕ) → kept (xs ++ x ∷ []) ≡ noted (has x xs) x (kept xs)
  unfolding sorted_by
  kept-more [] x = first (p x) where
    first : (b : Bool) → in_order (cond b (x ∷ []) []) ≡ cond b (x ∷ []) []
    first true = refl
    first false = refl
  kept-more (y ∷ ys) x =
      rw (list_any-append (λ m. nat_eq m y) ys (x ∷ [])) (way y x ys (has y ys) (nat_eq x y) (has x ys) refl refl refl (kept-more ys x))

-- the test of two numbers as that of two whole numbers
pub whole : (a b : ℕ) → int_eq (pos a) (pos b) ≡ nat_eq a b
whole a b =
    one_answer {P = pos a ≡ pos b} (int_eq (pos a) (pos b)) (nat_eq a b) (signed_Decides (pos a) (pos b))
    (λ e. ap pos (eqb-true a b e), λ e. eq-eqb a b (ap nat_abs e))

held-same : (ns : List ℕ) (n : ℕ) → list_any (λ m. int_eq (pos m) (pos n)) ns ≡ list_any (λ m. nat_eq m n) ns
held-same [] n = refl
held-same (m ∷ ms) n = rw (whole m n) (ap (λ b. nat_eq m n || b) (held-same ms n))

module _ {R : Type 0} (same : R → R → Bool) (old new : ℤ → Option R) where
  abbrev is_made : ℕ → Bool
  is_made = is_new_at same old new

  abbrev is_among : ℕ → List ℕ → Bool
  is_among n = list_any (λ m. nat_eq m n)

  -- what is added for a number that is there, or isn't
  added-held : (b : Bool) (n : ℕ) → added same old new (cond b (new (pos n)) None) n ≡ cond b [] (cond (is_made n) (n ∷ []) [])
  added-held false n = refl
  added-held true n = go (new (pos n)) where
    go : (o : Option R) → cond (is_some o) [] (cond (is_new same (old (pos n)) o) (n ∷ []) []) ≡ []
    go None = refl
    go (Some r) = refl

  added-is : (ns : List ℕ) (n : ℕ) (held : Option R) → held ≡ found_among new ns (pos n) → added same old new held n ≡ cond (is_among n ns) [] (cond (is_made n) (n ∷ []) [])
  added-is ns n held found = ap (λ o. added same old new o n) (found ∙ ap (λ b. cond b (new (pos n)) None) (held-same ns n)) ∙ added-held (is_among n ns) n

  -- numbers put in order behind which there is one more
  ordered-more : (ns : List ℕ) (b : Bool) (n : ℕ) → in_order (ns ++ cond b [] (cond (is_made n) (n ∷ []) [])) ≡ noted is_made b n (in_order ns)
  ordered-more ns true n = ap in_order (append-nil ns)
  ordered-more ns false n = go (is_made n) where
    go : (c : Bool) → in_order (ns ++ cond c (n ∷ []) []) ≡ cond c (put n (in_order ns)) (in_order ns)
    go true = sorted-more ns n
    go false = ap in_order (append-nil ns)

  -- one number more: those of which plans are compiled
  noted-more : (ns : List ℕ) (i n : ℕ) → i < length ns → n ≡ get_or ns i n
      → new_among same old new (take (i + 1) ns) ≡ noted is_made (is_among n (take i ns)) n (new_among same old new (take i ns))
  noted-more ns i n below is =
      ap (kept is_made) (take_more ns i n below ∙ ap (λ (m : ℕ). take i ns ++ m ∷ []) (sym is)) ∙ kept-more is_made (take i ns) n

  -- one number more: those that were noted, put in order, are those of which plans are compiled
  pub new-more : (ns : List ℕ) (i n : ℕ) (made : List ℕ) (held : Option R) → i < length ns → n ≡ get_or ns i n → held ≡ found_among new (take i ns) (pos n)
      → in_order made ≡ new_among same old new (take i ns) → in_order (made ++ added same old new held n) ≡ new_among same old new (take (i + 1) ns)
  new-more ns i n made held below is found are =
      ap (λ (more : List ℕ). in_order (made ++ more)) (added-is (take i ns) n held found)
      ∙ ordered-more made (is_among n (take i ns)) n
      ∙ ap (noted is_made (is_among n (take i ns)) n) are
      ∙ sym (noted-more ns i n below is)

  -- one number more: how many plans are compiled
  pub count-more : (ns : List ℕ) (i n : ℕ) (held : Option R) → i < length ns → n ≡ get_or ns i n → held ≡ found_among new (take i ns) (pos n)
      → length (new_among same old new (take (i + 1) ns)) ≡ length (new_among same old new (take i ns)) + length (added same old new held n)
  count-more ns i n held below is found =
      ap length (noted-more ns i n below is)
      ∙ go (is_among n (take i ns)) (is_made n) (new_among same old new (take i ns))
      ∙ ap (λ (more : List ℕ). length (new_among same old new (take i ns)) + length more) (sym (added-is (take i ns) n held found)) where
        go : (a b : Bool) (ms : List ℕ) → length (cond a ms (cond b (put n ms) ms)) ≡ length ms + length (cond a [] (cond b (n ∷ []) []))
        go true b ms = omega arith
        go false true ms = omega (arith, long-insert (λ (x y : ℕ). nat_le x y) n ms)
        go false false ms = omega arith

or-self : {A : Type 0} (o : Option A) → option_or o o ≡ o
or-self None = refl
or-self (Some x) = refl

or-none : {A : Type 0} (o : Option A) → option_or o None ≡ o
or-none None = refl
or-none (Some x) = refl

-- one number more: the rows of a number
pub found-more : {R : Type 0} (new : ℤ → Option R) (ns : List ℕ) (i n : ℕ) (q : ℤ) → i < length ns → n ≡ get_or ns i n
    → option_or (found_among new (take i ns) q) (if int_eq (pos n) q then new (pos n) else None) ≡ found_among new (take (i + 1) ns) q
found-more new ns i n q below is =
    way2 (list_any (λ m. int_eq (pos m) q) (take i ns)) (int_eq (pos n) q) refl
    ∙ ap (λ b. cond b (new q) None) (sym (list_any_more (λ m. int_eq (pos m) q) ns i n below ∙ ap (λ (k : ℕ). list_any (λ m. int_eq (pos m) q) (take i ns) || int_eq (pos k) q) (sym is))) where
      way2 : (a b : Bool) → int_eq (pos n) q ≡ b → option_or (cond a (new q) None) (cond b (new (pos n)) None) ≡ cond (a || b) (new q) None
      way2 true true e = ap (λ z. option_or (new q) (new z)) ((signed_Decides (pos n) q).0 e) ∙ or-self (new q)
      way2 true false e = or-none (new q)
      way2 false true e = ap new ((signed_Decides (pos n) q).0 e)
      way2 false false e = refl

long-distinct : (ns : List ℕ) → length (distinct ns) ≤ length ns
long-distinct [] = omega arith
long-distinct (n ∷ ns) = go (list_any (λ m. nat_eq m n) ns) (long-distinct ns) where
  go : (b : Bool) → length (distinct ns) ≤ length ns → length (cond b (distinct ns) (n ∷ distinct ns)) ≤ suc (length ns)
  go true others = omega (arith, others)
  go false others = omega (arith, others)

-- no more plans are compiled than there are numbers
pub few-new : {R : Type 0} (same : R → R → Bool) (old new : ℤ → Option R) (ns : List ℕ) → length (new_among same old new ns) ≤ length ns
few-new same old new ns =
    let made : ℕ → Bool = is_new_at same old new in
    let long = long-sorted (λ (x y : ℕ). nat_le x y) (filter made (distinct ns)) in
    omega (arith, long, length-filter made (distinct ns), count_by-le-length made (distinct ns), long-distinct ns)

-- no plan is new where all rows are the same
module _ {R : Type 0} (same : R → R → Bool) (old new : ℤ → Option R) (self : (r : R) → same r r ≡ true) (alike : (q : ℤ) → old q ≡ new q) where
  not-new : (o : Option R) → is_new same o o ≡ false
  not-new None = refl
  not-new (Some r) = ap not (self r)

  none-left : (ns : List ℕ) → filter (is_new_at same old new) ns ≡ []
  none-left [] = refl
  none-left (n ∷ ns) = rw (ap (λ o. is_new same o (new (pos n))) (alike (pos n)) ∙ not-new (new (pos n))) (none-left ns)

  pub none-among : (ns : List ℕ) → new_among same old new ns ≡ []
  unfolding sorted_by
  none-among ns = ap in_order (none-left (distinct ns))

or-true : (b : Bool) → (b || true) ≡ true
or-true true = refl
or-true false = refl

-- tests that agree on all numbers of a list choose the same of them
pub agree-distinct : (p q : ℕ → Bool) (ns : List ℕ) → ((n : ℕ) → list_any (λ m. nat_eq m n) ns ≡ true → p n ≡ q n) → filter p (distinct ns) ≡ filter q (distinct ns)
agree-distinct p q [] agree = refl
agree-distinct p q (n ∷ ns) agree =
    go (list_any (λ m. nat_eq m n) ns) (agree n (ap (λ b. b || list_any (λ m. nat_eq m n) ns) (eq-eqb n n refl)))
    (agree-distinct p q ns (λ k held. agree k (ap (λ b. nat_eq n k || b) held ∙ or-true (nat_eq n k)))) where
      go : (b : Bool) → p n ≡ q n → filter p (distinct ns) ≡ filter q (distinct ns) → filter p (cond b (distinct ns) (n ∷ distinct ns)) ≡ filter q (cond b (distinct ns) (n ∷ distinct ns))
      go true same others = others
      go false same others = λ i. cond (same i) (n ∷ others i) (others i)
