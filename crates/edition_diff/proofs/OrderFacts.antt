-- What is found and chosen among things that are put in order, chosen, or made of others.
use Rattle.std.proofs.Common.{◌≡◌, ℕ, ◌≤◌, nat_eq, nat_le, Bool, true, false, cond, ◌&&◌, List, [], ◌∷◌, map, filter, Option, Some, None, option_map, refl, sym, ap, ◌∙◌, arith}
use Rattle.std.proofs.lemmas.Bool.{eqb-true, leb-false, leb-true}
use Rattle.std.specs.List.{find}
use Rattle.mib_model.specs.Orders.{insert_by, sorted_by, sorted_by_number}

-- ---- what is found

-- among things that are made of others
pub find-map : {A B : Type 0} (p : B → Bool) (f : A → B) (xs : List A) → find p (map f xs) ≡ option_map f (find (λ x. p (f x)) xs)
find-map p f [] = refl
find-map {A} p f (x ∷ xs) = go (p (f x)) (find-map p f xs) where
  go : (b : Bool) → find p (map f xs) ≡ option_map f (find (λ x. p (f x)) xs) → cond b (Some (f x)) (find p (map f xs)) ≡ option_map f (cond b (Some x) (find (λ x. p (f x)) xs))
  go true others = refl
  go false others = others

-- among things of which none passes
pub find-never : {A : Type 0} (p : A → Bool) → ((x : A) → p x ≡ false) → (xs : List A) → find p xs ≡ None
find-never p never [] = refl
find-never p never (x ∷ xs) = rw (never x) (find-never p never xs)

-- among those that are chosen
pub find-filter : {A : Type 0} (p q : A → Bool) (xs : List A) → find q (filter p xs) ≡ find (λ x. p x && q x) xs
find-filter p q [] = refl
find-filter {A} p q (x ∷ xs) = go (p x) (find-filter p q xs) where
  go : (b : Bool) → find q (filter p xs) ≡ find (λ x. p x && q x) xs → find q (cond b (x ∷ filter p xs) (filter p xs)) ≡ cond (b && q x) (Some x) (find (λ x. p x && q x) xs)
  go true others = ap (cond (q x) (Some x)) others
  go false others = others

-- by a number, among those in order of it
module _ {A : Type 0} (number : A → ℕ) (n : ℕ) where
  abbrev has : A → Bool
  has x = nat_eq (number x) n

  abbrev may : A → A → Bool
  may x y = nat_le (number x) (number y)

  swap : (x y : A) (rest : Option A) (a b : Bool) → has x ≡ a → has y ≡ b → may x y ≡ false → cond b (Some y) (cond a (Some x) rest) ≡ cond a (Some x) (cond b (Some y) rest)
  swap x y rest true true is_a is_b less = absurd (let e = eqb-true (number x) n is_a in let f = eqb-true (number y) n is_b in let l = leb-false (number x) (number y) less in omega (arith, e, f, l))
  swap x y rest true false is_a is_b less = refl
  swap x y rest false true is_a is_b less = refl
  swap x y rest false false is_a is_b less = refl

  find-insert : (x : A) (ys : List A) → find has (insert_by may x ys) ≡ find has (x ∷ ys)
  find-insert x [] = refl
  find-insert x (y ∷ ys) = go (may x y) refl (find-insert x ys) where
    go : (b : Bool) → may x y ≡ b → find has (insert_by may x ys) ≡ find has (x ∷ ys) → find has (cond b (x ∷ y ∷ ys) (y ∷ insert_by may x ys)) ≡ find has (x ∷ y ∷ ys)
    go true is others = refl
    go false is others = ap (cond (has y) (Some y)) others ∙ swap x y (find has ys) (has x) (has y) refl refl is

  pub find-sorted : (xs : List A) → find has (sorted_by_number number xs) ≡ find has xs
  unfolding sorted_by
  find-sorted [] = refl
  find-sorted (x ∷ xs) = find-insert x (sorted_by_number number xs) ∙ ap (cond (has x) (Some x)) (find-sorted xs)

-- ---- which pass

-- by a number, in order of it: those that pass, put in order, are those in order that pass
module _ {A : Type 0} (number : A → ℕ) (p : A → Bool) where
  abbrev upto : A → A → Bool
  upto x y = nat_le (number x) (number y)

  -- all things of a list have a number not below another
  abbrev From : ℕ → List A → Type 0
  From n [] = Unit {0}
  From n (x ∷ xs) = (n ≤ number x) × From n xs

  -- things rise by their numbers
  abbrev Rise : List A → Type 0
  Rise [] = Unit {0}
  Rise (x ∷ xs) = From (number x) xs × Rise xs

  from-less : (m n : ℕ) → m ≤ n → (xs : List A) → From n xs → From m xs
  from-less m n less [] from = tt
  from-less m n less (x ∷ xs) from = (omega (arith, less, from.0), from-less m n less xs from.1)

  from-insert : (n : ℕ) (x : A) (xs : List A) → n ≤ number x → From n xs → From n (insert_by upto x xs)
  from-insert n x [] less from = (less, tt)
  from-insert n x (y ∷ ys) less from = go (upto x y) (from-insert n x ys less from.1) where
    go : (b : Bool) → From n (insert_by upto x ys) → From n (cond b (x ∷ y ∷ ys) (y ∷ insert_by upto x ys))
    go true others = (less, from)
    go false others = (from.0, others)

  rise-insert : (x : A) (xs : List A) → Rise xs → Rise (insert_by upto x xs)
  rise-insert x [] rise = (tt, tt)
  rise-insert x (y ∷ ys) rise = go (upto x y) refl (rise-insert x ys rise.1) where
    go : (b : Bool) → upto x y ≡ b → Rise (insert_by upto x ys) → Rise (cond b (x ∷ y ∷ ys) (y ∷ insert_by upto x ys))
    go true is others = let less = leb-true (number x) (number y) is in ((less, from-less (number x) (number y) less ys rise.0), rise)
    go false is others = let more = leb-false (number x) (number y) is in (from-insert (number y) x ys (omega (arith, more)) rise.0, others)

  rise-sorted : (xs : List A) → Rise (sorted_by_number number xs)
  unfolding sorted_by
  rise-sorted [] = tt
  rise-sorted (x ∷ xs) = rise-insert x (sorted_by_number number xs) (rise-sorted xs)

  -- before things that aren't below it a thing is first
  insert-first : (x : A) (xs : List A) → From (number x) xs → insert_by upto x (filter p xs) ≡ x ∷ filter p xs
  insert-first x [] from = refl
  insert-first x (y ∷ ys) from = go (p y) (insert-first x ys from.1) where
    may : upto x y ≡ true
    may = go2 (upto x y) refl where
      go2 : (b : Bool) → upto x y ≡ b → upto x y ≡ true
      go2 true is = is
      go2 false is = absurd (let more = leb-false (number x) (number y) is in omega (arith, more, from.0))

    go : (b : Bool) → insert_by upto x (filter p ys) ≡ x ∷ filter p ys → insert_by upto x (cond b (y ∷ filter p ys) (filter p ys)) ≡ x ∷ cond b (y ∷ filter p ys) (filter p ys)
    go true others = rw may refl
    go false others = others

  filter-insert : (x : A) (xs : List A) → Rise xs → filter p (insert_by upto x xs) ≡ cond (p x) (insert_by upto x (filter p xs)) (filter p xs)
  filter-insert x [] rise = go (p x) where
    go : (b : Bool) → cond b (x ∷ []) [] ≡ cond b (x ∷ []) []
    go b = refl
  filter-insert x (y ∷ ys) rise = go (upto x y) refl (p x) refl (p y) refl (filter-insert x ys rise.1) where
    go : (b : Bool) → upto x y ≡ b → (c : Bool) → p x ≡ c → (d : Bool) → p y ≡ d → filter p (insert_by upto x ys) ≡ cond (p x) (insert_by upto x (filter p ys)) (filter p ys)
        → filter p (cond b (x ∷ y ∷ ys) (y ∷ insert_by upto x ys)) ≡ cond c (insert_by upto x (cond d (y ∷ filter p ys) (filter p ys))) (cond d (y ∷ filter p ys) (filter p ys))
    go true is true is_c d is_d others =
        let less = leb-true (number x) (number y) is in
        rw (is_c, is_d) (sym (insert-first x (y ∷ ys) (less, from-less (number x) (number y) less ys rise.0) ∙ ap (λ b. x ∷ cond b (y ∷ filter p ys) (filter p ys)) is_d) ∙ ap (λ b. insert_by upto x (cond b (y ∷ filter p ys) (filter p ys))) is_d)
    go true is false is_c d is_d others = rw (is_c, is_d) refl
    go false is true is_c true is_d others = rw (is_d, is) (ap (λ (zs : List A). y ∷ zs) (rw is_c at others))
    go false is true is_c false is_d others = rw is_d (rw is_c at others)
    go false is false is_c true is_d others = rw is_d (ap (λ (zs : List A). y ∷ zs) (rw is_c at others))
    go false is false is_c false is_d others = rw is_d (rw is_c at others)

  pub filter-sorted : (xs : List A) → filter p (sorted_by_number number xs) ≡ sorted_by_number number (filter p xs)
  unfolding sorted_by
  filter-sorted [] = refl
  filter-sorted (x ∷ xs) = filter-insert x (sorted_by_number number xs) (rise-sorted xs) ∙ ap (λ (ys : List A). cond (p x) (insert_by upto x ys) ys) (filter-sorted xs) ∙ go (p x) where
    go : (b : Bool) → cond b (insert_by upto x (sorted_by_number number (filter p xs))) (sorted_by_number number (filter p xs)) ≡ sorted_by_number number (cond b (x ∷ filter p xs) (filter p xs))
    go true = refl
    go false = refl

-- the numbers of things in order are their numbers in order
module _ {A : Type 0} (number : A → ℕ) where
  numbers-insert : (x : A) (xs : List A) → map number (insert_by (λ x y. nat_le (number x) (number y)) x xs) ≡ insert_by (λ m n. nat_le m n) (number x) (map number xs)
  numbers-insert x [] = refl
  numbers-insert x (y ∷ ys) = go (nat_le (number x) (number y)) (numbers-insert x ys) where
    go : (b : Bool) → map number (insert_by (λ x y. nat_le (number x) (number y)) x ys) ≡ insert_by (λ m n. nat_le m n) (number x) (map number ys)
        → map number (cond b (x ∷ y ∷ ys) (y ∷ insert_by (λ x y. nat_le (number x) (number y)) x ys)) ≡ cond b (number x ∷ number y ∷ map number ys) (number y ∷ insert_by (λ m n. nat_le m n) (number x) (map number ys))
    go true others = refl
    go false others = ap (λ (ns : List ℕ). number y ∷ ns) others

  pub numbers-sorted : (xs : List A) → map number (sorted_by_number number xs) ≡ sorted_by_number (λ n. n) (map number xs)
  unfolding sorted_by
  numbers-sorted [] = refl
  numbers-sorted (x ∷ xs) = numbers-insert x (sorted_by_number number xs) ∙ ap (insert_by (λ m n. nat_le m n) (number x)) (numbers-sorted xs)

-- among things that are made of others
pub filter-map : {A B : Type 0} (p : B → Bool) (f : A → B) (xs : List A) → filter p (map f xs) ≡ map f (filter (λ x. p (f x)) xs)
filter-map p f [] = refl
filter-map {A} {B} p f (x ∷ xs) = go (p (f x)) (filter-map p f xs) where
  go : (b : Bool) → filter p (map f xs) ≡ map f (filter (λ x. p (f x)) xs) → cond b (f x ∷ filter p (map f xs)) (filter p (map f xs)) ≡ map f (cond b (x ∷ filter (λ x. p (f x)) xs) (filter (λ x. p (f x)) xs))
  go true others = ap (λ (ys : List B). f x ∷ ys) others
  go false others = others

-- what is made of what is made of others
pub map-map : {A B C : Type 0} (f : B → C) (g : A → B) (xs : List A) → map f (map g xs) ≡ map (λ x. f (g x)) xs
map-map f g [] = refl
map-map {A} {B} {C} f g (x ∷ xs) = ap (λ (ys : List C). f (g x) ∷ ys) (map-map f g xs)

-- among those that are chosen
pub filter-filter : {A : Type 0} (p q : A → Bool) (xs : List A) → filter q (filter p xs) ≡ filter (λ x. p x && q x) xs
filter-filter p q [] = refl
filter-filter {A} p q (x ∷ xs) = go (p x) (filter-filter p q xs) where
  go : (b : Bool) → filter q (filter p xs) ≡ filter (λ x. p x && q x) xs → filter q (cond b (x ∷ filter p xs) (filter p xs)) ≡ cond (b && q x) (x ∷ filter (λ x. p x && q x) xs) (filter (λ x. p x && q x) xs)
  go true others = ap (λ zs. cond (q x) (x ∷ zs) zs) others
  go false others = others

-- by tests that agree
pub filter-agree : {A : Type 0} (p q : A → Bool) → ((x : A) → p x ≡ q x) → (xs : List A) → filter p xs ≡ filter q xs
filter-agree p q agree xs = λ i. filter (λ x. agree x i) xs

-- all pass a test that all pass
pub filter-all : {A : Type 0} (p : A → Bool) → ((x : A) → p x ≡ true) → (xs : List A) → filter p xs ≡ xs
filter-all p all [] = refl
filter-all {A} p all (x ∷ xs) = rw (all x) (ap (λ (zs : List A). x ∷ zs) (filter-all p all xs))
