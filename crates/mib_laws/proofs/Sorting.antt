-- Rows of a structure in order of POS: what sorting keeps, and how many stand before one.
use Rattle.std.proofs.Common.{◌≡◌, ◌≢◌, ℕ, suc, ◌<◌, Bool, true, false, cond, List, [], ◌∷◌, ◌++◌, length, filter, refl, sym, ap, ◌∙◌, nat_lt, nat_le, arith}
use Rattle.std.proofs.lemmas.Bool.{leb-true, leb-false, ltb-true, ltb-false, lt-ltb, le-ltb}
use Rattle.std.specs.List.{AllByRecursion}
use Rattle.mib_model.specs.declared.rows.VpdRow.{VpdRow}
use Rattle.mib_model.specs.Orders.{insert_by, sorted_by}

-- the order of a structure
abbrev pub by_pos : VpdRow → VpdRow → Bool
by_pos x y = nat_le x.pos y.pos

-- each row stands before those with a greater POS
abbrev pub Ascending : List VpdRow → Type 0
Ascending [] = Unit {0}
Ascending (r ∷ rs) = AllByRecursion (λ o. r.pos < o.pos) rs × Ascending rs

module _ (P : VpdRow → Type 0) where
  insert-choice : (b : Bool) (x y : VpdRow) (ys inserted : List VpdRow) → P x → P y → AllByRecursion P ys → AllByRecursion P inserted → AllByRecursion P (cond b (x ∷ y ∷ ys) (y ∷ inserted))
  insert-choice true x y ys inserted px py all more = (px, (py, all))
  insert-choice false x y ys inserted px py all more = (py, more)

  all-insert : (x : VpdRow) (ys : List VpdRow) → P x → AllByRecursion P ys → AllByRecursion P (insert_by by_pos x ys)
  all-insert x [] px all = (px, tt)
  all-insert x (y ∷ ys) px all = insert-choice (by_pos x y) x y ys (insert_by by_pos x ys) px all.0 all.1 (all-insert x ys px all.1)

  -- what holds of all rows holds of them in order
  pub all-sorted : (xs : List VpdRow) → AllByRecursion P xs → AllByRecursion P (sorted_by by_pos xs)
  unfolding sorted_by
  all-sorted [] all = tt
  all-sorted (x ∷ xs) all = all-insert x (sorted_by by_pos xs) all.0 (all-sorted xs all.1)

all-weaker : (a b : ℕ) → a < b → (rows : List VpdRow) → AllByRecursion (λ o. b < o.pos) rows → AllByRecursion (λ o. a < o.pos) rows
all-weaker a b lt [] all = tt
all-weaker a b lt (r ∷ rs) all = (let h = all.0 in omega (arith, lt, h), all-weaker a b lt rs all.1)

below-other : (a b : ℕ) → nat_le a b ≡ true → b ≢ a → a < b
below-other a b le other = go (nat_lt a b) refl where
  go : (t : Bool) → nat_lt a b ≡ t → a < b
  go true h = ltb-true a b h
  go false h = absurd (other (let m = leb-true a b le in let n = ltb-false a b h in omega (arith, m, n)))

-- a row put before or behind another of an ascending list
insert-way : (b : Bool) (x y : VpdRow) (ys : List VpdRow) → nat_le x.pos y.pos ≡ b → y.pos ≢ x.pos → Ascending (y ∷ ys) → Ascending (insert_by by_pos x ys) → Ascending (cond b (x ∷ y ∷ ys) (y ∷ insert_by by_pos x ys))
insert-way true x y ys is other asc more =
    let lt : x.pos < y.pos = below-other x.pos y.pos is other in ((lt, all-weaker x.pos y.pos lt ys asc.0), asc)
insert-way false x y ys is other asc more =
    let lt = leb-false x.pos y.pos is in (all-insert (λ o. y.pos < o.pos) x ys lt asc.0, more)

insert-ascending : (x : VpdRow) (ys : List VpdRow) → AllByRecursion (λ o. o.pos ≢ x.pos) ys → Ascending ys → Ascending (insert_by by_pos x ys)
insert-ascending x [] other asc = (tt, tt)
insert-ascending x (y ∷ ys) other asc = insert-way (by_pos x y) x y ys refl other.0 asc (insert-ascending x ys other.1 asc.1)

-- rows of different POS
abbrev pub Different : List VpdRow → Type 0
Different [] = Unit {0}
Different (r ∷ rs) = AllByRecursion (λ o. o.pos ≢ r.pos) rs × Different rs

pub sorted-ascending : (xs : List VpdRow) → Different xs → Ascending (sorted_by by_pos xs)
unfolding sorted_by
sorted-ascending [] different = tt
sorted-ascending (x ∷ xs) different =
    insert-ascending x (sorted_by by_pos xs) (all-sorted (λ o. o.pos ≢ x.pos) xs different.0) (sorted-ascending xs different.1)

-- how many rows pass a test is the same in order
module _ (test : VpdRow → Bool) where
  put_in_front : (b : Bool) (y : VpdRow) (xs ys : List VpdRow) → length xs ≡ length ys → length (cond b (y ∷ xs) xs) ≡ length (cond b (y ∷ ys) ys)
  put_in_front true y xs ys same = ap suc same
  put_in_front false y xs ys same = same

  swap_two : (b c : Bool) (x y : VpdRow) (xs : List VpdRow) → length (cond b (x ∷ cond c (y ∷ xs) xs) (cond c (y ∷ xs) xs)) ≡ length (cond c (y ∷ cond b (x ∷ xs) xs) (cond b (x ∷ xs) xs))
  swap_two true true x y xs = refl
  swap_two true false x y xs = refl
  swap_two false true x y xs = refl
  swap_two false false x y xs = refl

  count-way : (b : Bool) (x y : VpdRow) (ys : List VpdRow) → length (filter test (insert_by by_pos x ys)) ≡ length (filter test (x ∷ ys)) → length (filter test (cond b (x ∷ y ∷ ys) (y ∷ insert_by by_pos x ys))) ≡ length (filter test (x ∷ y ∷ ys))
  count-way true x y ys same = refl
  count-way false x y ys same =
      put_in_front (test y) y (filter test (insert_by by_pos x ys)) (filter test (x ∷ ys)) same ∙ sym (swap_two (test x) (test y) x y (filter test ys))

  count-insert : (x : VpdRow) (ys : List VpdRow) → length (filter test (insert_by by_pos x ys)) ≡ length (filter test (x ∷ ys))
  count-insert x [] = refl
  count-insert x (y ∷ ys) = count-way (by_pos x y) x y ys (count-insert x ys)

  pub count-sorted : (xs : List VpdRow) → length (filter test (sorted_by by_pos xs)) ≡ length (filter test xs)
  unfolding sorted_by
  count-sorted [] = refl
  count-sorted (x ∷ xs) = count-insert x (sorted_by by_pos xs) ∙ put_in_front (test x) x (filter test (sorted_by by_pos xs)) (filter test xs) (count-sorted xs)

-- of ascending rows those before a row have a smaller POS, and no other has
none-below : (p : ℕ) (rows : List VpdRow) → AllByRecursion (λ o. p < o.pos) rows → filter (λ o. nat_lt o.pos p) rows ≡ []
none-below p [] all = refl
none-below p (r ∷ rs) all = rw (le-ltb r.pos p (let h = all.0 in omega (arith, h))) (none-below p rs all.1)

pub count-before : (front : List VpdRow) (r : VpdRow) (back : List VpdRow) → Ascending (front ++ r ∷ back) → length (filter (λ o. nat_lt o.pos r.pos) (front ++ r ∷ back)) ≡ length front
count-before [] r back asc = rw (le-ltb r.pos r.pos (omega arith), none-below r.pos back asc.0) refl
count-before (x ∷ xs) r back asc =
    rw (lt-ltb x.pos r.pos (member-below x.pos xs r back asc.0)) (ap suc (count-before xs r back asc.1)) where
      member-below : (p : ℕ) (xs : List VpdRow) (r : VpdRow) (back : List VpdRow) → AllByRecursion (λ o. p < o.pos) (xs ++ r ∷ back) → p < r.pos
      member-below p [] r back all = all.0
      member-below p (x ∷ xs) r back all = member-below p xs r back all.1
