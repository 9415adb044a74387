-- Rows of structures by POS: what is noted of a structure, and the groups around a place.
use Rattle.std.proofs.Common.{◌≡◌, ℕ, suc, ◌+◌, pos, Bool, true, false, cond, ◌&&◌, ◌||◌, List, [], ◌∷◌, map, take, length, filter, None, is_some, refl, sym, ap, subst, ◌∙◌, nat_eq, nat_lt, nat_le, arith}
use Rattle.std.proofs.lemmas.List.{length-map, take-map}
use Rattle.std.proofs.lemmas.List.Elements.{filter_agree}
use Rattle.std.specs.Cmp.{nat_eq_equiv}
use Rattle.std.specs.List.{position, list_any, enumerate_from}
use Rattle.std.specs.Ordering.{int_eq}
use Rattle.mib_model.specs.declared.database.Database.{Database}
use Rattle.mib_model.specs.declared.rows.VpdRow.{VpdRow}
use Rattle.mib_model.specs.GroupFlaws.{place_of, passes_end, passes_group}
use Rattle.mib_model.specs.Orders.{insert_by, sorted_by}
use Rattle.mib_model.specs.Structures.{structure}
use Rattle.row_flaws.specs.declared.structures.Spot.{Spot}
use Rattle.row_flaws.specs.Indexes.{cut}
use Rattle.row_flaws.specs.Structures.{is_same_place, spot_of, by_pos, is_in, RisesByPos, passes, passes_spots}
use Rattle.row_flaws.proofs.AnyFacts.{same-number, any-agree, both-same, false-true}
use Rattle.row_flaws.proofs.LookupFacts.{found-any}
use Rattle.row_flaws.proofs.OrderFacts.{sorted-rises}
use Rattle.row_flaws.proofs.PointFacts.{position-take}

put-way : {X Y : Type 0} (b : Bool) (x : X) (y : Y) (xs : List X) (ys : List Y) → length ys ≡ length xs → length (cond b (y ∷ ys) ys) ≡ length (cond b (x ∷ xs) xs)
put-way true x y xs ys h = ap suc h
put-way false x y xs ys h = h

count-map : {X Y : Type 0} (f : X → Y) (p : Y → Bool) (xs : List X) → length (filter p (map f xs)) ≡ length (filter (λ x. p (f x)) xs)
count-map f p [] = refl
count-map f p (x ∷ xs) = put-way (p (f x)) x (f x) (filter (λ y. p (f y)) xs) (filter p (map f xs)) (count-map f p xs)

-- what is noted of a structure is the structure
module _ where
  insert-way : (b : Bool) (x y : VpdRow) (ys : List VpdRow) (put : List VpdRow) (spots : List Spot) → spots ≡ map spot_of put → cond b (spot_of x ∷ spot_of y ∷ map spot_of ys) (spot_of y ∷ spots) ≡ map spot_of (cond b (x ∷ y ∷ ys) (y ∷ put))
  insert-way true x y ys put spots h = refl
  insert-way false x y ys put spots h = ap (λ (zs : List Spot). spot_of y ∷ zs) h

  insert-spots : (x : VpdRow) (ys : List VpdRow) → insert_by by_pos (spot_of x) (map spot_of ys) ≡ map spot_of (insert_by (λ a b. nat_le a.pos b.pos) x ys)
  insert-spots x [] = refl
  insert-spots x (y ∷ ys) = insert-way (nat_le x.pos y.pos) x y ys (insert_by (λ a b. nat_le a.pos b.pos) x ys) (insert_by by_pos (spot_of x) (map spot_of ys)) (insert-spots x ys)

  sorted-spots : (rows : List VpdRow) → sorted_by by_pos (map spot_of rows) ≡ map spot_of (sorted_by (λ x y. nat_le x.pos y.pos) rows)
  unfolding sorted_by
  sorted-spots [] = refl
  sorted-spots (r ∷ rs) = ap (insert_by by_pos (spot_of r)) (sorted-spots rs) ∙ insert-spots r (sorted_by (λ x y. nat_le x.pos y.pos) rs)

  own-spots : (q : ℕ) (rows : List VpdRow) → filter (is_in q) (map spot_of rows) ≡ map spot_of (filter (λ (r : VpdRow). nat_eq r.tpsd q) rows)
  own-spots q [] = refl
  own-spots q (r ∷ rs) = go (nat_eq r.tpsd q) (filter (λ (o : VpdRow). nat_eq o.tpsd q) rs) (own-spots q rs) where
    go : (b : Bool) (mine : List VpdRow) → filter (is_in q) (map spot_of rs) ≡ map spot_of mine → cond b (spot_of r ∷ filter (is_in q) (map spot_of rs)) (filter (is_in q) (map spot_of rs)) ≡ map spot_of (cond b (r ∷ mine) mine)
    go true mine h = ap (λ (zs : List Spot). spot_of r ∷ zs) h
    go false mine h = h

pub spots-structure : (db : Database) (q : ℕ) → sorted_by by_pos (filter (is_in q) (map spot_of db.vpd)) ≡ map spot_of (structure db (pos q))
unfolding structure
spots-structure db q =
    ap (sorted_by by_pos) (own-spots q db.vpd) ∙ (sorted-spots (filter (λ (r : VpdRow). nat_eq r.tpsd q) db.vpd) ∙
    ap (λ rows. map spot_of (sorted_by (λ x y. nat_le x.pos y.pos) rows)) (filter_agree (λ (r : VpdRow). nat_eq r.tpsd q) (λ (r : VpdRow). int_eq (pos r.tpsd) (pos q)) (λ (r : VpdRow). same-number r.tpsd q) db.vpd))

pub structure-rises : (db : Database) (q : ℕ) → RisesByPos (map spot_of (structure db (pos q)))
structure-rises db q = subst RisesByPos (spots-structure db q) (sorted-rises (λ (spot : Spot). spot.pos) (filter (is_in q) (map spot_of db.vpd)))

-- how many rows pass a test is the same in order
module _ (test : VpdRow → Bool) where
  abbrev le : VpdRow → VpdRow → Bool
  le x y = nat_le x.pos y.pos

  swap_two : (b c : Bool) (x y : VpdRow) (xs : List VpdRow) → length (cond b (x ∷ cond c (y ∷ xs) xs) (cond c (y ∷ xs) xs)) ≡ length (cond c (y ∷ cond b (x ∷ xs) xs) (cond b (x ∷ xs) xs))
  swap_two true true x y xs = refl
  swap_two true false x y xs = refl
  swap_two false true x y xs = refl
  swap_two false false x y xs = refl

  front : (b : Bool) (y : VpdRow) (xs ys : List VpdRow) → length xs ≡ length ys → length (cond b (y ∷ xs) xs) ≡ length (cond b (y ∷ ys) ys)
  front true y xs ys same = ap suc same
  front false y xs ys same = same

  count-way : (b : Bool) (x y : VpdRow) (ys : List VpdRow) → length (filter test (insert_by le x ys)) ≡ length (filter test (x ∷ ys)) → length (filter test (cond b (x ∷ y ∷ ys) (y ∷ insert_by le x ys))) ≡ length (filter test (x ∷ y ∷ ys))
  count-way true x y ys same = refl
  count-way false x y ys same = front (test y) y (filter test (insert_by le x ys)) (filter test (x ∷ ys)) same ∙ sym (swap_two (test x) (test y) x y (filter test ys))

  count-insert : (x : VpdRow) (ys : List VpdRow) → length (filter test (insert_by le x ys)) ≡ length (filter test (x ∷ ys))
  count-insert x [] = refl
  count-insert x (y ∷ ys) = count-way (le x y) x y ys (count-insert x ys)

  count-sorted : (xs : List VpdRow) → length (filter test (sorted_by le xs)) ≡ length (filter test xs)
  unfolding sorted_by
  count-sorted [] = refl
  count-sorted (x ∷ xs) = count-insert x (sorted_by le xs) ∙ front (test x) x (filter test (sorted_by le xs)) (filter test xs) (count-sorted xs)

filter-two : {X : Type 0} (p q : X → Bool) (xs : List X) → filter q (filter p xs) ≡ filter (λ x. p x && q x) xs
filter-two p q [] = refl
filter-two {X} p q (x ∷ xs) = go (p x) (q x) (filter p xs) (filter (λ y. p y && q y) xs) (filter-two p q xs) where
  go : (b c : Bool) (kept : List X) (all : List X) → filter q kept ≡ all → filter q (cond b (x ∷ kept) kept) ≡ cond (b && q x) (x ∷ all) all
  go true c kept all h = ap (λ zs. cond (q x) (x ∷ zs) zs) h
  go false c kept all h = h

filter-none : {X : Type 0} (p : X → Bool) (xs : List X) → list_any p xs ≡ false → length (filter p xs) ≡ 0
filter-none p [] h = refl
filter-none p (x ∷ xs) h = go (p x) h (filter-none p xs) where
  go : (b : Bool) → (b || list_any p xs) ≡ false → (list_any p xs ≡ false → length (filter p xs) ≡ 0) → length (cond b (x ∷ filter p xs) (filter p xs)) ≡ 0
  go true h others = false-true (sym h)
  go false h others = others h

-- counts and groups of spots are those of their rows
count-spots : (p : ℕ) (rows : List VpdRow) → length (filter (λ (o : Spot). nat_lt o.pos p) (map spot_of rows)) ≡ length (filter (λ (o : VpdRow). nat_lt o.pos p) rows)
count-spots p rows = count-map spot_of (λ (o : Spot). nat_lt o.pos p) rows

group-spots : (place size start : ℕ) (rows : List VpdRow) → list_any (passes place size) (enumerate_from start (map spot_of rows)) ≡ list_any (passes_group place size) (enumerate_from start rows)
group-spots place size start [] = refl
group-spots place size start (r ∷ rs) = ap (λ b. passes_group place size (start, r) || b) (group-spots place size (start + 1) rs)

passes-spots : (rows : List VpdRow) (r : VpdRow) → passes_spots (map spot_of rows) r ≡ passes_end rows (length (filter (λ (o : VpdRow). nat_lt o.pos r.pos) rows)) r.grpsize
passes-spots rows r = rw (count-spots r.pos rows, length-map rows spot_of, take-map spot_of (length (filter (λ (o : VpdRow). nat_lt o.pos r.pos) rows)) rows, group-spots (length (filter (λ (o : VpdRow). nat_lt o.pos r.pos) rows)) r.grpsize 0 (take (length (filter (λ (o : VpdRow). nat_lt o.pos r.pos) rows)) rows)) refl

-- a row that repeats no earlier one stands behind the rows with a smaller POS
module _ (db : Database) (r : VpdRow) (n : ℕ) where
  own-place : list_any (λ (o : VpdRow). nat_eq o.tpsd r.tpsd && nat_eq o.pos r.pos) (take n db.vpd) ≡ false → place_of db (take n db.vpd) r ≡ length (filter (λ (o : VpdRow). nat_lt o.pos r.pos) (structure db (pos r.tpsd)))
  unfolding structure
  own-place fresh =
      let less : VpdRow → Bool = λ o. nat_lt o.pos r.pos in
      let mine : VpdRow → Bool = λ o. int_eq (pos o.tpsd) (pos r.tpsd) in
      let like : VpdRow → Bool = λ o. nat_eq r.tpsd o.tpsd && nat_eq r.pos o.pos in
      let none : length (filter like (take n db.vpd)) ≡ 0 =
      filter-none like (take n db.vpd) (any-agree like (λ (o : VpdRow). nat_eq o.tpsd r.tpsd && nat_eq o.pos r.pos) (λ o. both-same _ _ _ _ (nat_eq_equiv.symm r.tpsd o.tpsd) (nat_eq_equiv.symm r.pos o.pos)) (take n db.vpd) ∙ fresh) in
      let same : length (filter (λ (o : VpdRow). nat_eq r.tpsd o.tpsd && less o) db.vpd) ≡ length (filter less (sorted_by (λ x y. nat_le x.pos y.pos) (filter mine db.vpd))) =
      ap length (filter_agree (λ (o : VpdRow). nat_eq r.tpsd o.tpsd && less o) (λ o. mine o && less o) (λ (o : VpdRow). ap (λ b. b && less o) (nat_eq_equiv.symm r.tpsd o.tpsd ∙ same-number o.tpsd r.tpsd)) db.vpd) ∙
      (ap length (sym (filter-two mine less db.vpd)) ∙ sym (count-sorted less (filter mine db.vpd))) in
      omega (arith, none, same)

  pub group-ends : cut n (position (is_same_place r) db.vpd) ≡ None → passes_spots (map spot_of (structure db (pos r.tpsd))) r ≡ passes_end (structure db (pos r.tpsd)) (place_of db (take n db.vpd) r) r.grpsize
  group-ends fresh =
      let none = sym (found-any (is_same_place r) (take n db.vpd)) ∙ ap is_some (position-take (is_same_place r) n db.vpd ∙ fresh) in
      passes-spots (structure db (pos r.tpsd)) r ∙ ap (λ k. passes_end (structure db (pos r.tpsd)) k r.grpsize) (sym (own-place none))
