-- The structures of a sound database are nested.
use Rattle.std.proofs.Common.{◌≡◌, ◌≢◌, ℕ, zero, suc, ◌+◌, ◌-◌, ◌<◌, ◌≤◌, ℤ, pos, negsuc, Bool, true, false, cond, ◌&&◌, ◌||◌, List, [], ◌∷◌, ◌++◌, length, take, drop, filter, filter_map, Option, Some, None, option_map, refl, sym, ap, subst, ◌∙◌, nat_eq, nat_lt, nat_le, nat_abs, add-zero, append_assoc, length-append, arith}
use Rattle.std.proofs.Math.Seq.{take-append_seam}
use Rattle.std.proofs.lemmas.Bool.{eqb-true, eqb-false, eq-eqb, ne_eqb, ltb-false, le-leb}
use Rattle.std.proofs.lemmas.Option.{none-some}
use Rattle.std.specs.Bool.{one_answer}
use Rattle.std.specs.Cmp.{signed_Decides}
use Rattle.std.specs.Ordering.{int_eq}
use Rattle.std.specs.List.{AllByRecursion, flat_map, cons_option, enumerate_from, list_any, position}
use Rattle.mib_model.specs.declared.database.Database.{Database}
use Rattle.mib_model.specs.declared.kind.Kind.{Kind}
use Rattle.mib_model.specs.declared.kind.Kind.TheVariants as kind
use Rattle.mib_model.specs.declared.fault.MibCode.{MibCode}
use Rattle.mib_model.specs.declared.fault.MibCode.TheVariants.{Twice, Group}
use Rattle.mib_model.specs.declared.rows.Row.TheVariants as row
use Rattle.mib_model.specs.declared.rows.VpdRow.{VpdRow}
use Rattle.mib_model.specs.Flaws.{Rule, fault_of, row_flaws, table_flaws, twice, flaw_if}
use Rattle.mib_model.specs.GroupFlaws.{vpd_rules, place_of, passes_end, passes_group, is_bad_group, does_too_much, repeats_nothing}
use Rattle.mib_model.specs.Keys.{key_in, same_key}
use Rattle.mib_model.specs.Orders.{sorted_by}
use Rattle.mib_model.specs.Kinds.{kinds}
use Rattle.mib_model.specs.Soundness.{IsSound, flaws, flaws_of}
use Rattle.mib_model.specs.Structures.{structure}
use Rattle.mib_laws.proofs.Options.{option_map-none, or-false, position-none}
use Rattle.mib_laws.proofs.Nesting.{Fits, Nested, Good, good-rows}
use Rattle.mib_laws.proofs.Sorting.{Ascending, Different, all-sorted, sorted-ascending, count-sorted, count-before, by_pos}

-- nothing among parts where nothing is in the whole
pub append-none : {X : Type 0} (xs ys : List X) → xs ++ ys ≡ [] → (xs ≡ []) × (ys ≡ [])
append-none [] ys h = (refl, h)
append-none (x ∷ xs) ys h = absurd (omega (arith, ap length h))

cons-none : {X : Type 0} (o : Option X) (xs : List X) → cons_option o xs ≡ [] → (o ≡ None) × (xs ≡ [])
cons-none None xs h = (refl, h)
cons-none (Some x) xs h = absurd (omega (arith, ap length h))

-- what holds of each row with the rows before it
unfoldable pub EachRow : {R : Type 0} → (List R → R → Type 0) → List R → List R → Type 0
EachRow P earlier [] = Unit {0}
EachRow P earlier (r ∷ rs) = P earlier r × EachRow P (earlier ++ r ∷ []) rs

-- no rule of some finds a flaw in a row
unfoldable pub NoFlaw : {R : Type 0} → List (Rule R) → List R → R → Type 0
NoFlaw [] earlier r = Unit {0}
NoFlaw (rule ∷ rules) earlier r = (rule earlier r ≡ None) × NoFlaw rules earlier r

module _ {R : Type 0} (table : Kind) where
  no-flaw : (number : ℕ) (rules : List (Rule R)) (earlier : List R) (r : R) → filter_map (λ rule. option_map (fault_of table number) (rule earlier r)) rules ≡ [] → NoFlaw rules earlier r
  unfolding NoFlaw
  no-flaw number [] earlier r h = tt
  no-flaw number (rule ∷ rules) earlier r h =
      let parts = cons-none (option_map (fault_of table number) (rule earlier r)) (filter_map (λ rule. option_map (fault_of table number) (rule earlier r)) rules) h in
      (option_map-none (fault_of table number) (rule earlier r) parts.0, no-flaw number rules earlier r parts.1)

  one_row : (rules : List (Rule R)) (earlier : List R) (r : R) (rs : List R) → row_flaws table rules (earlier ++ r ∷ rs) (length earlier + 1, r) ≡ [] → NoFlaw rules earlier r
  one_row rules earlier r rs h =
      let before : take (length earlier + 1 - 1) (earlier ++ r ∷ rs) ≡ earlier = (let n : length earlier + 1 - 1 ≡ length earlier = omega arith in ap (λ n. take n (earlier ++ r ∷ rs)) n ∙ take-append_seam earlier (r ∷ rs)) in
      no-flaw (length earlier + 1) rules earlier r (subst (λ front. filter_map (λ rule. option_map (fault_of table (length earlier + 1)) (rule front r)) rules ≡ []) before h)

  each-row : (rules : List (Rule R)) (earlier rows : List R) → flat_map (row_flaws table rules (earlier ++ rows)) (enumerate_from (length earlier + 1) rows) ≡ [] → EachRow (NoFlaw rules) earlier rows
  unfolding EachRow
  each-row rules earlier [] h = tt
  each-row rules earlier (r ∷ rs) h =
      let all = earlier ++ r ∷ rs in
      let parts = append-none (row_flaws table rules all (length earlier + 1, r)) (flat_map (row_flaws table rules all) (enumerate_from (length earlier + 1 + 1) rs)) h in
      let same : all ≡ (earlier ++ r ∷ []) ++ rs = sym (append_assoc earlier (r ∷ []) rs) in
      let count : length earlier + 1 + 1 ≡ length (earlier ++ r ∷ []) + 1 = (let l = length-append earlier (r ∷ []) in omega (arith, l)) in (
        one_row rules earlier r rs parts.0,
        each-row rules (earlier ++ r ∷ []) rs
            (subst (λ n. flat_map (row_flaws table rules ((earlier ++ r ∷ []) ++ rs)) (enumerate_from n rs) ≡ []) count
            (subst (λ (rows : List R). flat_map (row_flaws table rules rows) (enumerate_from (length earlier + 1 + 1) rs) ≡ []) same parts.1)),
      )

  pub rows-sound : (rules : List (Rule R)) (rows : List R) → table_flaws table rules rows ≡ [] → EachRow (NoFlaw rules) [] rows
  unfolding table_flaws
  rows-sound rules rows h = each-row rules [] rows h

-- rows of which none is like an earlier one
module _ (alike : VpdRow → VpdRow → Bool) where
  NoneAlike : List VpdRow → VpdRow → Type 0
  NoneAlike earlier r = list_any (alike r) earlier ≡ false

  abbrev pub Unlike : List VpdRow → Type 0
  Unlike [] = Unit {0}
  Unlike (r ∷ rs) = AllByRecursion (λ o. alike o r ≡ false) rs × Unlike rs

  any-parts : (test : VpdRow → Bool) (xs : List VpdRow) → list_any test xs ≡ false → AllByRecursion (λ x. test x ≡ false) xs
  any-parts test [] h = tt
  any-parts test (x ∷ xs) h = let parts = or-false (test x) (list_any test xs) h in (parts.0, any-parts test xs parts.1)

  -- each of the first rows with each of the others
  Across : List VpdRow → List VpdRow → Type 0
  Across earlier rows = AllByRecursion (λ x. AllByRecursion (λ y. alike y x ≡ false) rows) earlier

  across-none : (earlier : List VpdRow) → Across earlier []
  unfolding Across
  across-none [] = tt
  across-none (x ∷ xs) = (tt, across-none xs)

  across-one : (earlier : List VpdRow) (r : VpdRow) (rs : List VpdRow) → AllByRecursion (λ x. alike r x ≡ false) earlier → Across (earlier ++ r ∷ []) rs → Across earlier (r ∷ rs) × AllByRecursion (λ y. alike y r ≡ false) rs
  unfolding Across
  across-one [] r rs here all = (tt, all.0)
  across-one (x ∷ xs) r rs here all = let more = across-one xs r rs here.1 all.1 in (((here.0, all.0), more.0), more.1)

  unlike-from : (earlier rows : List VpdRow) → EachRow NoneAlike earlier rows → Across earlier rows × Unlike rows
  unfolding EachRow NoneAlike
  unlike-from earlier [] each = (across-none earlier, tt)
  unlike-from earlier (r ∷ rs) each =
      let more = unlike-from (earlier ++ r ∷ []) rs each.1 in
      let here = across-one earlier r rs (any-parts (alike r) earlier each.0) more.0 in
      (here.0, (here.1, more.1))

-- rows of which some are left out
keep : {X : Type 0} (P : X → Type 0) (b : Bool) (x : X) (xs : List X) → P x → AllByRecursion P xs → AllByRecursion P (cond b (x ∷ xs) xs)
keep P true x xs px all = (px, all)
keep P false x xs px all = all

all-filter : {X : Type 0} (P : X → Type 0) (test : X → Bool) (xs : List X) → AllByRecursion P xs → AllByRecursion P (filter test xs)
all-filter P test [] all = tt
all-filter P test (x ∷ xs) all = keep P (test x) x (filter test xs) all.0 (all-filter P test xs all.1)

-- the first place of a sum that is false
and-false : (a b : Bool) → (a && b) ≡ false → a ≡ true → b ≡ false
and-false true b h is = h
and-false false b h is = absurd (subst (λ c. cond c ⊥ (Unit {0})) is tt)

filter-none : {X : Type 0} (test : X → Bool) (xs : List X) → list_any test xs ≡ false → filter test xs ≡ []
filter-none test [] h = refl
filter-none test (x ∷ xs) h = let parts = or-false (test x) (list_any test xs) h in rw parts.0 (filter-none test xs parts.1)

filter-way : {X : Type 0} (test : X → Bool) (b : Bool) (x : X) (xs ys : List X) → filter test xs ≡ ys → filter test (cond b (x ∷ xs) xs) ≡ cond (b && test x) (x ∷ ys) ys
filter-way test true x xs ys same = ap (λ zs. cond (test x) (x ∷ zs) zs) same
filter-way test false x xs ys same = same

-- two tests at once, and one after the other
filter-both : {X : Type 0} (first second : X → Bool) (xs : List X) → filter second (filter first xs) ≡ filter (λ x. first x && second x) xs
filter-both first second [] = refl
filter-both first second (x ∷ xs) = filter-way second (first x) x (filter first xs) (filter (λ y. first y && second y) xs) (filter-both first second xs)

filter-same : {X : Type 0} (test other : X → Bool) → ((x : X) → test x ≡ other x) → (xs : List X) → filter test xs ≡ filter other xs
filter-same test other same [] = refl
filter-same test other same (x ∷ xs) = rw (same x) (ap (λ ys. cond (other x) (x ∷ ys) ys) (filter-same test other same xs))

-- rows with the same key
abbrev same_place : VpdRow → VpdRow → Bool
same_place x y = same_key (key_in (row.Vpd x)) (key_in (row.Vpd y))

-- one structure's rows
abbrev is_of : ℤ → VpdRow → Bool
is_of tpsd o = int_eq (pos o.tpsd) tpsd

-- the number of a structure as it is compared with itself and with another
same_number : (a b : ℕ) → int_eq (pos b) (pos a) ≡ true → a ≡ b
same_number a b h = sym (ap nat_abs ((signed_Decides (pos b) (pos a)).0 h))

of_same : (a b : ℕ) → nat_eq a b ≡ int_eq (pos b) (pos a)
of_same a b =
    one_answer {P = a ≡ b} (nat_eq a b) (int_eq (pos b) (pos a)) (eqb-true a b, eq-eqb a b)
    (same_number a b, λ e. (signed_Decides (pos b) (pos a)).1 (ap pos (sym e)))

-- rows of one structure that differ in their keys differ in POS
module _ (n : ℕ) where
  other_pos : (r o : VpdRow) → is_of (pos n) r ≡ true → is_of (pos n) o ≡ true → same_place o r ≡ false → o.pos ≢ r.pos
  unfolding same_key
  other_pos r o here there other =
      let same : o.tpsd ≡ r.tpsd = sym (same_number n o.tpsd there) ∙ same_number n r.tpsd here in
      eqb-false o.pos r.pos (and-false (nat_eq o.tpsd r.tpsd) (nat_eq o.pos r.pos) other (eq-eqb o.tpsd r.tpsd same))

  others-way : (b : Bool) (r o : VpdRow) (os : List VpdRow) → is_of (pos n) o ≡ b → is_of (pos n) r ≡ true → same_place o r ≡ false → AllByRecursion (λ x. x.pos ≢ r.pos) os → AllByRecursion (λ x. x.pos ≢ r.pos) (cond b (o ∷ os) os)
  others-way true r o os there here other all = (other_pos r o here there other, all)
  others-way false r o os there here other all = all

  others-differ : (r : VpdRow) → is_of (pos n) r ≡ true → (rs : List VpdRow) → AllByRecursion (λ o. same_place o r ≡ false) rs → AllByRecursion (λ o. o.pos ≢ r.pos) (filter (is_of (pos n)) rs)
  others-differ r here [] all = tt
  others-differ r here (o ∷ os) all = others-way (is_of (pos n) o) r o (filter (is_of (pos n)) os) refl here all.0 (others-differ r here os all.1)

  different-way : (b : Bool) (r : VpdRow) (rs : List VpdRow) → is_of (pos n) r ≡ b → AllByRecursion (λ o. same_place o r ≡ false) rs → Different (filter (is_of (pos n)) rs) → Different (cond b (r ∷ filter (is_of (pos n)) rs) (filter (is_of (pos n)) rs))
  different-way true r rs here all more = (others-differ r here rs all, more)
  different-way false r rs here all more = more

  different-from : (rows : List VpdRow) → Unlike same_place rows → Different (filter (is_of (pos n)) rows)
  different-from [] unlike = tt
  different-from (r ∷ rs) unlike = different-way (is_of (pos n) r) r rs refl unlike.0 (different-from rs unlike.1)

-- a row at its place by POS: repetitions have a group, and no group passes an end
abbrev Placed : Database → List VpdRow → VpdRow → Type 0
Placed db rows r =
    (r.fixrep ≢ 0 → r.grpsize ≢ 0) × (passes_end rows (length (filter (λ o. nat_lt o.pos r.pos) rows)) r.grpsize ≡ false)

-- what a row without flaws has
module _ (db : Database) where
  place-same : (earlier : List VpdRow) (r : VpdRow) → list_any (same_place r) earlier ≡ false → place_of db earlier r ≡ length (filter (λ o. nat_lt o.pos r.pos) (structure db (pos r.tpsd)))
  unfolding structure same_key
  place-same earlier r other =
      let less : VpdRow → Bool = λ o. nat_lt o.pos r.pos in
      let mine : VpdRow → Bool = is_of (pos r.tpsd) in
      let none : filter (λ o. nat_eq r.tpsd o.tpsd && nat_eq r.pos o.pos) earlier ≡ [] = filter-none (same_place r) earlier other in
      let same : filter (λ o. nat_eq r.tpsd o.tpsd && less o) db.vpd ≡ filter (λ o. mine o && less o) db.vpd = filter-same (λ o. nat_eq r.tpsd o.tpsd && less o) (λ o. mine o && less o) (λ o. ap (λ b. b && less o) (of_same r.tpsd o.tpsd)) db.vpd in
      rw (none, same, ← filter-both mine less db.vpd) (add-zero _ ∙ sym (count-sorted less (filter mine db.vpd)))

  repeats-from : (r : VpdRow) → repeats_nothing r ≡ false → r.fixrep ≢ 0 → r.grpsize ≢ 0
  repeats-from r h some none = absurd (subst (λ c. cond c (Unit {0}) ⊥) (repeats-none r none some ∙ h) tt) where
    repeats-none : (r : VpdRow) → r.grpsize ≡ 0 → r.fixrep ≢ 0 → true ≡ repeats_nothing r
    repeats-none r none some = rw (ne_eqb r.fixrep 0 some, none) refl

  if-flaw : (code : MibCode) (b : Bool) → flaw_if code b ≡ None → b ≡ false
  if-flaw code true h = absurd (none-some _ (sym h))
  if-flaw code false h = refl

  twice-none : (earlier : List VpdRow) (r : VpdRow) → twice row.Vpd earlier r ≡ None → list_any (same_place r) earlier ≡ false
  twice-none earlier r h =
      position-none (same_place r) earlier (option_map-none (λ i. record { code = Twice; column = 0; first = i + 1 }) (position (same_place r) earlier) h)

  placed-from : (earlier : List VpdRow) (r : VpdRow) → NoFlaw (vpd_rules db) earlier r → Placed db (structure db (pos r.tpsd)) r
  unfolding NoFlaw
  placed-from earlier r flawless =
      let other = twice-none earlier r flawless.0 in
      let group = if-flaw Group (is_bad_group db earlier r) flawless.1.1.1.0 in
      let end = passes_end (structure db (pos r.tpsd)) (place_of db earlier r) r.grpsize in
      let three = or-false (does_too_much r || repeats_nothing r || end) _ group in
      let two = or-false (does_too_much r || repeats_nothing r) end three.0 in
      let one = or-false (does_too_much r) (repeats_nothing r) two.0 in (
        repeats-from r one.1,
        subst (λ n. passes_end (structure db (pos r.tpsd)) n r.grpsize ≡ false) (place-same earlier r other) two.1,
      )

-- rows at their places are nested
module _ (db : Database) (all : List VpdRow) where
  any-at : (test : ℕ × VpdRow → Bool) (a : ℕ) (front : List VpdRow) (r : VpdRow) (mids : List VpdRow) → list_any test (enumerate_from a (front ++ r ∷ mids)) ≡ false → test (a + length front, r) ≡ false
  any-at test a [] r mids h = subst (λ n. test (n, r) ≡ false) (let e : a ≡ a + 0 = omega arith in e) (or-false (test (a, r)) (list_any test (enumerate_from (a + 1) mids)) h).0
  any-at test a (x ∷ xs) r mids h =
      subst (λ n. test (n, r) ≡ false) (let e : a + 1 + length xs ≡ a + suc (length xs) = omega arith in e)
      (any-at test (a + 1) xs r mids (or-false (test (a, x)) (list_any test (enumerate_from (a + 1) (xs ++ r ∷ mids))) h).1)

  -- a group ends before the rows do
  ends-before : (rows : List VpdRow) (place size : ℕ) → passes_end rows place size ≡ false → place + size + 1 ≤ length rows
  ends-before rows place size h =
      ltb-false (length rows) (place + size + 1)
      (or-false (nat_lt (length rows) (place + size + 1)) (list_any (passes_group place size) (enumerate_from 0 (take place rows))) h).0

  -- and before the end of a group around it
  ends-within : (front : List VpdRow) (r : VpdRow) (mids rs : List VpdRow) (size : ℕ) → length mids < r.grpsize → passes_end (front ++ r ∷ (mids ++ rs)) (length front + 1 + length mids) size ≡ false → size + length mids + 1 ≤ r.grpsize
  ends-within front r mids rs size inside h =
      let place = length front + 1 + length mids in
      let rows = front ++ r ∷ (mids ++ rs) in
      let within = or-false (nat_lt (length rows) (place + size + 1)) (list_any (passes_group place size) (enumerate_from 0 (take place rows))) h in
      let long : length (front ++ r ∷ mids) ≡ place = (let l = length-append front (r ∷ mids) in omega (arith, l)) in
      let first : take place rows ≡ front ++ r ∷ mids =
      ap (λ n. take n rows) (sym long) ∙ (ap (take (length (front ++ r ∷ mids))) (sym (append_assoc front (r ∷ mids) rs)) ∙ take-append_seam (front ++ r ∷ mids) rs) in
      let group = any-at (passes_group place size) 0 front r mids (subst (λ xs. list_any (passes_group place size) (enumerate_from 0 xs) ≡ false) first within.1) in
      let here : nat_le place (0 + length front + r.grpsize) ≡ true = le-leb place (0 + length front + r.grpsize) (omega (arith, inside)) in
      let not-past = ltb-false (0 + length front + r.grpsize) (place + size) (and-false (nat_le place (0 + length front + r.grpsize)) (nat_lt (0 + length front + r.grpsize) (place + size)) group here) in
      omega (arith, not-past)

  AllPlaced : List VpdRow → Type 0
  AllPlaced rows = AllByRecursion (Placed db all) rows

  at-place : (front : List VpdRow) (r : VpdRow) (back : List VpdRow) → all ≡ front ++ r ∷ back → Ascending all → Placed db all r → passes_end all (length front) r.grpsize ≡ false
  at-place front r back whole asc placed =
      let less : VpdRow → Bool = λ o. nat_lt o.pos r.pos in
      let count : length (filter less all) ≡ length front = ap (λ rows. length (filter less rows)) whole ∙ count-before front r back (subst Ascending whole asc) in
      subst (λ n. passes_end all n r.grpsize ≡ false) count placed.1

  fits-from : Ascending all → (front : List VpdRow) (r : VpdRow) → passes_end all (length front) r.grpsize ≡ false → (n : ℕ) (mids rs : List VpdRow) → all ≡ front ++ r ∷ (mids ++ rs) → length mids + n ≡ r.grpsize → AllPlaced rs → Fits n rs
  unfolding AllPlaced
  fits-from asc front r ends zero mids rs whole count placed = tt
  fits-from asc front r ends (suc n) mids [] whole count placed =
      let long : length all ≡ length front + suc (length (mids ++ [])) = ap length whole ∙ length-append front (r ∷ (mids ++ [])) in
      let mid = length-append mids [] in
      let before = ends-before all (length front) r.grpsize ends in
      absurd (omega (arith, long, mid, before, count))
  fits-from asc front r ends (suc n) mids (x ∷ xs) whole count placed =
      let earlier = front ++ r ∷ mids in
      let split : all ≡ earlier ++ x ∷ xs = whole ∙ sym (append_assoc front (r ∷ mids) (x ∷ xs)) in
      let here = at-place earlier x xs split asc placed.0 in
      let long : length earlier ≡ length front + 1 + length mids = (let l = length-append front (r ∷ mids) in omega (arith, l)) in
      let there : passes_end (front ++ r ∷ (mids ++ x ∷ xs)) (length front + 1 + length mids) x.grpsize ≡ false =
      subst (λ rows. passes_end rows (length front + 1 + length mids) x.grpsize ≡ false) whole (subst (λ k. passes_end all k x.grpsize ≡ false) long here) in
      let within = ends-within front r mids (x ∷ xs) x.grpsize (omega (arith, count)) there in
      let next : all ≡ front ++ r ∷ ((mids ++ x ∷ []) ++ xs) = whole ∙ ap (λ rows. front ++ r ∷ rows) (sym (append_assoc mids (x ∷ []) xs)) in
      let more : length (mids ++ x ∷ []) + n ≡ r.grpsize = (let l = length-append mids (x ∷ []) in omega (arith, l, count)) in
      (omega (arith, within, count), fits-from asc front r ends n (mids ++ x ∷ []) xs next more placed.1)

  nested-from : Ascending all → (front rows : List VpdRow) → all ≡ front ++ rows → AllPlaced rows → Nested rows
  unfolding AllPlaced
  nested-from asc front [] whole placed = tt
  nested-from asc front (r ∷ rs) whole placed =
      let ends = at-place front r rs whole asc placed.0 in (
        record { repeats = placed.0.0; fits = fits-from asc front r ends r.grpsize [] rs whole (omega arith) placed.1 },
        nested-from asc (front ++ r ∷ []) rs (whole ∙ sym (append_assoc front (r ∷ []) rs)) placed.1,
      )

-- the rows of structures have no flaws in a sound database
vpd-sound : (db : Database) → IsSound db → table_flaws kind.Vpd (vpd_rules db) db.vpd ≡ []
unfolding flaws
vpd-sound db sound =
    let pcf = append-none (flaws_of db kind.Pcf) (flat_map (flaws_of db) (drop 1 kinds)) sound in
    let pid = append-none (flaws_of db kind.Pid) (flat_map (flaws_of db) (drop 2 kinds)) pcf.1 in
    let pic = append-none (flaws_of db kind.Pic) (flat_map (flaws_of db) (drop 3 kinds)) pid.1 in
    let tpcf = append-none (flaws_of db kind.Tpcf) (flat_map (flaws_of db) (drop 4 kinds)) pic.1 in
    let plf = append-none (flaws_of db kind.Plf) (flat_map (flaws_of db) (drop 5 kinds)) tpcf.1 in
    (append-none (flaws_of db kind.Vpd) (flat_map (flaws_of db) (drop 6 kinds)) plf.1).0

-- what each row has, apart from the rows before it
module _ (db : Database) where
  alike-from : (earlier rows : List VpdRow) → EachRow (NoFlaw (vpd_rules db)) earlier rows → EachRow (NoneAlike same_place) earlier rows
  unfolding EachRow NoFlaw NoneAlike
  alike-from earlier [] each = tt
  alike-from earlier (r ∷ rs) each = (twice-none db earlier r each.0.0, alike-from (earlier ++ r ∷ []) rs each.1)

  all-placed : (earlier rows : List VpdRow) → EachRow (NoFlaw (vpd_rules db)) earlier rows → AllByRecursion (λ r. Placed db (structure db (pos r.tpsd)) r) rows
  unfolding EachRow
  all-placed earlier [] each = tt
  all-placed earlier (r ∷ rs) each = (placed-from db earlier r each.0, all-placed (earlier ++ r ∷ []) rs each.1)

  mine-way : (n : ℕ) (b : Bool) (r : VpdRow) (rs : List VpdRow) → is_of (pos n) r ≡ b → Placed db (structure db (pos r.tpsd)) r → AllByRecursion (Placed db (structure db (pos n))) (filter (is_of (pos n)) rs) → AllByRecursion (Placed db (structure db (pos n))) (cond b (r ∷ filter (is_of (pos n)) rs) (filter (is_of (pos n)) rs))
  mine-way n true r rs here placed all = (subst (λ k. Placed db (structure db (pos k)) r) (sym (same_number n r.tpsd here)) placed, all)
  mine-way n false r rs here placed all = all

  mine-placed : (n : ℕ) (rows : List VpdRow) → AllByRecursion (λ r. Placed db (structure db (pos r.tpsd)) r) rows → AllByRecursion (Placed db (structure db (pos n))) (filter (is_of (pos n)) rows)
  mine-placed n [] all = tt
  mine-placed n (r ∷ rs) all = mine-way n (is_of (pos n) r) r rs refl all.0 (mine-placed n rs all.1)

  structure-nested : IsSound db → (n : ℕ) → Nested (structure db (pos n))
  unfolding structure AllPlaced
  structure-nested sound n =
      let each = rows-sound kind.Vpd (vpd_rules db) db.vpd (vpd-sound db sound) in
      let unlike = unlike-from same_place [] db.vpd (alike-from [] db.vpd each) in
      let mine = filter (is_of (pos n)) db.vpd in
      let asc = sorted-ascending mine (different-from n db.vpd unlike.1) in
      let placed = all-sorted (Placed db (structure db (pos n))) mine (mine-placed n db.vpd (all-placed [] db.vpd each)) in
      nested-from db (structure db (pos n)) asc [] (structure db (pos n)) refl placed

  none-below-zero : (k : ℕ) (rows : List VpdRow) → filter (is_of (negsuc k)) rows ≡ []
  none-below-zero k [] = refl
  none-below-zero k (r ∷ rs) = none-below-zero k rs

  no-structure : (k : ℕ) → structure db (negsuc k) ≡ []
  unfolding structure sorted_by
  no-structure k = ap (sorted_by by_pos) (none-below-zero k db.vpd)

  pub structures-good : IsSound db → (d : ℕ) → ((tpsd : ℤ) → length (structure db tpsd) ≤ d) → (tpsd : ℤ) → Good d (structure db tpsd)
  structures-good sound d largest (pos n) =
      let nested = structure-nested sound n in
      record { nested = nested; short = good-rows d (structure db (pos n)) nested (largest (pos n)) }
  structures-good sound d largest (negsuc k) = subst (Good d) (sym (no-structure k)) (record { nested = tt; short = tt })
