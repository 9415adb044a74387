-- Values that rows give at least, and what lies behind so many.
use Rattle.std.proofs.Common.{◌≡◌, ◌≢◌, ℕ, zero, suc, ◌+◌, ◌<◌, ◌≤◌, ℤ, ◌+ℤ◌, Bool, true, false, not, cond, nat_eq, pos, List, [], ◌∷◌, ◌++◌, length, take, drop, Option, Some, None, Result, Ok, Err, option_and_then, refl, sym, ap, subst, ◌∙◌, length-append, arith}
use Rattle.std.proofs.lemmas.Bool.{eqb-true, eqb-false}
use Rattle.std.proofs.lemmas.List.{append_assoc, take-append-drop, take-append-le, drop-append-le}
use Rattle.std.specs.List.{repeat}
use Rattle.mib_model.specs.declared.database.Database.{Database}
use Rattle.mib_model.specs.declared.packet.Ended.TheVariants as ended
use Rattle.mib_model.specs.declared.rows.VpdRow.{VpdRow}
use Rattle.mib_model.specs.declared.packet.Value.{Value}
use Rattle.mib_model.specs.Fixed.{most_values}
use Rattle.mib_model.specs.Structures.{Typed, typed, subject, structure, group_repeated, moved_by, times, is_yes}
use Rattle.mib_model.specs.Walk.{Walking, Step, Goes, Ends, after_value, chosen}
use Rattle.struct_plan.specs.declared.numbers.WalkEnd.{WalkEnd}
use Rattle.struct_plan.specs.Entries.{field_of}
use Rattle.struct_plan.specs.Sources.{Source, Walked, Move, Steps, move, on_given, on_move, on_row_by, on_step_by, on_subject_by, try_by, walked_by}
use Rattle.mib_laws.proofs.Nesting.{Fits, Nested, nested-append, nested-drop, nested-take, nested-repeat}
use Rattle.struct_plan.proofs.NestFacts.{fits-length}

-- how many values rows give at least, some left out: a group that is counted may be walked not at all
abbrev least_behind : ℕ → List VpdRow → ℕ
least_behind skip [] = 0
least_behind zero (r ∷ rs) = cond (nat_eq r.fixrep 0) (1 + least_behind r.grpsize rs) (least_behind 0 rs)
least_behind (suc k) (r ∷ rs) = least_behind k rs

abbrev pub least : List VpdRow → ℕ
least rows = least_behind 0 rows

least_dropped : (k : ℕ) (rows : List VpdRow) → least_behind k rows ≡ least (drop k rows)
least_dropped zero rows = refl
least_dropped (suc k) [] = refl
least_dropped (suc k) (r ∷ rs) = least_dropped k rs

either_sum : (b : Bool) (m n k l y : ℕ) → m ≡ n + y → k ≡ l + y → cond b (1 + m) k ≡ cond b (1 + n) l + y
either_sum true m n k l y counted fixed = omega (arith, counted)
either_sum false m n k l y counted fixed = fixed

-- behind rows whose groups end among them
least_append : (k : ℕ) (xs ys : List VpdRow) → k ≤ length xs → Nested xs → least_behind k (xs ++ ys) ≡ least_behind k xs + least ys
least_append zero [] ys le nested = omega arith
least_append (suc k) [] ys le nested = absurd (omega (arith, le))
least_append (suc k) (x ∷ xs) ys le nested = least_append k xs ys (omega (arith, le)) nested.1
least_append zero (x ∷ xs) ys le nested =
    either_sum (nat_eq x.fixrep 0) (least_behind x.grpsize (xs ++ ys)) (least_behind x.grpsize xs) (least (xs ++ ys)) (least xs) (least ys)
    (least_append x.grpsize xs ys (fits-length x.grpsize xs nested.0.fits) nested.1) (least_append 0 xs ys (omega arith) nested.1)

pub least-append : (xs ys : List VpdRow) → Nested xs → least (xs ++ ys) ≡ least xs + least ys
least-append xs ys nested = least_append 0 xs ys (omega arith) nested

some_below : (n m : ℕ) → n ≢ 0 → n ≤ m → 0 < m
some_below zero m other le = absurd (other refl)
some_below (suc n) m other le = omega (arith, le)

either_some : {B : Bool} (b : Bool) (m n : ℕ) → B ≡ b → (B ≡ false → 1 ≤ n) → 1 ≤ cond b (1 + m) n
either_some true m n is fixed = omega arith
either_some false m n is fixed = fixed is

-- a group has a value each time
pub least-some : (xs : List VpdRow) → 0 < length xs → Nested xs → 1 ≤ least xs
least-some [] some nested = absurd (omega (arith, some))
least-some (x ∷ xs) some nested =
    either_some (nat_eq x.fixrep 0) (least_behind x.grpsize xs) (least xs) refl
    (λ is. least-some xs (some_below x.grpsize (length xs) (nested.0.repeats (eqb-false x.fixrep 0 is)) (fits-length x.grpsize xs nested.0.fits)) nested.1)

pub least-repeat : (n : ℕ) (xs : List VpdRow) → Nested xs → 1 ≤ least xs → n ≤ least (repeat n xs)
least-repeat zero xs nested some = omega arith
least-repeat (suc n) xs nested some =
    let one = least-append xs (repeat n xs) nested in
    let more = least-repeat n xs nested some in
    omega (arith, one, more, some)

module _ (s : ℕ) (rest : List VpdRow) (fits : Fits s rest) (nested : Nested rest) where
  own : Nested (take s rest)
  own = nested-take s rest fits nested

  pub group-nested : (n : ℕ) → Nested (group_repeated s n rest)
  group-nested n = nested-append (repeat n (take s rest)) (drop s rest) (nested-repeat n (take s rest) own) (nested-drop s rest nested)

  -- a counted group, whatever its count
  least-counted : (n : ℕ) → least_behind s rest ≤ least (group_repeated s n rest)
  least-counted n =
      let a = least-append (repeat n (take s rest)) (drop s rest) (nested-repeat n (take s rest) own) in
      let b = least_dropped s rest in
      omega (arith, a, b)

  -- a group that is walked at least once
  least-fixed : (n : ℕ) → n ≢ 0 → least rest ≤ least (group_repeated s n rest)
  least-fixed zero other = absurd (other refl)
  least-fixed (suc n) other =
      let whole : least rest ≡ least (take s rest) + least (drop s rest) = ap least (sym (take-append-drop s rest)) ∙ least-append (take s rest) (drop s rest) own in
      let first = least-append (take s rest) (repeat n (take s rest)) own in
      let all = least-append (repeat (suc n) (take s rest)) (drop s rest) (nested-repeat (suc n) (take s rest) own) in
      omega (arith, whole, first, all)

  -- rows behind don't matter
  pub group-append : (n : ℕ) (xs : List VpdRow) → group_repeated s n (rest ++ xs) ≡ group_repeated s n rest ++ xs
  group-append n xs =
      let le = fits-length s rest fits in
      ap (λ (ys : List VpdRow). repeat n ys ++ drop s (rest ++ xs)) (take-append-le s rest xs le) ∙
      (ap (λ (ys : List VpdRow). repeat n (take s rest) ++ ys) (drop-append-le s rest xs le) ∙
      sym (append_assoc (repeat n (take s rest)) (drop s rest) xs))

module _ (db : Database) (source : Source) (xs ys : List VpdRow) where
  -- so many steps from either of two walks come to the same
  Alike : ℕ → Step → Step → Type 0
  Alike k s t = on_step_by (λ on. walked_by db source k on) s ≡ on_step_by (λ on. walked_by db source k on) t

  -- two walks that differ in the rows behind so many values
  abbrev pub AllAlike : ℕ → Type 0
  AllAlike k = (c : List VpdRow) → Nested c → (w : Walking) → length w.values ≤ most_values → most_values < length w.values + least c
      → walked_by db source k (record w { todo = c ++ xs }) ≡ walked_by db source k (record w { todo = c ++ ys })

  -- the same of rows
  AlikeMoves : ℕ → Move → Move → Type 0
  AlikeMoves k m n = on_move (λ on. walked_by db source k on) m ≡ on_move (λ on. walked_by db source k on) n

  either-move : (k : ℕ) (b : Bool) (s t s' t' : Move) → (b ≡ true → AlikeMoves k s s') → (b ≡ false → AlikeMoves k t t') → AlikeMoves k (cond b s t) (cond b s' t')
  either-move k true s t s' t' first second = first refl
  either-move k false s t s' t' first second = second refl

  either-way : (k : ℕ) (b : Bool) (s t s' t' : Step) → (b ≡ true → Alike k s s') → (b ≡ false → Alike k t t') → Alike k (cond b s t) (cond b s' t')
  either-way k true s t s' t' first second = first refl
  either-way k false s t s' t' first second = second refl

  not-true : (b : Bool) → not b ≡ false → b ≡ true
  not-true true h = refl
  not-true false h = absurd (subst (λ c. cond c (Unit {0}) ⊥) h tt)

  not-false : (b : Bool) → not b ≡ true → b ≡ false
  not-false true h = absurd (subst (λ c. cond c ⊥ (Unit {0})) h tt)
  not-false false h = refl

  goes : (k : ℕ) → AllAlike k → (c : List VpdRow) → Nested c → (on : Walking) → length on.values ≤ most_values → most_values < length on.values + least c → Alike k (Goes (record on { todo = c ++ xs })) (Goes (record on { todo = c ++ ys }))
  unfolding Alike
  goes k all c nested on few many = all c nested on few many

  goes-group : (k : ℕ) → AllAlike k → (s n : ℕ) (c : List VpdRow) → Fits s c → Nested c → (on : Walking) → length on.values ≤ most_values → most_values < length on.values + least (group_repeated s n c)
      → Alike k (Goes (record on { todo = group_repeated s n (c ++ xs) })) (Goes (record on { todo = group_repeated s n (c ++ ys) }))
  unfolding Alike
  goes-group k all s n c fits nested on few many =
      let go : List VpdRow → Option Walked = λ rows. walked_by db source k (record on { todo = rows }) in
      ap go (group-append s c fits nested n xs) ∙ (goes k all (group_repeated s n c) (group-nested s c fits nested n) on few many ∙ ap go (sym (group-append s c fits nested n ys)))

  chosen-alike : (k : ℕ) (c : List VpdRow) (raw : ℤ) (on : Walking) (rows : List VpdRow) → Alike k (chosen (record on { todo = c ++ xs }) raw rows) (chosen (record on { todo = c ++ ys }) raw rows)
  unfolding Alike
  chosen-alike k c raw on [] = refl
  chosen-alike k c raw on (row ∷ rows) = refl

  -- behind a value
  after : (k : ℕ) → AllAlike k → (r : VpdRow) (c : List VpdRow) → Nested (r ∷ c) → (raw : ℤ) (on : Walking) → length on.values ≤ most_values → most_values < length on.values + least_behind r.grpsize c
      → Alike k (after_value db r (c ++ xs) raw (record on { todo = c ++ xs })) (after_value db r (c ++ ys) raw (record on { todo = c ++ ys }))
  unfolding Alike
  after k all r c nested raw on few many =
      either-way k (is_yes r.choice) (chosen (record on { todo = c ++ xs }) raw (structure db raw)) _ (chosen (record on { todo = c ++ ys }) raw (structure db raw)) _
      (λ h. chosen-alike k c raw on (structure db raw)) (λ h.
      either-way k (not (nat_eq r.grpsize 0)) (Goes (record on { todo = group_repeated r.grpsize (times raw) (c ++ xs) })) _ (Goes (record on { todo = group_repeated r.grpsize (times raw) (c ++ ys) })) _
      (λ i. let least = least-counted r.grpsize c nested.0.fits nested.1 (times raw) in goes-group k all r.grpsize (times raw) c nested.0.fits nested.1 on few (omega (arith, many, least))) (λ i.
      let none : r.grpsize ≡ 0 = eqb-true r.grpsize 0 (not-true (nat_eq r.grpsize 0) i) in
      let enough : most_values < length on.values + least c = subst (λ n. most_values < length on.values + least_behind n c) none many in
      either-way k (is_yes r.pidref) (Goes (record on { last = raw; todo = c ++ xs })) (Goes (record on { todo = c ++ xs })) (Goes (record on { last = raw; todo = c ++ ys })) (Goes (record on { todo = c ++ ys }))
      (λ j. goes k all c nested.1 (record on { last = raw }) few enough) (λ j. goes k all c nested.1 on few enough)))

  given : (k : ℕ) → AllAlike k → (r : VpdRow) (c : List VpdRow) → Nested (r ∷ c) → (w : Walking) → length w.values < most_values → most_values < length w.values + (1 + least_behind r.grpsize c) → (t : Typed) (value : Result Value WalkEnd)
      → AlikeMoves k (on_given db r (c ++ xs) w t value) (on_given db r (c ++ ys) w t value)
  unfolding Alike AlikeMoves
  given k all r c nested w few many t (Err why) = refl
  given k all r c nested w few many t (Ok v) =
      let on : Walking = record { todo = []; cursor = pos (v.at + moved_by t); last = w.last; values = w.values ++ v ∷ [] } in
      let more : length on.values ≡ length w.values + 1 = length-append w.values _ in
      after k all r c nested v.raw on (omega (arith, few, more)) (omega (arith, many, more))

  value : (k : ℕ) → AllAlike k → (r : VpdRow) (c : List VpdRow) → Nested (r ∷ c) → (w : Walking) → length w.values ≤ most_values → most_values < length w.values + (1 + least_behind r.grpsize c) → (t : Typed)
      → AlikeMoves k (try_by db source r (c ++ xs) w t) (try_by db source r (c ++ ys) w t)
  unfolding Alike AlikeMoves
  value k all r c nested w few many t =
      either-move k (nat_eq (length w.values) most_values) (Steps (Ends ended.Many w.values)) _ (Steps (Ends ended.Many w.values)) _ (λ h. refl) (λ h.
      let other = eqb-false (length w.values) most_values h in
      given k all r c nested w (omega (arith, few, other)) many t (source w.cursor (field_of t) (length w.values)))

  on-subject : (k : ℕ) → AllAlike k → (r : VpdRow) (c : List VpdRow) → Nested (r ∷ c) → (w : Walking) → length w.values ≤ most_values → most_values < length w.values + (1 + least_behind r.grpsize c) → (o : Option Typed)
      → AlikeMoves k (on_subject_by db source r (c ++ xs) w o) (on_subject_by db source r (c ++ ys) w o)
  unfolding Alike AlikeMoves
  on-subject k all r c nested w few many None = refl
  on-subject k all r c nested w few many (Some t) = value k all r c nested w few many t

  row : (k : ℕ) → AllAlike k → (r : VpdRow) (c : List VpdRow) → Nested (r ∷ c) → (w : Walking) → length w.values ≤ most_values → most_values < length w.values + least (r ∷ c)
      → AlikeMoves k (on_row_by db source r (c ++ xs) w) (on_row_by db source r (c ++ ys) w)
  unfolding Alike AlikeMoves
  row k all r c nested w few many =
      either-move k (not (nat_eq r.fixrep 0)) (Steps (Goes (record w { todo = group_repeated r.grpsize r.fixrep (c ++ xs) }))) _ (Steps (Goes (record w { todo = group_repeated r.grpsize r.fixrep (c ++ ys) }))) _
      (λ h.
      let off : nat_eq r.fixrep 0 ≡ false = not-false (nat_eq r.fixrep 0) h in
      let fixed = least-fixed r.grpsize c nested.0.fits nested.1 r.fixrep (eqb-false r.fixrep 0 off) in
      let here : least (r ∷ c) ≡ least c = ap (λ (b : Bool). cond b (1 + least_behind r.grpsize c) (least c)) off in
      goes-group k all r.grpsize r.fixrep c nested.0.fits nested.1 w few (omega (arith, many, here, fixed)))
      (λ h.
      let on : nat_eq r.fixrep 0 ≡ true = not-true (nat_eq r.fixrep 0) h in
      let here : least (r ∷ c) ≡ 1 + least_behind r.grpsize c = ap (λ (b : Bool). cond b (1 + least_behind r.grpsize c) (least c)) on in
      on-subject k all r c nested w few (omega (arith, many, here)) (option_and_then typed (subject db w.last r)))

  -- rows behind so many values that no more have room don't matter
  pub rows-behind : (k : ℕ) → AllAlike k
  unfolding walked_by move Alike AlikeMoves
  rows-behind zero c nested w few many = refl
  rows-behind (suc k) [] nested w few many = absurd (omega (arith, few, many))
  rows-behind (suc k) (r ∷ c) nested w few many = row k (rows-behind k) r c nested (record w { cursor = w.cursor +ℤ r.offset }) few many
