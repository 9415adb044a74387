-- The steps of a walk, one by one.
use Rattle.std.proofs.Common.{◌≡◌, ◌∙◌, ◌≢◌, ℕ, zero, suc, ◌+◌, ◌<◌, ◌≤◌, ℤ, pos, negsuc, ◌+ℤ◌, nat_abs, Bool, true, false, cond, not, List, [], ◌∷◌, ◌++◌, ◌*◌, ◌^◌, length, length-append, nat_eq, Option, Some, None, option_and_then, unwrap_or, Result, Ok, Err, IfOk, IfSome, refl, sym, ap, subst, arith}
use Rattle.std.proofs.lemmas.Bool.{eq-eqb, le-leb, ltb-false, ne_eqb}
use Rattle.std.proofs.lemmas.Int.{ints}
use Rattle.mib_model.specs.declared.database.Database.{Database}
use Rattle.mib_model.specs.declared.packet.Ended.{Ended}
use Rattle.mib_model.specs.declared.packet.Ended.TheVariants as ended
use Rattle.mib_model.specs.declared.packet.Value.{Value}
use Rattle.mib_model.specs.declared.rows.VpdRow.{VpdRow}
use Rattle.mib_model.specs.Bits.{is_inside, raw_number}
use Rattle.mib_model.specs.Encodings.{Encoding}
use Rattle.mib_model.specs.Fixed.{most_values}
use Rattle.mib_model.specs.Structures.{Typed, group_repeated, moved_by, structure, subject, times, typed}
use Rattle.mib_model.specs.Walk.{Extracted, Walking, Step, Goes, Ends, on_step, step, structure_values, walk_limit, walk_start, walked, after_value, chosen, give_value, lies_outside, on_row, on_subject, step_from, try_value, with_value}
use Rattle.row_interpreter.specs.Readings.{IsOf}
use Rattle.row_walk.specs.Walks.{value_there}

-- ---- behind a value

pub chosen-none : (on : Walking) (raw : ℤ) (rows : List VpdRow) → length rows ≡ 0 → chosen on raw rows ≡ Ends (ended.NoStructure raw) on.values
chosen-none on raw [] none = refl
chosen-none on raw (row ∷ rows) none = absurd (omega (arith, none))

pub chosen-some : (on : Walking) (raw : ℤ) (rows : List VpdRow) → length rows ≢ 0 → chosen on raw rows ≡ Goes (record on { todo = rows })
chosen-some on raw [] some = absurd (some refl)
chosen-some on raw (row ∷ rows) some = refl

pub after-choice : (db : Database) (row : VpdRow) (rest : List VpdRow) (raw : ℤ) (on : Walking) → row.choice ≡ 89 → after_value db row rest raw on ≡ chosen on raw (structure db raw)
after-choice db row rest raw on is = rw (eq-eqb row.choice 89 is) refl

pub after-group : (db : Database) (row : VpdRow) (rest : List VpdRow) (raw : ℤ) (on : Walking) → row.choice ≢ 89 → row.grpsize ≢ 0
    → after_value db row rest raw on ≡ Goes (record on { todo = group_repeated row.grpsize (times raw) rest })
after-group db row rest raw on other group = rw (ne_eqb row.choice 89 other, ne_eqb row.grpsize 0 group) refl

pub after-reference : (db : Database) (row : VpdRow) (rest : List VpdRow) (raw : ℤ) (on : Walking) → row.choice ≢ 89 → row.grpsize ≡ 0 → row.pidref ≡ 89
    → after_value db row rest raw on ≡ Goes (record on { last = raw })
after-reference db row rest raw on other group is = rw (ne_eqb row.choice 89 other, eq-eqb row.grpsize 0 group, eq-eqb row.pidref 89 is) refl

pub after-all : (db : Database) (row : VpdRow) (rest : List VpdRow) (raw : ℤ) (on : Walking) → row.choice ≢ 89 → row.grpsize ≡ 0 → row.pidref ≢ 89
    → after_value db row rest raw on ≡ Goes on
after-all db row rest raw on other group none = rw (ne_eqb row.choice 89 other, eq-eqb row.grpsize 0 group, ne_eqb row.pidref 89 none) refl

-- ---- a value

pub try-many : (db : Database) (packet : List ℕ) (row : VpdRow) (rest : List VpdRow) (w : Walking) (t : Typed) → length w.values ≡ most_values
    → try_value db packet row rest w t ≡ Ends ended.Many w.values
try-many db packet row rest w t full = rw (eq-eqb (length w.values) most_values full) refl

outside-none : (packet name : List ℕ) (cursor : ℤ) (t : Typed) → value_there packet cursor name t.1 ≡ None → lies_outside packet cursor t.1.width ≡ true
outside-none packet name cursor t none = go (lies_outside packet cursor t.1.width) refl none where
  go : (b : Bool) → lies_outside packet cursor t.1.width ≡ b
      → cond {A = Option Value} b None (Some (record { name = name; at = nat_abs cursor; raw = raw_number t.1 packet (nat_abs cursor); shape = t.1 })) ≡ None → lies_outside packet cursor t.1.width ≡ true
  go true e is = e
  go false e is = absurd (cc is)

pub try-short : (db : Database) (packet : List ℕ) (row : VpdRow) (rest : List VpdRow) (w : Walking) (t : Typed) → length w.values ≢ most_values
    → value_there packet w.cursor t.0.name t.1 ≡ None → try_value db packet row rest w t ≡ Ends (ended.Short t.0.name) w.values
try-short db packet row rest w t room none = rw (ne_eqb (length w.values) most_values room, outside-none packet t.0.name w.cursor t none) refl

-- a value that is there
pub record IsThere (packet : List ℕ) (cursor : ℤ) (t : Typed) (v : Value) : Type 0 where
  pub inside : lies_outside packet cursor t.1.width ≡ false
  pub value : v ≡ record { name = t.0.name; at = nat_abs cursor; raw = raw_number t.1 packet (nat_abs cursor); shape = t.1 }
  pub place : cursor ≡ pos (nat_abs cursor)

pub is-there : (packet : List ℕ) (cursor : ℤ) (t : Typed) (v : Value) → Some v ≡ value_there packet cursor t.0.name t.1 → IsThere packet cursor t v
is-there packet (negsuc n) t v is = absurd (cc is)
is-there packet (pos n) t v is = go (lies_outside packet (pos n) t.1.width) refl is where
  go : (b : Bool) → lies_outside packet (pos n) t.1.width ≡ b
      → Some v ≡ cond {A = Option Value} b None (Some (record { name = t.0.name; at = n; raw = raw_number t.1 packet n; shape = t.1 })) → IsThere packet (pos n) t v
  go true e same = absurd (cc same)
  go false e same = record { inside = e; value = cc same; place = refl }

-- the step of a value, by where the walk stands behind it
pub try-value : (db : Database) (packet : List ℕ) (row : VpdRow) (rest : List VpdRow) (w : Walking) (t : Typed) (v : Value) (cursor : ℤ) (values : List Value) → length w.values ≢ most_values
    → IsThere packet w.cursor t v → cursor ≡ w.cursor +ℤ pos (moved_by t) → values ≡ w.values ++ v ∷ []
    → try_value db packet row rest w t ≡ after_value db row rest v.raw (record { todo = rest; cursor = cursor; last = w.last; values = values })
try-value db packet row rest w t v cursor values room there moved is =
    let number : v.raw ≡ raw_number t.1 packet (nat_abs w.cursor) = ap (λ (v : Value). v.raw) there.value in
    let place : cursor ≡ pos (nat_abs w.cursor + moved_by t) = moved ∙ ap (λ (z : ℤ). z +ℤ pos (moved_by t)) there.place in
    let all : values ≡ w.values ++ record { name = t.0.name; at = nat_abs w.cursor; raw = raw_number t.1 packet (nat_abs w.cursor); shape = t.1 } ∷ [] =
    is ∙ ap (λ (v : Value). w.values ++ v ∷ []) there.value in
    rw (ne_eqb (length w.values) most_values room, there.inside)
    (λ i. after_value db row rest (sym number i) (record { todo = rest; cursor = sym place i; last = w.last; values = sym all i }))

-- ---- a row

pub row-repeats : (db : Database) (packet : List ℕ) (row : VpdRow) (rest : List VpdRow) (w : Walking) → row.fixrep ≢ 0
    → on_row db packet row rest w ≡ Goes (record w { todo = group_repeated row.grpsize row.fixrep rest })
row-repeats db packet row rest w some = rw (ne_eqb row.fixrep 0 some) refl

pub row-gives : (db : Database) (packet : List ℕ) (row : VpdRow) (rest : List VpdRow) (w : Walking) (o : Option Typed) → row.fixrep ≡ 0 → o ≡ option_and_then typed (subject db w.last row)
    → on_row db packet row rest w ≡ on_subject db packet row rest w o
row-gives db packet row rest w o none is = rw (eq-eqb row.fixrep 0 none) (ap (on_subject db packet row rest w) (sym is))

same-subject : (db : Database) (packet : List ℕ) (row : VpdRow) (rest more : List VpdRow) (w : Walking) (o : Option Typed) → on_subject db packet row rest (record w { todo = more }) o ≡ on_subject db packet row rest w o
same-subject db packet row rest more w None = refl
same-subject db packet row rest more w (Some t) = refl

-- what is still to walk stands in the rows behind alone
pub same-row : (db : Database) (packet : List ℕ) (row : VpdRow) (rest more : List VpdRow) (w : Walking) → on_row db packet row rest (record w { todo = more }) ≡ on_row db packet row rest w
same-row db packet row rest more w = go (not (nat_eq row.fixrep 0)) where
  go : (b : Bool) → cond b (Goes (record w { todo = group_repeated row.grpsize row.fixrep rest })) (on_subject db packet row rest (record w { todo = more }) (option_and_then typed (subject db w.last row)))
      ≡ cond b (Goes (record w { todo = group_repeated row.grpsize row.fixrep rest })) (on_subject db packet row rest w (option_and_then typed (subject db w.last row)))
  go true = refl
  go false = same-subject db packet row rest more w (option_and_then typed (subject db w.last row))

pub step-none : (db : Database) (packet : List ℕ) (w : Walking) → w.todo ≡ [] → step_from db packet w w.todo ≡ Ends ended.Whole w.values
step-none db packet w none = ap (step_from db packet w) none

pub step-row : (db : Database) (packet : List ℕ) (w : Walking) (row : VpdRow) (rest : List VpdRow) → w.todo ≡ row ∷ rest
    → step_from db packet w w.todo ≡ on_row db packet row rest (record w { cursor = w.cursor +ℤ row.offset })
step-row db packet w row rest is = ap (step_from db packet w) is

-- one step by the row that comes next
pub step-by : (db : Database) (packet : List ℕ) (w on : Walking) (row : VpdRow) (rest more : List VpdRow) (s : Step) → w.todo ≡ row ∷ (rest ++ more)
    → on ≡ record { todo = more; cursor = w.cursor +ℤ row.offset; last = w.last; values = w.values } → on_row db packet row (rest ++ on.todo) on ≡ s → step db packet w ≡ s
unfolding step
step-by db packet w on row rest more s ahead is comes =
    step-row db packet w row (rest ++ more) ahead
    ∙ (sym (same-row db packet row (rest ++ more) more (record w { cursor = w.cursor +ℤ row.offset }))
    ∙ ((λ i. on_row db packet row (rest ++ (sym is i).todo) (sym is i)) ∙ comes))

-- ---- where a value stands

not-outside : (packet : List ℕ) (n width : ℕ) → lies_outside packet (pos n) width ≡ false → is_inside packet n width ≡ true
not-outside packet n width in' = le-leb (n + width) (8 * length packet) (ltb-false (8 * length packet) (n + width) in')

pub there-is-of : (packet name : List ℕ) (cursor : ℤ) (shape : Encoding) (v : Value) → Some v ≡ value_there packet cursor name shape → IsOf packet v
there-is-of packet name (negsuc n) shape v is = absurd (cc is)
there-is-of packet name (pos n) shape v is = go (lies_outside packet (pos n) shape.width) refl is where
  go : (b : Bool) → lies_outside packet (pos n) shape.width ≡ b
      → Some v ≡ cond {A = Option Value} b None (Some (record { name = name; at = n; raw = raw_number shape packet n; shape = shape })) → IsOf packet v
  go true e same = absurd (cc same)
  go false e same =
      let value : record { name = name; at = n; raw = raw_number shape packet n; shape = shape } ≡ v = cc (sym same) in
      subst (IsOf packet) value (record { inside = not-outside packet n shape.width e; number = refl })

pub moved-reach : (z w : ℤ) (m : ℕ) → m < 2 ^ 32 → w ≡ z +ℤ pos m → nat_abs w ≤ nat_abs z + 2 ^ 32
moved-reach z w m few is = omega (arith, ints, is)

pub one-fits : (values more : List Value) (v : Value) → length values ≢ most_values → length values ≤ most_values → more ≡ values ++ v ∷ [] → length more ≤ most_values
one-fits values more v room few is = let long = ap length is ∙ length-append values (v ∷ []) in omega (arith, room, few, long)

-- ---- answers that are no error

pub always : {A E : Type 0} (r : Result A E) (P : Type 0) → P → IfOk r (λ x. P)
always (Ok x) P p = p
always (Err e) P p = tt

pub with-ok : {A E : Type 0} (r : Result A E) (P Q : A → Type 0) → ((x : A) → P x → Q x) → IfOk r P → IfOk r Q
with-ok (Ok x) P Q does p = does x p
with-ok (Err e) P Q does p = tt

pub some-of : {A : Type 0} (o : Option A) (x : A) (P : A → Type 0) → o ≡ Some x → IfSome o P → P x
some-of o x P is some = subst (λ o. IfSome o P) is some

-- ---- all steps

pub walked-ends : (db : Database) (packet : List ℕ) (w on : Walking) (n m : ℕ) (e : Ended) → n ≡ suc m → step db packet w ≡ Ends e on.values → walked db packet n w ≡ Some (on.values, e)
unfolding walked
walked-ends db packet w on n m e is ends = ap (λ (k : ℕ). walked db packet k w) is ∙ ap (on_step (λ on. walked db packet m on)) ends

pub walked-goes : (db : Database) (packet : List ℕ) (w on : Walking) (n m : ℕ) → n ≡ suc m → step db packet w ≡ Goes on → walked db packet n w ≡ walked db packet m on
unfolding walked
walked-goes db packet w on n m is goes = ap (λ (k : ℕ). walked db packet k w) is ∙ ap (on_step (λ on. walked db packet m on)) goes

pub values-are : (db : Database) (packet : List ℕ) (tpsd : ℤ) (dfhsize : ℕ) (values : List Value) (e : Ended)
    → walked db packet (walk_limit db) (walk_start db tpsd dfhsize) ≡ Some (values, e) → (values, e) ≡ structure_values db tpsd dfhsize packet
unfolding structure_values
values-are db packet tpsd dfhsize values e walks = ap (λ (o : Option Extracted). unwrap_or o ([], ended.Whole)) (sym walks)

pub none-are : (db : Database) (packet : List ℕ) (tpsd : ℤ) (dfhsize n : ℕ) (w : Walking) → n ≡ 0 → walked db packet n w ≡ walked db packet (walk_limit db) (walk_start db tpsd dfhsize)
    → ([], ended.Whole) ≡ structure_values db tpsd dfhsize packet
unfolding structure_values walked
none-are db packet tpsd dfhsize n w none walks =
    ap (λ (o : Option Extracted). unwrap_or o ([], ended.Whole)) (sym (ap (λ (k : ℕ). walked db packet k w) none) ∙ walks)
