-- The limit of a walk's steps.
use Rattle.std.proofs.Common.{◌≡◌, ℕ, zero, suc, ◌+◌, ◌*◌, ◌≤◌, ℤ, ◌+ℤ◌, max, Bool, not, List, [], ◌∷◌, length, Option, Some, None, option_and_then, unwrap_or, refl, sym, ap, subst, ◌∙◌, nat_eq, nat_abs, int_eq, pos, length-append, arith, filter}
use Rattle.std.proofs.lemmas.Bool.{eqb-false}
use Rattle.std.proofs.lemmas.Option.{none-some}
use Rattle.std.proofs.lemmas.List.Sums.{length-filter, count_by-le-length}
use Rattle.std.proofs.Math.Nat.{le-max_left, le-max_right, mul-le-mul_right}
use Rattle.mib_model.specs.declared.database.Database.{Database}
use Rattle.mib_model.specs.declared.packet.Ended.TheVariants as ended
use Rattle.mib_model.specs.declared.rows.VpdRow.{VpdRow}
use Rattle.mib_model.specs.Bits.{raw_number}
use Rattle.mib_model.specs.Fixed.{most_values}
use Rattle.mib_model.specs.Orders.{insert_by, sorted_by}
use Rattle.mib_model.specs.Soundness.{IsSound}
use Rattle.mib_model.specs.Structures.{Typed, typed, subject, structure, group_repeated, times, is_yes}
use Rattle.mib_model.specs.Walk.{Extracted, Walking, Step, Goes, Ends, step, step_from, on_row, on_subject, try_value, after_value, with_value, chosen, lies_outside, walked, on_step, walk_start, walk_limit, structure_values}
use Rattle.mib_laws.specs.Walks.{IsLargest, WalksEnd}
use Rattle.mib_laws.proofs.Choices.{choice}
use Rattle.mib_laws.proofs.Sorting.{by_pos}
use Rattle.mib_laws.proofs.WalkFacts.{walked-more}

-- a structure has no more rows than the table
length-insert : (before : VpdRow → VpdRow → Bool) (x : VpdRow) (ys : List VpdRow) → length (insert_by before x ys) ≡ suc (length ys)
length-insert before x [] = refl
length-insert before x (y ∷ ys) =
    choice (λ rows. length rows ≡ suc (suc (length ys))) (before x y) (x ∷ y ∷ ys) (y ∷ insert_by before x ys) (λ h. refl) (λ h. ap suc (length-insert before x ys))

length-sorted : (before : VpdRow → VpdRow → Bool) (xs : List VpdRow) → length (sorted_by before xs) ≡ length xs
unfolding sorted_by
length-sorted before [] = refl
length-sorted before (x ∷ xs) = length-insert before x (sorted_by before xs) ∙ ap suc (length-sorted before xs)

pub structure-rows : (db : Database) → IsLargest db (length db.vpd)
unfolding structure
structure-rows db tpsd =
    let test : VpdRow → Bool = λ row. int_eq (pos row.tpsd) tpsd in
    let rows = filter test db.vpd in
    omega (arith, length-sorted by_pos rows, length-filter test db.vpd, count_by-le-length test db.vpd)

module _ (db : Database) (packet : List ℕ) where
  -- a step that leaves no more values than a packet may have
  Few : Step → Type 0
  Few (Goes on) = length on.values ≤ most_values
  Few (Ends e values) = length values ≤ most_values

  chosen-few : (raw : ℤ) (rows : List VpdRow) (on : Walking) → length on.values ≤ most_values → Few (chosen on raw rows)
  unfolding Few
  chosen-few raw [] on few = few
  chosen-few raw (r ∷ rs) on few = few

  after-few : (r : VpdRow) (rest : List VpdRow) (raw : ℤ) (on : Walking) → length on.values ≤ most_values → Few (after_value db r rest raw on)
  unfolding Few
  after-few r rest raw on few =
      choice Few (is_yes r.choice) (chosen on raw (structure db raw)) _ (λ h. chosen-few raw (structure db raw) on few) (λ h.
      choice Few (not (nat_eq r.grpsize 0)) (Goes (record on { todo = group_repeated r.grpsize (times raw) rest })) _ (λ i. few) (λ i.
      choice Few (is_yes r.pidref) (Goes (record on { last = raw })) (Goes on) (λ j. few) (λ j. few)))

  value-few : (r : VpdRow) (rest : List VpdRow) (w : Walking) → length w.values ≤ most_values → (t : Typed) → Few (try_value db packet r rest w t)
  unfolding Few
  value-few r rest w few t =
      choice Few (nat_eq (length w.values) most_values) (Ends ended.Many w.values) _ (λ h. few) (λ h.
      choice Few (lies_outside packet w.cursor t.1.width) (Ends (ended.Short t.0.name) w.values) _ (λ i. few) (λ i.
      let other = eqb-false (length w.values) most_values h in
      let raw = raw_number t.1 packet (nat_abs w.cursor) in
      let on = with_value rest w raw (nat_abs w.cursor) t in
      let more : length on.values ≡ length w.values + 1 = length-append w.values _ in
      after-few r rest raw on (omega (arith, few, other, more))))

  subject-few : (r : VpdRow) (rest : List VpdRow) (w : Walking) → length w.values ≤ most_values → (o : Option Typed) → Few (on_subject db packet r rest w o)
  unfolding Few
  subject-few r rest w few None = few
  subject-few r rest w few (Some t) = value-few r rest w few t

  row-few : (r : VpdRow) (rest : List VpdRow) (w : Walking) → length w.values ≤ most_values → Few (on_row db packet r rest w)
  unfolding Few
  row-few r rest w few =
      choice Few (not (nat_eq r.fixrep 0)) (Goes (record w { todo = group_repeated r.grpsize r.fixrep rest })) _ (λ h. few)
      (λ h. subject-few r rest w few (option_and_then typed (subject db w.last r)))

  step-few : (w : Walking) (rows : List VpdRow) → length w.values ≤ most_values → Few (step_from db packet w rows)
  unfolding Few
  step-few w [] few = few
  step-few w (r ∷ rest) few = row-few r rest (record w { cursor = w.cursor +ℤ r.offset }) few

  on_few : (k : ℕ) (e : Extracted) → ((on : Walking) → length on.values ≤ most_values → walked db packet k on ≡ Some e → length e.0 ≤ most_values)
      → (s : Step) → Few s → on_step (λ on. walked db packet k on) s ≡ Some e → length e.0 ≤ most_values
  unfolding Few
  on_few k e more (Goes on) few h = more on few h
  on_few k e more (Ends ended values) few h = subst (λ (p : Extracted). length p.0 ≤ most_values) (ap (λ (o : Option Extracted). unwrap_or o (values, ended)) h) few

  -- a walk that ends has no more values than a packet may have
  walked-few : (k : ℕ) (e : Extracted) (w : Walking) → length w.values ≤ most_values → walked db packet k w ≡ Some e → length e.0 ≤ most_values
  unfolding walked step
  walked-few zero e w few h = absurd (none-some e h)
  walked-few (suc k) e w few h = on_few k e (λ on. walked-few k e on) (step db packet w) (step-few w w.todo few) h

  limit-ends : WalksEnd → IsSound db → (tpsd : ℤ) (dfhsize : ℕ) → (e : Extracted) × (walked db packet (walk_limit db) (walk_start db tpsd dfhsize) ≡ Some e)
  limit-ends ends sound tpsd dfhsize =
      let d = max 1 (length db.vpd) in
      let start = walk_start db tpsd dfhsize in
      let largest : IsLargest db d = λ t. (let few = structure-rows db t in let le = le-max_right 1 (length db.vpd) in omega (arith, few, le)) in
      let (e, walks) = ends db sound d (le-max_left 1 (length db.vpd)) largest packet tpsd dfhsize in
      let few = walked-few ((length e.0 + 1) * d) e start (omega arith) walks in
      (e, walked-more db packet d ((length e.0 + 1) * d) (walk_limit db) start e (mul-le-mul_right d (omega (arith, few))) walks)

  ends-in-it : (tpsd : ℤ) (dfhsize : ℕ) (e : Extracted) → walked db packet (walk_limit db) (walk_start db tpsd dfhsize) ≡ Some e
      → walked db packet (walk_limit db) (walk_start db tpsd dfhsize) ≡ Some (structure_values db tpsd dfhsize packet)
  unfolding structure_values
  ends-in-it tpsd dfhsize e walks = walks ∙ ap (λ (o : Option Extracted). Some (unwrap_or o ([], ended.Whole))) (sym walks)

  pub limit-serves : WalksEnd → IsSound db → (tpsd : ℤ) (dfhsize : ℕ)
      → walked db packet (walk_limit db) (walk_start db tpsd dfhsize) ≡ Some (structure_values db tpsd dfhsize packet)
  limit-serves ends sound tpsd dfhsize = let (e, walks) = limit-ends ends sound tpsd dfhsize in ends-in-it tpsd dfhsize e walks
