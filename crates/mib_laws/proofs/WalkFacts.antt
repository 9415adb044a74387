-- Walks over nested structures end.
use Rattle.std.proofs.Common.{◌≡◌, ◌≢◌, ℕ, zero, suc, ◌+◌, ◌-◌, ◌*◌, ◌<◌, ◌≤◌, ℤ, ◌+ℤ◌, Bool, true, false, not, cond, List, [], ◌∷◌, length, Option, Some, None, option_and_then, refl, sym, ap, subst, ◌∙◌, nat_eq, nat_abs, length-append, arith}
use Rattle.std.proofs.lemmas.Bool.{eqb-false}
use Rattle.std.proofs.lemmas.Option.{none-some}
use Rattle.std.proofs.Math.Nat.{suc-mul}
use Rattle.mib_model.specs.declared.database.Database.{Database}
use Rattle.mib_model.specs.declared.packet.Ended.TheVariants as ended
use Rattle.mib_model.specs.declared.rows.VpdRow.{VpdRow}
use Rattle.mib_model.specs.Bits.{raw_number}
use Rattle.mib_model.specs.Fixed.{most_values}
use Rattle.mib_model.specs.Structures.{Typed, typed, subject, structure, group_repeated, times, is_yes}
use Rattle.mib_model.specs.Walk.{Extracted, Walking, Step, Goes, Ends, step, step_from, on_row, on_subject, try_value, after_value, with_value, chosen, lies_outside, walked, on_step}
use Rattle.mib_laws.proofs.Choices.{choice}
use Rattle.mib_laws.proofs.Nesting.{lead, Good, good-group, lead-group}

module _ (db : Database) (packet : List ℕ) (d : ℕ) where
  -- with more steps a walk that ended ends as it did
  more_on : (k m : ℕ) (r : Extracted) → ((on : Walking) → walked db packet k on ≡ Some r → walked db packet m on ≡ Some r) → (s : Step) → on_step (λ on. walked db packet k on) s ≡ Some r → on_step (λ on. walked db packet m on) s ≡ Some r
  more_on k m r more (Goes on) h = more on h
  more_on k m r more (Ends e values) h = h

  pub walked-more : (k m : ℕ) (w : Walking) (r : Extracted) → k ≤ m → walked db packet k w ≡ Some r → walked db packet m w ≡ Some r
  unfolding walked
  walked-more zero m w r le h = absurd (none-some r h)
  walked-more (suc k) zero w r le h = absurd (omega (arith, le))
  walked-more (suc k) (suc m) w r le h = more_on k m r (λ on. walked-more k m on r (omega (arith, le))) (step db packet w) h

  -- a walk ends within the rows with FIXREP in front, and d steps for each further value
  abbrev Finishes : Walking → Type 0
  Finishes w = (e : Extracted) × (length w.values ≤ length e.0) × (walked db packet (lead w.todo + 1 + (length e.0 - length w.values) * d) w ≡ Some e)

  -- what a step has to give for it: k are the rows with FIXREP in front, v the values so far
  Leads : ℕ → ℕ → Step → Type 0
  Leads k v (Goes on) = (e : Extracted) × (v ≤ length e.0) × (walked db packet (k + (length e.0 - v) * d) on ≡ Some e)
  Leads k v (Ends e values) = v ≤ length values

  one_more : (k x : ℕ) → k + 1 + x ≡ suc (k + x)
  one_more k x = omega arith

  finishes_by : (w : Walking) (s : Step) → step db packet w ≡ s → Leads (lead w.todo) (length w.values) s → Finishes w
  unfolding Leads walked
  finishes_by w (Goes on) is (e, le, walks) = (e, le, rw (one_more (lead w.todo) ((length e.0 - length w.values) * d), is) walks)
  finishes_by w (Ends ended values) is le = ((values, ended), le, rw (one_more (lead w.todo) ((length values - length w.values) * d), is) refl)

  good-lead : 1 ≤ d → (rows : List VpdRow) → Good d rows → lead rows < d
  good-lead some [] good = some
  good-lead some (r ∷ rs) good = good.short.0

  one_less : (most v l : ℕ) → l ≡ v + 1 → l ≤ most → (most - v) * d ≡ (most - l) * d + d
  one_less most v l same le = let e : most - v ≡ suc (most - l) = omega (arith, same, le) in ap (λ n. n * d) e ∙ suc-mul (most - l) d

  fewer : (k a x y : ℕ) → a < d → y ≡ x + d → a + 1 + x ≤ k + y
  fewer k a x y lt same = omega (arith, lt, same)

  -- a walk that goes on behind a value
  valued : (k v : ℕ) (on : Walking) → length on.values ≡ v + 1 → lead on.todo < d → Finishes on → Leads k v (Goes on)
  unfolding Leads
  valued k v on same short (e, le, walks) = (
    e,
    omega (arith, same, le),
    walked-more (lead on.todo + 1 + (length e.0 - length on.values) * d) (k + (length e.0 - v) * d) on e
        (fewer k (lead on.todo) ((length e.0 - length on.values) * d) ((length e.0 - v) * d) short (one_less (length e.0) v (length on.values) same le))
        walks,
  )

  -- walks with one value more finish
  Below : ℕ → Type 0
  Below v = (on : Walking) → length on.values ≡ v + 1 → Good d on.todo → Finishes on

  goes : (k v : ℕ) → 1 ≤ d → Below v → (on : Walking) → length on.values ≡ v + 1 → Good d on.todo → Leads k v (Goes on)
  unfolding Below
  goes k v some below on same good = valued k v on same (good-lead some on.todo good) (below on same good)

  chosen-leads : (k v : ℕ) → 1 ≤ d → Below v → (on : Walking) → length on.values ≡ v + 1 → (raw : ℤ) (rows : List VpdRow) → Good d rows → Leads k v (chosen on raw rows)
  unfolding Leads
  chosen-leads k v some below on same raw [] good = omega (arith, same)
  chosen-leads k v some below on same raw (r ∷ rs) good = goes k v some below (record on { todo = r ∷ rs }) same good

  -- after a value the walk goes on in the rows behind, in a group, or in another structure
  after-leads : (k v : ℕ) → 1 ≤ d → ((tpsd : ℤ) → Good d (structure db tpsd)) → Below v → (r : VpdRow) (rest : List VpdRow) → Good d (r ∷ rest) → (raw : ℤ) (on : Walking) → on.todo ≡ rest → length on.values ≡ v + 1 → Leads k v (after_value db r rest raw on)
  after-leads k v some all below r rest good raw on is same =
      let behind : Good d rest = record { nested = good.nested.1; short = good.short.1 } in
      let here : Good d on.todo = subst (λ rows. Good d rows) (sym is) behind in
      choice (Leads k v) (is_yes r.choice) (chosen on raw (structure db raw)) _ (λ h. chosen-leads k v some below on same raw (structure db raw) (all raw)) (λ h.
      choice (Leads k v) (not (nat_eq r.grpsize 0)) (Goes (record on { todo = group_repeated r.grpsize (times raw) rest })) _
      (λ i. goes k v some below (record on { todo = group_repeated r.grpsize (times raw) rest }) same (good-group d r.grpsize (times raw) rest good.nested.0.fits behind)) (λ i.
      choice (Leads k v) (is_yes r.pidref) (Goes (record on { last = raw })) (Goes on)
      (λ j. goes k v some below (record on { last = raw }) same here) (λ j. goes k v some below on same here)))

  -- a row that gives a value of a parameter
  value-leads : (k : ℕ) → 1 ≤ d → ((tpsd : ℤ) → Good d (structure db tpsd)) → (r : VpdRow) (rest : List VpdRow) → Good d (r ∷ rest) → (w : Walking) → (length w.values ≢ most_values → Below (length w.values)) → (t : Typed) → Leads k (length w.values) (try_value db packet r rest w t)
  unfolding Leads
  value-leads k some all r rest good w below t =
      choice (Leads k (length w.values)) (nat_eq (length w.values) most_values) (Ends ended.Many w.values) _ (λ h. omega arith) (λ h.
      choice (Leads k (length w.values)) (lies_outside packet w.cursor t.1.width) (Ends (ended.Short t.0.name) w.values) _ (λ i. omega arith) (λ i.
      after-leads k (length w.values) some all (below (eqb-false (length w.values) most_values h)) r rest good
      (raw_number t.1 packet (nat_abs w.cursor)) (with_value rest w (raw_number t.1 packet (nat_abs w.cursor)) (nat_abs w.cursor) t) refl
      (length-append w.values _)))

  subject-leads : (k : ℕ) → 1 ≤ d → ((tpsd : ℤ) → Good d (structure db tpsd)) → (r : VpdRow) (rest : List VpdRow) → Good d (r ∷ rest) → (w : Walking) → (length w.values ≢ most_values → Below (length w.values)) → (o : Option Typed) → Leads k (length w.values) (on_subject db packet r rest w o)
  unfolding Leads
  subject-leads k some all r rest good w below None = omega arith
  subject-leads k some all r rest good w below (Some t) = value-leads k some all r rest good w below t

  -- a row with FIXREP is one less in front
  not-false : (b : Bool) → not b ≡ true → b ≡ false
  not-false true h = absurd (subst (λ c. cond c ⊥ (Unit {0})) h tt)
  not-false false h = refl

  lead-fixed : (r : VpdRow) (rest : List VpdRow) → nat_eq r.fixrep 0 ≡ false → lead (r ∷ rest) ≡ 1 + lead rest
  lead-fixed r rest h = rw h refl

  -- walks with as many values and fewer rows with FIXREP in front finish
  Again : ℕ → ℕ → Type 0
  Again v k = (on : Walking) → length on.values ≡ v → lead on.todo < k → Good d on.todo → Finishes on

  steps_on : (a b v x : ℕ) (on : Walking) (e : Extracted) → a ≡ 1 + b → walked db packet (b + 1 + x) on ≡ Some e → walked db packet (a + x) on ≡ Some e
  steps_on a b v x on e same walks = let eq : b + 1 + x ≡ a + x = omega (arith, same) in subst (λ n. walked db packet n on ≡ Some e) eq walks

  fixed-leads : (r : VpdRow) (rest : List VpdRow) → nat_eq r.fixrep 0 ≡ false → Good d (r ∷ rest) → (w : Walking) → Again (length w.values) (lead (r ∷ rest)) → Leads (lead (r ∷ rest)) (length w.values) (Goes (record w { todo = group_repeated r.grpsize r.fixrep rest }))
  unfolding Leads Again
  fixed-leads r rest h good w again =
      let on : Walking = record w { todo = group_repeated r.grpsize r.fixrep rest } in
      let some : r.fixrep ≢ 0 = eqb-false r.fixrep 0 h in
      let behind : Good d rest = record { nested = good.nested.1; short = good.short.1 } in
      let same : lead on.todo ≡ lead rest = lead-group r.grpsize r.fixrep rest (good.nested.0.repeats some) some good.nested.0.fits good.nested.1 in
      let all : lead (r ∷ rest) ≡ 1 + lead on.todo = lead-fixed r rest h ∙ ap (λ n. 1 + n) (sym same) in
      let (e, le, walks) = again on refl (omega (arith, all)) (good-group d r.grpsize r.fixrep rest good.nested.0.fits behind) in
      (e, le, steps_on (lead (r ∷ rest)) (lead on.todo) (length w.values) ((length e.0 - length w.values) * d) on e all walks)

  row-leads : 1 ≤ d → ((tpsd : ℤ) → Good d (structure db tpsd)) → (r : VpdRow) (rest : List VpdRow) → Good d (r ∷ rest) → (w : Walking) → (length w.values ≢ most_values → Below (length w.values)) → Again (length w.values) (lead (r ∷ rest)) → Leads (lead (r ∷ rest)) (length w.values) (on_row db packet r rest w)
  row-leads some all r rest good w below again =
      choice (Leads (lead (r ∷ rest)) (length w.values)) (not (nat_eq r.fixrep 0)) (Goes (record w { todo = group_repeated r.grpsize r.fixrep rest })) _
      (λ h. fixed-leads r rest (not-false (nat_eq r.fixrep 0) h) good w again)
      (λ h. subject-leads (lead (r ∷ rest)) some all r rest good w below (option_and_then typed (subject db w.last r)))

  step-leads : 1 ≤ d → ((tpsd : ℤ) → Good d (structure db tpsd)) → (rows : List VpdRow) → Good d rows → (w : Walking) → (length w.values ≢ most_values → Below (length w.values)) → Again (length w.values) (lead rows) → Leads (lead rows) (length w.values) (step_from db packet w rows)
  unfolding Leads
  step-leads some all [] good w below again = omega arith
  step-leads some all (r ∷ rest) good w below again = row-leads some all r rest good (record w { cursor = w.cursor +ℤ r.offset }) below again

  by_lead : 1 ≤ d → ((tpsd : ℤ) → Good d (structure db tpsd)) → (v : ℕ) → (v ≢ most_values → Below v) → (k : ℕ) → Again v k
  unfolding Again step
  by_lead some all v below zero on same lt good = absurd (omega (arith, lt))
  by_lead some all v below (suc k) on same lt good =
      let under : length on.values ≢ most_values → Below (length on.values) = subst (λ n. n ≢ most_values → Below n) (sym same) below in
      let again : Again (length on.values) (lead on.todo) = λ next same' lt' good'. by_lead some all v below k next (same' ∙ same) (omega (arith, lt, lt')) good' in
      finishes_by on (step db packet on) refl (step-leads some all on.todo good on under again)

  finishes : 1 ≤ d → ((tpsd : ℤ) → Good d (structure db tpsd)) → (n v : ℕ) → v + n ≡ most_values → (k : ℕ) → Again v k
  unfolding Below Again
  finishes some all zero v is = by_lead some all v (λ other. absurd (other (omega (arith, is))))
  finishes some all (suc n) v is =
      by_lead some all v (λ other on same good. finishes some all n (v + 1) (omega (arith, is)) (lead on.todo + 1) on same (omega arith) good)

  -- each walk from the start of a structure ends within d steps for each value, and d more
  pub walks-from : 1 ≤ d → ((tpsd : ℤ) → Good d (structure db tpsd)) → (w : Walking) → w.values ≡ [] → Good d w.todo → (e : Extracted) × (walked db packet ((length e.0 + 1) * d) w ≡ Some e)
  unfolding Again
  walks-from some all w none good =
      let v : length w.values ≡ 0 = ap length none in
      let (e, le, walks) = finishes some all most_values 0 refl (lead w.todo + 1) w v (omega arith) good in
      let lt = good-lead some w.todo good in
      let whole : (length e.0 + 1) * d ≡ length e.0 * d + d = (let s : length e.0 + 1 ≡ suc (length e.0) = omega arith in ap (λ n. n * d) s ∙ suc-mul (length e.0) d) in
      let less : (length e.0 - length w.values) * d ≡ length e.0 * d = (let s : length e.0 - length w.values ≡ length e.0 = omega (arith, v) in ap (λ n. n * d) s) in
      (e, walked-more (lead w.todo + 1 + (length e.0 - length w.values) * d) ((length e.0 + 1) * d) w e (omega (arith, lt, whole, less)) walks)
