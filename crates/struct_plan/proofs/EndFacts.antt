-- Walks over sound structures end, whatever their values come from, as mib_laws has it of packets.
use Rattle.std.proofs.Common.{◌≡◌, ◌≢◌, ℕ, zero, suc, ◌+◌, ◌-◌, ◌*◌, ◌<◌, ◌≤◌, ℤ, ◌+ℤ◌, Bool, true, false, not, cond, List, [], ◌∷◌, length, Option, Some, None, Result, Ok, Err, ◌++◌, pos, max, option_and_then, unwrap_or, refl, sym, ap, subst, ◌∙◌, nat_eq, length-append, arith}
use Rattle.std.proofs.lemmas.Bool.{eqb-false}
use Rattle.std.proofs.lemmas.Option.{none-some}
use Rattle.std.proofs.Math.Nat.{suc-mul, le-max_left, le-max_right, mul-le-mul_right}
use Rattle.mib_model.specs.declared.database.Database.{Database}
use Rattle.mib_model.specs.declared.packet.Ended.TheVariants as ended
use Rattle.mib_model.specs.declared.rows.VpdRow.{VpdRow}
use Rattle.mib_model.specs.declared.packet.Value.{Value}
use Rattle.mib_model.specs.Soundness.{IsSound}
use Rattle.mib_model.specs.Fixed.{most_values}
use Rattle.mib_model.specs.Structures.{Typed, typed, subject, structure, group_repeated, moved_by, times, is_yes}
use Rattle.mib_model.specs.Walk.{Walking, Step, Goes, Ends, after_value, chosen, walk_start, walk_limit}
use Rattle.struct_plan.specs.declared.numbers.WalkEnd.{WalkEnd}
use Rattle.struct_plan.specs.declared.numbers.WalkEnd.TheVariants.{Ended}
use Rattle.struct_plan.specs.Entries.{field_of}
use Rattle.struct_plan.specs.Sources.{Source, Walked, WalksEnd, Move, Steps, Halts, move, move_from, on_given, on_move, on_row_by, on_subject_by, try_by, walked_by}
use Rattle.mib_laws.specs.Walks.{IsLargest}
use Rattle.mib_laws.proofs.Choices.{choice}
use Rattle.mib_laws.proofs.LimitFacts.{structure-rows}
use Rattle.mib_laws.proofs.SoundStructures.{structures-good}
use Rattle.mib_laws.proofs.Nesting.{lead, Good, good-group, lead-group}

module _ (db : Database) (source : Source) (d : ℕ) where
  -- with more steps a walk that ended ends as it did
  more_on : (k m : ℕ) (r : Walked) → ((on : Walking) → walked_by db source k on ≡ Some r → walked_by db source m on ≡ Some r) → (s : Move) → on_move (λ on. walked_by db source k on) s ≡ Some r → on_move (λ on. walked_by db source m on) s ≡ Some r
  more_on k m r more (Steps (Goes on)) h = more on h
  more_on k m r more (Steps (Ends e values)) h = h
  more_on k m r more (Halts why values) h = h

  pub walked-more : (k m : ℕ) (w : Walking) (r : Walked) → k ≤ m → walked_by db source k w ≡ Some r → walked_by db source m w ≡ Some r
  unfolding walked_by
  walked-more zero m w r le h = absurd (none-some r h)
  walked-more (suc k) zero w r le h = absurd (omega (arith, le))
  walked-more (suc k) (suc m) w r le h = more_on k m r (λ on. walked-more k m on r (omega (arith, le))) (move db source w) h

  -- a walk ends within the rows with FIXREP in front, and d steps for each further value
  abbrev Finishes : Walking → Type 0
  Finishes w = (e : Walked) × (length w.values ≤ length e.0) × (walked_by db source (lead w.todo + 1 + (length e.0 - length w.values) * d) w ≡ Some e)

  -- what a step has to give for it: k are the rows with FIXREP in front, v the values so far
  Leads : ℕ → ℕ → Step → Type 0
  Leads k v (Goes on) = (e : Walked) × (v ≤ length e.0) × (walked_by db source (k + (length e.0 - v) * d) on ≡ Some e)
  Leads k v (Ends e values) = v ≤ length values

  -- the same of a row
  Moves : ℕ → ℕ → Move → Type 0
  Moves k v (Steps s) = Leads k v s
  Moves k v (Halts why values) = v ≤ length values

  one_more : (k x : ℕ) → k + 1 + x ≡ suc (k + x)
  one_more k x = omega arith

  finishes_by : (w : Walking) (s : Move) → move db source w ≡ s → Moves (lead w.todo) (length w.values) s → Finishes w
  unfolding Leads Moves walked_by
  finishes_by w (Steps (Goes on)) is (e, le, walks) = (e, le, rw (one_more (lead w.todo) ((length e.0 - length w.values) * d), is) walks)
  finishes_by w (Steps (Ends ended values)) is le = ((values, Ended ended), le, rw (one_more (lead w.todo) ((length values - length w.values) * d), is) refl)
  finishes_by w (Halts why values) is le = ((values, why), le, rw (one_more (lead w.todo) ((length values - length w.values) * d), is) refl)

  good-lead : 1 ≤ d → (rows : List VpdRow) → Good d rows → lead rows < d
  good-lead some [] good = some
  good-lead some (r ∷ rs) good = good.short.0

  one_less : (most v l : ℕ) → l ≡ v + 1 → l ≤ most → (most - v) * d ≡ (most - l) * d + d
  one_less most v l same le = let e : most - v ≡ suc (most - l) = omega (arith, same, le) in ap (λ n. n * d) e ∙ suc-mul (most - l) d

  fewer : (k a x y : ℕ) → a < d → y ≡ x + d → a + 1 + x ≤ k + y
  fewer k a x y lt same = omega (arith, lt, same)

  -- a walk that goes on behind a value
  valued : (k v : ℕ) (on : Walking) → length on.values ≡ v + 1 → lead on.todo < d → Finishes on → Leads k v (Goes on)
  unfolding Leads
  valued k v on same short (e, le, walks) = (
    e,
    omega (arith, same, le),
    walked-more (lead on.todo + 1 + (length e.0 - length on.values) * d) (k + (length e.0 - v) * d) on e
        (fewer k (lead on.todo) ((length e.0 - length on.values) * d) ((length e.0 - v) * d) short (one_less (length e.0) v (length on.values) same le))
        walks,
  )

  -- walks with one value more finish
  Below : ℕ → Type 0
  Below v = (on : Walking) → length on.values ≡ v + 1 → Good d on.todo → Finishes on

  goes : (k v : ℕ) → 1 ≤ d → Below v → (on : Walking) → length on.values ≡ v + 1 → Good d on.todo → Leads k v (Goes on)
  unfolding Below
  goes k v some below on same good = valued k v on same (good-lead some on.todo good) (below on same good)

  chosen-leads : (k v : ℕ) → 1 ≤ d → Below v → (on : Walking) → length on.values ≡ v + 1 → (raw : ℤ) (rows : List VpdRow) → Good d rows → Leads k v (chosen on raw rows)
  unfolding Leads
  chosen-leads k v some below on same raw [] good = omega (arith, same)
  chosen-leads k v some below on same raw (r ∷ rs) good = goes k v some below (record on { todo = r ∷ rs }) same good

  -- after a value the walk goes on in the rows behind, in a group, or in another structure
  after-leads : (k v : ℕ) → 1 ≤ d → ((tpsd : ℤ) → Good d (structure db tpsd)) → Below v → (r : VpdRow) (rest : List VpdRow) → Good d (r ∷ rest) → (raw : ℤ) (on : Walking) → on.todo ≡ rest → length on.values ≡ v + 1 → Leads k v (after_value db r rest raw on)
  after-leads k v some all below r rest good raw on is same =
      let behind : Good d rest = record { nested = good.nested.1; short = good.short.1 } in
      let here : Good d on.todo = subst (λ rows. Good d rows) (sym is) behind in
      choice (Leads k v) (is_yes r.choice) (chosen on raw (structure db raw)) _ (λ h. chosen-leads k v some below on same raw (structure db raw) (all raw)) (λ h.
      choice (Leads k v) (not (nat_eq r.grpsize 0)) (Goes (record on { todo = group_repeated r.grpsize (times raw) rest })) _
      (λ i. goes k v some below (record on { todo = group_repeated r.grpsize (times raw) rest }) same (good-group d r.grpsize (times raw) rest good.nested.0.fits behind)) (λ i.
      choice (Leads k v) (is_yes r.pidref) (Goes (record on { last = raw })) (Goes on)
      (λ j. goes k v some below (record on { last = raw }) same here) (λ j. goes k v some below on same here)))

  -- a row whose value the source gives, or not
  given-leads : (k : ℕ) → 1 ≤ d → ((tpsd : ℤ) → Good d (structure db tpsd)) → (r : VpdRow) (rest : List VpdRow) → Good d (r ∷ rest) → (w : Walking) → Below (length w.values) → (t : Typed) (given : Result Value WalkEnd)
      → Moves k (length w.values) (on_given db r rest w t given)
  unfolding Moves
  given-leads k some all r rest good w below t (Err why) = omega arith
  given-leads k some all r rest good w below t (Ok v) =
      after-leads k (length w.values) some all below r rest good v.raw (record { todo = rest; cursor = pos (v.at + moved_by t); last = w.last; values = w.values ++ v ∷ [] }) refl (length-append w.values _)

  -- a row that gives a value of a parameter
  value-leads : (k : ℕ) → 1 ≤ d → ((tpsd : ℤ) → Good d (structure db tpsd)) → (r : VpdRow) (rest : List VpdRow) → Good d (r ∷ rest) → (w : Walking) → (length w.values ≢ most_values → Below (length w.values)) → (t : Typed) → Moves k (length w.values) (try_by db source r rest w t)
  unfolding Leads Moves
  value-leads k some all r rest good w below t =
      choice (Moves k (length w.values)) (nat_eq (length w.values) most_values) (Steps (Ends ended.Many w.values)) _ (λ h. omega arith)
      (λ h. given-leads k some all r rest good w (below (eqb-false (length w.values) most_values h)) t (source w.cursor (field_of t) (length w.values)))

  subject-leads : (k : ℕ) → 1 ≤ d → ((tpsd : ℤ) → Good d (structure db tpsd)) → (r : VpdRow) (rest : List VpdRow) → Good d (r ∷ rest) → (w : Walking) → (length w.values ≢ most_values → Below (length w.values)) → (o : Option Typed) → Moves k (length w.values) (on_subject_by db source r rest w o)
  unfolding Leads Moves
  subject-leads k some all r rest good w below None = omega arith
  subject-leads k some all r rest good w below (Some t) = value-leads k some all r rest good w below t

  -- a row with FIXREP is one less in front
  not-false : (b : Bool) → not b ≡ true → b ≡ false
  not-false true h = absurd (subst (λ c. cond c ⊥ (Unit {0})) h tt)
  not-false false h = refl

  lead-fixed : (r : VpdRow) (rest : List VpdRow) → nat_eq r.fixrep 0 ≡ false → lead (r ∷ rest) ≡ 1 + lead rest
  lead-fixed r rest h = rw h refl

  -- walks with as many values and fewer rows with FIXREP in front finish
  Again : ℕ → ℕ → Type 0
  Again v k = (on : Walking) → length on.values ≡ v → lead on.todo < k → Good d on.todo → Finishes on

  steps_on : (a b v x : ℕ) (on : Walking) (e : Walked) → a ≡ 1 + b → walked_by db source (b + 1 + x) on ≡ Some e → walked_by db source (a + x) on ≡ Some e
  steps_on a b v x on e same walks = let eq : b + 1 + x ≡ a + x = omega (arith, same) in subst (λ n. walked_by db source n on ≡ Some e) eq walks

  fixed-leads : (r : VpdRow) (rest : List VpdRow) → nat_eq r.fixrep 0 ≡ false → Good d (r ∷ rest) → (w : Walking) → Again (length w.values) (lead (r ∷ rest)) → Leads (lead (r ∷ rest)) (length w.values) (Goes (record w { todo = group_repeated r.grpsize r.fixrep rest }))
  unfolding Leads Again
  fixed-leads r rest h good w again =
      let on : Walking = record w { todo = group_repeated r.grpsize r.fixrep rest } in
      let some : r.fixrep ≢ 0 = eqb-false r.fixrep 0 h in
      let behind : Good d rest = record { nested = good.nested.1; short = good.short.1 } in
      let same : lead on.todo ≡ lead rest = lead-group r.grpsize r.fixrep rest (good.nested.0.repeats some) some good.nested.0.fits good.nested.1 in
      let all : lead (r ∷ rest) ≡ 1 + lead on.todo = lead-fixed r rest h ∙ ap (λ n. 1 + n) (sym same) in
      let (e, le, walks) = again on refl (omega (arith, all)) (good-group d r.grpsize r.fixrep rest good.nested.0.fits behind) in
      (e, le, steps_on (lead (r ∷ rest)) (lead on.todo) (length w.values) ((length e.0 - length w.values) * d) on e all walks)

  row-leads : 1 ≤ d → ((tpsd : ℤ) → Good d (structure db tpsd)) → (r : VpdRow) (rest : List VpdRow) → Good d (r ∷ rest) → (w : Walking) → (length w.values ≢ most_values → Below (length w.values)) → Again (length w.values) (lead (r ∷ rest)) → Moves (lead (r ∷ rest)) (length w.values) (on_row_by db source r rest w)
  unfolding Moves
  row-leads some all r rest good w below again =
      choice (Moves (lead (r ∷ rest)) (length w.values)) (not (nat_eq r.fixrep 0)) (Steps (Goes (record w { todo = group_repeated r.grpsize r.fixrep rest }))) _
      (λ h. fixed-leads r rest (not-false (nat_eq r.fixrep 0) h) good w again)
      (λ h. subject-leads (lead (r ∷ rest)) some all r rest good w below (option_and_then typed (subject db w.last r)))

  step-leads : 1 ≤ d → ((tpsd : ℤ) → Good d (structure db tpsd)) → (rows : List VpdRow) → Good d rows → (w : Walking) → (length w.values ≢ most_values → Below (length w.values)) → Again (length w.values) (lead rows) → Moves (lead rows) (length w.values) (move_from db source w rows)
  unfolding Leads Moves
  step-leads some all [] good w below again = omega arith
  step-leads some all (r ∷ rest) good w below again = row-leads some all r rest good (record w { cursor = w.cursor +ℤ r.offset }) below again

  by_lead : 1 ≤ d → ((tpsd : ℤ) → Good d (structure db tpsd)) → (v : ℕ) → (v ≢ most_values → Below v) → (k : ℕ) → Again v k
  unfolding Again move
  by_lead some all v below zero on same lt good = absurd (omega (arith, lt))
  by_lead some all v below (suc k) on same lt good =
      let under : length on.values ≢ most_values → Below (length on.values) = subst (λ n. n ≢ most_values → Below n) (sym same) below in
      let again : Again (length on.values) (lead on.todo) = λ next same' lt' good'. by_lead some all v below k next (same' ∙ same) (omega (arith, lt, lt')) good' in
      finishes_by on (move db source on) refl (step-leads some all on.todo good on under again)

  finishes : 1 ≤ d → ((tpsd : ℤ) → Good d (structure db tpsd)) → (n v : ℕ) → v + n ≡ most_values → (k : ℕ) → Again v k
  unfolding Below Again
  finishes some all zero v is = by_lead some all v (λ other. absurd (other (omega (arith, is))))
  finishes some all (suc n) v is =
      by_lead some all v (λ other on same good. finishes some all n (v + 1) (omega (arith, is)) (lead on.todo + 1) on same (omega arith) good)

  -- each walk from the start of a structure ends within d steps for each value, and d more
  pub walks-from : 1 ≤ d → ((tpsd : ℤ) → Good d (structure db tpsd)) → (w : Walking) → w.values ≡ [] → Good d w.todo → (e : Walked) × (walked_by db source ((length e.0 + 1) * d) w ≡ Some e)
  unfolding Again
  walks-from some all w none good =
      let v : length w.values ≡ 0 = ap length none in
      let (e, le, walks) = finishes some all most_values 0 refl (lead w.todo + 1) w v (omega arith) good in
      let lt = good-lead some w.todo good in
      let whole : (length e.0 + 1) * d ≡ length e.0 * d + d = (let s : length e.0 + 1 ≡ suc (length e.0) = omega arith in ap (λ n. n * d) s ∙ suc-mul (length e.0) d) in
      let less : (length e.0 - length w.values) * d ≡ length e.0 * d = (let s : length e.0 - length w.values ≡ length e.0 = omega (arith, v) in ap (λ n. n * d) s) in
      (e, walked-more (lead w.todo + 1 + (length e.0 - length w.values) * d) ((length e.0 + 1) * d) w e (omega (arith, lt, whole, less)) walks)

module _ (db : Database) (source : Source) where
  -- a step that leaves no more values than a packet may have
  Few : Step → Type 0
  Few (Goes on) = length on.values ≤ most_values
  Few (Ends e values) = length values ≤ most_values

  -- the same of a row
  FewMove : Move → Type 0
  FewMove (Steps s) = Few s
  FewMove (Halts why values) = length values ≤ most_values

  chosen-few : (raw : ℤ) (rows : List VpdRow) (on : Walking) → length on.values ≤ most_values → Few (chosen on raw rows)
  unfolding Few
  chosen-few raw [] on few = few
  chosen-few raw (r ∷ rs) on few = few

  after-few : (r : VpdRow) (rest : List VpdRow) (raw : ℤ) (on : Walking) → length on.values ≤ most_values → Few (after_value db r rest raw on)
  unfolding Few
  after-few r rest raw on few =
      choice Few (is_yes r.choice) (chosen on raw (structure db raw)) _ (λ h. chosen-few raw (structure db raw) on few) (λ h.
      choice Few (not (nat_eq r.grpsize 0)) (Goes (record on { todo = group_repeated r.grpsize (times raw) rest })) _ (λ i. few) (λ i.
      choice Few (is_yes r.pidref) (Goes (record on { last = raw })) (Goes on) (λ j. few) (λ j. few)))

  given-few : (r : VpdRow) (rest : List VpdRow) (w : Walking) → length w.values ≤ most_values → length w.values ≢ most_values → (t : Typed) (given : Result Value WalkEnd) → FewMove (on_given db r rest w t given)
  unfolding Few FewMove
  given-few r rest w few other t (Err why) = few
  given-few r rest w few other t (Ok v) =
      let on : Walking = record { todo = rest; cursor = pos (v.at + moved_by t); last = w.last; values = w.values ++ v ∷ [] } in
      let more : length on.values ≡ length w.values + 1 = length-append w.values _ in
      after-few r rest v.raw on (omega (arith, few, other, more))

  value-few : (r : VpdRow) (rest : List VpdRow) (w : Walking) → length w.values ≤ most_values → (t : Typed) → FewMove (try_by db source r rest w t)
  unfolding Few FewMove
  value-few r rest w few t =
      choice FewMove (nat_eq (length w.values) most_values) (Steps (Ends ended.Many w.values)) _ (λ h. few)
      (λ h. given-few r rest w few (eqb-false (length w.values) most_values h) t (source w.cursor (field_of t) (length w.values)))

  subject-few : (r : VpdRow) (rest : List VpdRow) (w : Walking) → length w.values ≤ most_values → (o : Option Typed) → FewMove (on_subject_by db source r rest w o)
  unfolding Few FewMove
  subject-few r rest w few None = few
  subject-few r rest w few (Some t) = value-few r rest w few t

  row-few : (r : VpdRow) (rest : List VpdRow) (w : Walking) → length w.values ≤ most_values → FewMove (on_row_by db source r rest w)
  unfolding Few FewMove
  row-few r rest w few =
      choice FewMove (not (nat_eq r.fixrep 0)) (Steps (Goes (record w { todo = group_repeated r.grpsize r.fixrep rest }))) _ (λ h. few)
      (λ h. subject-few r rest w few (option_and_then typed (subject db w.last r)))

  step-few : (w : Walking) (rows : List VpdRow) → length w.values ≤ most_values → FewMove (move_from db source w rows)
  unfolding Few FewMove
  step-few w [] few = few
  step-few w (r ∷ rest) few = row-few r rest (record w { cursor = w.cursor +ℤ r.offset }) few

  on_few : (k : ℕ) (e : Walked) → ((on : Walking) → length on.values ≤ most_values → walked_by db source k on ≡ Some e → length e.0 ≤ most_values)
      → (s : Move) → FewMove s → on_move (λ on. walked_by db source k on) s ≡ Some e → length e.0 ≤ most_values
  unfolding Few FewMove
  on_few k e more (Steps (Goes on)) few h = more on few h
  on_few k e more (Steps (Ends ended values)) few h = subst (λ (p : Walked). length p.0 ≤ most_values) (ap (λ (o : Option Walked). unwrap_or o (values, Ended ended)) h) few
  on_few k e more (Halts why values) few h = subst (λ (p : Walked). length p.0 ≤ most_values) (ap (λ (o : Option Walked). unwrap_or o (values, why)) h) few

  -- a walk that ends has no more values than a packet may have
  walked-few : (k : ℕ) (e : Walked) (w : Walking) → length w.values ≤ most_values → walked_by db source k w ≡ Some e → length e.0 ≤ most_values
  unfolding walked_by move
  walked-few zero e w few h = absurd (none-some e h)
  walked-few (suc k) e w few h = on_few k e (λ on. walked-few k e on) (move db source w) (step-few w w.todo few) h

  -- each walk over a sound database ends within the limit
  pub ends-within : IsSound db → (tpsd : ℤ) (dfhsize : ℕ) → (e : Walked) × (walked_by db source (walk_limit db) (walk_start db tpsd dfhsize) ≡ Some e)
  ends-within sound tpsd dfhsize =
      let d = max 1 (length db.vpd) in
      let start = walk_start db tpsd dfhsize in
      let largest : IsLargest db d = λ t. (let few = structure-rows db t in let le = le-max_right 1 (length db.vpd) in omega (arith, few, le)) in
      let some = le-max_left 1 (length db.vpd) in
      let good = structures-good db sound d largest in
      let (e, walks) = walks-from db source d some good start refl (good tpsd) in
      let few = walked-few ((length e.0 + 1) * d) e start (omega arith) walks in
      (e, walked-more db source d ((length e.0 + 1) * d) (walk_limit db) start e (mul-le-mul_right d (omega (arith, few))) walks)

pub walks_end : WalksEnd
walks_end db sound source tpsd dfhsize = ends-within db source sound tpsd dfhsize
