-- The class by sorted checks is that by the rows.
use Rattle.std.proofs.Common.{◌≡◌, ℕ, ℤ, ◌-ℤ◌, int_lt, Bool, true, false, ◌&&◌, ◌||◌, ◌==◌, not, cond, if◌then◌else◌, List, [], ◌∷◌, map, filter, Option, Some, None, Ok, Err, Result, refl, sym, ap, ◌∙◌}
use Rattle.std.proofs.lemmas.Bool.{eqb-true}
use Rattle.std.specs.List.{list_any}
use Rattle.std.specs.Option.{is_some}
use Rattle.check_plan.specs.declared.check_set.CheckSet.{CheckSet}
use Rattle.mib_model.specs.declared.check.Class.{Class}
use Rattle.mib_model.specs.declared.check.Class.TheVariants.{Nominal, Hard, Status, Delta, Soft}
use Rattle.mib_model.specs.declared.number.Dec.{Dec}
use Rattle.mib_model.specs.declared.number.DecFault.{DecFault}
use Rattle.mib_model.specs.declared.rows.Bound.{Bound}
use Rattle.mib_model.specs.declared.rows.Bound.TheVariants as bound
use Rattle.mib_model.specs.declared.rows.OcpRow.{OcpRow}
use Rattle.mib_model.specs.Checks.{Sample, Numbered, Worded, is_status, is_delta, applies, is_below, is_above, is_out, violates_limit, violates_delta, is_count_of, agrees_with, class_of}
use Rattle.mib_model.specs.Decimals.{dec_of}
use Rattle.mib_model.specs.Kept.{Memory, is_met}
use Rattle.mib_model.specs.Letters.{letter}
use Rattle.check_plan.specs.CheckSets.{any_violated, any_far, is_unexpected, class_in, IsSetOf}
use Rattle.check_plan.specs.Limits.{binds, bound_count, limit_of, is_outside, is_passed, is_unasked, is_asked, asked_limit_of, applies_to, any_passed}
use Rattle.check_plan.specs.States.{count_read, has_count, state_of, is_in_state, asked_of}

-- what passes among images of the items of a kind
module _ {Y : Type 0} (h : OcpRow → Y) (kind app : OcpRow → Bool) (g : Y → Bool) (same : (row : OcpRow) → g (h row) ≡ app row) where
  pub any-kind : (rows : List OcpRow) → list_any g (map h (filter kind rows)) ≡ list_any kind (filter app rows)
  any-kind [] = refl
  any-kind (row ∷ rows) = go (kind row) refl (app row) refl (any-kind rows) where
    go : (k : Bool) → kind row ≡ k → (a : Bool) → app row ≡ a → list_any g (map h (filter kind rows)) ≡ list_any kind (filter app rows)
        → list_any g (map h (cond k (row ∷ filter kind rows) (filter kind rows))) ≡ list_any kind (cond a (row ∷ filter app rows) (filter app rows))
    go true e true f others = let s = same row ∙ f in rw (s, e) refl
    go true e false f others = let s = same row ∙ f in rw s others
    go false e true f others = rw e others
    go false e false f others = others

  module _ (f : Y → Bool) (out : OcpRow → Bool) (alike : (row : OcpRow) → f (h row) ≡ out row) where
    pub any-mapped : (rows : List OcpRow) → list_any (λ y. f y && g y) (map h (filter kind rows)) ≡ list_any (λ row. kind row && out row) (filter app rows)
    any-mapped [] = refl
    any-mapped (row ∷ rows) = go (kind row) refl (app row) refl (out row) refl (any-mapped rows) where
      go : (k : Bool) → kind row ≡ k → (a : Bool) → app row ≡ a → (o : Bool) → out row ≡ o
          → list_any (λ y. f y && g y) (map h (filter kind rows)) ≡ list_any (λ row. kind row && out row) (filter app rows)
          → list_any (λ y. f y && g y) (map h (cond k (row ∷ filter kind rows) (filter kind rows))) ≡ list_any (λ row. kind row && out row) (cond a (row ∷ filter app rows) (filter app rows))
      go true e true i true j others = let s = alike row ∙ j in let t = same row ∙ i in rw (s, t, e, j) refl
      go true e true i false j others = let s = alike row ∙ j in let t = same row ∙ i in rw (s, e, j) others
      go true e false i true j others = let s = alike row ∙ j in let t = same row ∙ i in rw (s, t) others
      go true e false i false j others = let s = alike row ∙ j in rw s others
      go false e true i o j others = rw e others
      go false e false i o j others = others

-- a bound binds counts as its row's does
under-same : (b : Bound) (count : ℤ) → (binds b && int_lt count (bound_count b)) ≡ is_below b count
under-same bound.Empty count = refl
under-same (bound.Number d) count = refl
under-same (bound.Words text) count = refl

over-same : (b : Bound) (count : ℤ) → (binds b && int_lt (bound_count b) count) ≡ is_above b count
over-same bound.Empty count = refl
over-same (bound.Number d) count = refl
over-same (bound.Words text) count = refl

outside-same : (count : ℤ) (row : OcpRow) → is_outside (limit_of row) count ≡ is_out row count
outside-same count row = λ i. under-same row.lvalu count i || over-same row.hvalu count i

-- a state agrees as its row does
count-same : (count : ℤ) (r : Result Dec DecFault) → has_count (count_read r) count ≡ is_count_of count r
count-same count (Ok d) = refl
count-same count (Err fault) = refl

state-same : (sample : Sample) (row : OcpRow) → is_in_state sample (state_of row) ≡ agrees_with sample row.lvalu
state-same sample row = by sample row.lvalu where
  by : (sample : Sample) (b : Bound) → is_in_state sample (state_of (record row { lvalu = b })) ≡ agrees_with sample b
  by (Numbered count) bound.Empty = refl
  by (Numbered count) (bound.Number d) = refl
  by (Numbered count) (bound.Words text) = count-same count (dec_of text)
  by (Worded words) bound.Empty = refl
  by (Worded words) (bound.Number d) = refl
  by (Worded words) (bound.Words text) = refl

-- nothing passes where no item does
none-any : (kind : OcpRow → Bool) (rows : List OcpRow) → list_any (λ row. kind row && false) rows ≡ false
none-any kind [] = refl
none-any kind (row ∷ rows) = go (kind row) (none-any kind rows) where
  go : (k : Bool) → list_any (λ row. kind row && false) rows ≡ false → ((k && false) || list_any (λ row. kind row && false) rows) ≡ false
  go true others = others
  go false others = others

-- what passes among images passes among the items
any-image : {Y : Type 0} (h : OcpRow → Y) (f : Y → Bool) (out : OcpRow → Bool) → ((row : OcpRow) → f (h row) ≡ out row)
    → (rows : List OcpRow) → list_any f (map h rows) ≡ list_any out rows
any-image h f out same [] = refl
any-image h f out same (row ∷ rows) = λ i. same row i || any-image h f out same rows i

-- an item that is there under a condition
any-where : (p : OcpRow → Bool) (b : Bool) (row : OcpRow) (rows : List OcpRow) → list_any p (cond b (row ∷ rows) rows) ≡ cond b (p row || list_any p rows) (list_any p rows)
any-where p true row rows = refl
any-where p false row rows = refl

-- one more row: of a kind and out of bounds or not, whose condition is met, among those without a condition, and among those with one
one-more : (k o m f s : Bool) → (f ≡ true → m ≡ true) → (k ≡ true → s ≡ not f) → (free asked all : Bool) → (free || asked) ≡ all
    → (cond f ((k && o) || free) free || cond s ((k && o && m) || asked) asked) ≡ cond m ((k && o) || all) all
one-more false o true true true met only free asked all same = same
one-more false o true true false met only free asked all same = same
one-more false o true false true met only free asked all same = same
one-more false o true false false met only free asked all same = same
one-more false o false true true met only free asked all same = same
one-more false o false true false met only free asked all same = same
one-more false o false false true met only free asked all same = same
one-more false o false false false met only free asked all same = same
one-more true o false true s met only free asked all same = let e : false ≡ true = met refl in absurd (cc e)
one-more true o true true true met only free asked all same = let e : true ≡ false = only refl in absurd (cc e)
one-more true true true true false met only free asked all same = refl
one-more true false true true false met only free asked all same = same
one-more true o m false false met only free asked all same = let e : false ≡ true = only refl in absurd (cc e)
one-more true true true false true met only true asked all same = refl
one-more true true true false true met only false asked all same = refl
one-more true true false false true met only free asked all same = same
one-more true false true false true met only free asked all same = same
one-more true false false false true met only free asked all same = same

-- what is out among the rows of a kind whose condition is met is out among those without one, or among those with one that is met
module _ (free asked met kind out : OcpRow → Bool) (unasked : (row : OcpRow) → free row ≡ true → met row ≡ true)
    (only : (row : OcpRow) → kind row ≡ true → asked row ≡ not (free row)) where
  any-parted : (rows : List OcpRow) → (list_any (λ row. kind row && out row) (filter free rows) || list_any (λ row. kind row && out row && met row) (filter asked rows))
      ≡ list_any (λ row. kind row && out row) (filter met rows)
  any-parted [] = refl
  any-parted (row ∷ rows) =
      let one = any-where (λ r. kind r && out r) (free row) row (filter free rows) in
      let two = any-where (λ r. kind r && out r && met r) (asked row) row (filter asked rows) in
      let all = any-where (λ r. kind r && out r) (met row) row (filter met rows) in
      (λ i. one i || two i) ∙
      (one-more (kind row) (out row) (met row) (free row) (asked row) (unasked row) (only row) _ _ _ (any-parted rows) ∙ sym all)

-- a limit without a condition applies
unasked-met : (memory : Memory) (row : OcpRow) → is_unasked row ≡ true → applies memory row ≡ true
unasked-met memory row = by (is_status row) row.rlchk where
  by : (b : Bool) (name : Option (List ℕ)) → (not b && not (is_some name)) ≡ true → is_met memory name row.valpar ≡ true
  by b None h = refl
  by true (Some name) h = absurd (cc h)
  by false (Some name) h = absurd (cc h)

-- of a type that isn't that of states, the rows with a condition are those that aren't without one
asked-other : (sort : ℕ) → (sort == letter "C") ≡ false → (row : OcpRow) → (row.sort == sort) ≡ true → is_asked row ≡ not (is_unasked row)
asked-other sort apart row is = by (row.sort == letter "C") (is_some row.rlchk) (ap (λ (n : ℕ). n == letter "C") (eqb-true row.sort sort is) ∙ apart) where
  by : (c b : Bool) → c ≡ false → (not c && b) ≡ not (not c && not b)
  by true b h = absurd (cc h)
  by false true h = refl
  by false false h = refl

module _ (memory : Memory) (rows : List OcpRow) where
  passed-same : (sort : ℕ) → (sort == letter "C") ≡ false → (count : ℤ) → any_passed memory sort count (map limit_of (filter is_unasked rows)) (map asked_limit_of (filter is_asked rows))
      ≡ list_any (λ row. row.sort == sort && is_out row count) (filter (applies memory) rows)
  passed-same sort apart count =
      let one = any-image limit_of (is_passed sort count) (λ row. row.sort == sort && is_out row count)
      (λ row i. row.sort == sort && outside-same count row i) (filter is_unasked rows) in
      let two = any-image asked_limit_of (λ asked. is_passed sort count asked.limit && applies_to memory asked)
      (λ row. row.sort == sort && is_out row count && applies memory row) (λ row i. row.sort == sort && outside-same count row i && applies memory row) (filter is_asked rows) in
      (λ i. one i || two i) ∙
      any-parted is_unasked is_asked (applies memory) (λ row. row.sort == sort) (λ row. is_out row count) (unasked-met memory) (asked-other sort apart) rows

  violated-same : (sort : ℕ) → (sort == letter "C") ≡ false → (sample : Sample) → any_violated memory sample sort (map limit_of (filter is_unasked rows)) (map asked_limit_of (filter is_asked rows))
      ≡ list_any (λ row. row.sort == sort && violates_limit sample row) (filter (applies memory) rows)
  violated-same sort apart (Numbered count) = passed-same sort apart count
  violated-same sort apart (Worded text) = sym (none-any (λ row. row.sort == sort) (filter (applies memory) rows))

  far-same : (previous : Option ℤ) (sample : Sample) → any_far memory previous sample (map limit_of (filter is_unasked rows)) (map asked_limit_of (filter is_asked rows))
      ≡ list_any (λ row. is_delta row && violates_delta previous sample row) (filter (applies memory) rows)
  far-same None (Numbered count) = sym (none-any is_delta (filter (applies memory) rows))
  far-same None (Worded text) = sym (none-any is_delta (filter (applies memory) rows))
  far-same (Some before) (Numbered count) = passed-same (letter "D") refl (count -ℤ before)
  far-same (Some before) (Worded text) = sym (none-any is_delta (filter (applies memory) rows))

  unexpected-same : (sample : Sample) → is_unexpected memory sample (map state_of (filter is_status rows))
      ≡ (list_any is_status (filter (applies memory) rows) && not (list_any (λ row. is_status row && agrees_with sample row.lvalu) (filter (applies memory) rows)))
  unexpected-same sample =
      let asked = any-kind state_of is_status (applies memory) (asked_of memory) (λ row. refl) rows in
      let agreed = any-mapped state_of is_status (applies memory) (asked_of memory) (λ row. refl) (is_in_state sample) (λ row. agrees_with sample row.lvalu) (state-same sample) rows in
      λ i. asked i && not (agreed i)

-- the first that holds of four
abbrev pub first_class : Bool → Bool → Bool → Bool → Class
first_class hard status delta soft = if hard then Hard else if status then Status else if delta then Delta else if soft then Soft else Nominal

pub class-same : (set : CheckSet) (rows : List OcpRow) → IsSetOf set rows → (sample : Sample) (previous : Option ℤ) (memory : Memory) → class_in memory set sample previous ≡ class_of rows sample previous memory
unfolding class_of
class-same set rows is sample previous memory =
    let hard = (λ i. any_violated memory sample (letter "H") (is.limits i) (is.asked i)) ∙ violated-same memory rows (letter "H") refl sample in
    let status = ap (is_unexpected memory sample) is.states ∙ unexpected-same memory rows sample in
    let delta = (λ i. any_far memory previous sample (is.limits i) (is.asked i)) ∙ far-same memory rows previous sample in
    let soft = (λ i. any_violated memory sample (letter "S") (is.limits i) (is.asked i)) ∙ violated-same memory rows (letter "S") refl sample in
    λ i. first_class (hard i) (status i) (delta i) (soft i)
