-- Of a calm sample nothing is told.
use Rattle.std.proofs.Common.{◌≡◌, ℕ, ◌+◌, ◌<◌, ℤ, ◌-ℤ◌, Bool, true, false, ◌&&◌, ◌||◌, ◌==◌, not, List, [], ◌∷◌, length, take, get_or, Option, Some, None, refl, sym, ap, ◌∙◌}
use Rattle.std.proofs.lemmas.List.Folds.{list_any_more}
use Rattle.std.specs.List.{list_any}
use Rattle.check_plan.specs.declared.check_set.CheckSet.{CheckSet}
use Rattle.check_plan.specs.declared.limit.Limit.{Limit}
use Rattle.mib_model.specs.declared.check.Class.TheVariants.{Nominal}
use Rattle.mib_model.specs.Checks.{Sample, Numbered, Worded}
use Rattle.mib_model.specs.Kept.{Memory}
use Rattle.mib_model.specs.Letters.{letter}
use Rattle.check_plan.specs.Aparts.{asked_behind, states_behind}
use Rattle.check_plan.specs.Calms.{is_in, is_calm, may_tell}
use Rattle.check_plan.specs.CheckSets.{any_far, is_unexpected, class_in, IsCalmSet}
use Rattle.check_plan.specs.Limits.{is_outside, is_passed, any_passed, any_asked_passed}
use Rattle.check_plan.proofs.SetFacts.{first_class}

-- no item passes a test that is narrower than one that none passes
none-narrower : {Y : Type 0} (wide narrow : Y → Bool) → ((y : Y) → wide y ≡ false → narrow y ≡ false)
    → (ys : List Y) → list_any wide ys ≡ false → list_any narrow ys ≡ false
none-narrower wide narrow less [] none = refl
none-narrower wide narrow less (y ∷ ys) none = go (wide y) refl none (none-narrower wide narrow less ys) where
  go : (w : Bool) → wide y ≡ w → (w || list_any wide ys) ≡ false → (list_any wide ys ≡ false → list_any narrow ys ≡ false)
      → list_any narrow (y ∷ ys) ≡ false
  go true e h others = absurd (cc h)
  go false e h others = (λ i. less y e i || list_any narrow ys) ∙ others h

-- a limit that may not tell of a count isn't passed by it
unpassed : (sort : ℕ) (count : ℤ) (limit : Limit) → may_tell count limit ≡ false → is_passed sort count limit ≡ false
unpassed sort count limit = by (limit.sort == letter "D") (is_outside limit count) (limit.sort == sort) where
  by : (d o k : Bool) → (d || o) ≡ false → (k && o) ≡ false
  by true o k h = absurd (cc h)
  by false o true h = h
  by false o false h = refl

-- a limit that may not tell of a count isn't one of steps
unstepped : (count step : ℤ) (limit : Limit) → may_tell count limit ≡ false → is_passed (letter "D") step limit ≡ false
unstepped count step limit = by (limit.sort == letter "D") (is_outside limit count) (is_outside limit step) where
  by : (d o k : Bool) → (d || o) ≡ false → (d && k) ≡ false
  by true o k h = absurd (cc h)
  by false o k h = refl

module _ (set : CheckSet) (memory : Memory) (count : ℤ) (untold : list_any (may_tell count) set.limits.items ≡ false) (alone : set.apart ≡ None) where
  not-passed : (sort : ℕ) → any_passed memory sort count set.limits.items (asked_behind set.apart) ≡ false
  not-passed sort =
      let none = none-narrower (may_tell count) (is_passed sort count) (unpassed sort count) set.limits.items untold in
      λ i. none i || any_asked_passed memory sort count (asked_behind (alone i))

  not-far : (previous : Option ℤ) → any_far memory previous (Numbered count) set.limits.items (asked_behind set.apart) ≡ false
  not-far None = refl
  not-far (Some before) =
      let none = none-narrower (may_tell count) (is_passed (letter "D") (count -ℤ before)) (unstepped count (count -ℤ before)) set.limits.items untold in
      λ i. none i || any_asked_passed memory (letter "D") (count -ℤ before) (asked_behind (alone i))

  calm-class : (previous : Option ℤ) → class_in memory set (Numbered count) previous ≡ Nominal
  calm-class previous =
      let hard = not-passed (letter "H") in
      let status : is_unexpected memory (Numbered count) (states_behind set.apart) ≡ false = ap (λ apart. is_unexpected memory (Numbered count) (states_behind apart)) alone in
      let delta = not-far previous in
      let soft = not-passed (letter "S") in
      λ i. first_class (hard i) (status i) (delta i) (soft i)

-- counts of which no limit tells, and that are there only where there are no more than limits, are calm
pub calm-set : (set : CheckSet) → ((count : ℤ) → is_in set.calm count ≡ true → list_any (may_tell count) set.limits.items ≡ false)
    → ((count : ℤ) → is_in set.calm count ≡ true → set.apart ≡ None) → IsCalmSet set
calm-set set untold alone = record { nominal = by } where
  by : (memory : Memory) (previous : Option ℤ) (sample : Sample) → is_calm set.calm sample ≡ true → class_in memory set sample previous ≡ Nominal
  by memory previous (Numbered count) h = calm-class set memory count (untold count h) (alone count h) previous
  by memory previous (Worded text) h = absurd (cc h)

-- a limit that isn't one of steps narrows by its bounds
pub narrowed-by : (d a b m : Bool) → d ≡ false → ((m && not a) && not b) ≡ (m && not (d || (a || b)))
narrowed-by true a b m h = absurd (cc h)
narrowed-by false a b false h = refl
narrowed-by false true b true h = refl
narrowed-by false false b true h = refl

-- one more item that doesn't pass a test, of what none passed
pub none-more : {X : Type 0} (p : X → Bool) (xs : List X) (i : ℕ) (d : X) → i < length xs → (was is : Bool) → is ≡ (was && not (p (get_or xs i d))) → is ≡ true
    → (was ≡ true → list_any p (take i xs) ≡ false) → list_any p (take (i + 1) xs) ≡ false
none-more p xs i d within was is narrowed there none = list_any_more p xs i d within ∙ by was is (p (get_or xs i d)) (list_any p (take i xs)) narrowed there none where
  by : (was is passes any : Bool) → is ≡ (was && not passes) → is ≡ true → (was ≡ true → any ≡ false) → (any || passes) ≡ false
  by false is passes any e h none = let w : false ≡ true = sym e ∙ h in absurd (cc w)
  by true is true any e h none = let w : false ≡ true = sym e ∙ h in absurd (cc w)
  by true is false any e h none = λ i. none refl i || false
