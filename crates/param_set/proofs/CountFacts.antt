-- How many are chosen, and the names of slices that are.
use Rattle.std.proofs.Common.{◌≡◌, ◌∙◌, ℕ, suc, ◌+◌, ◌≤◌, Bool, true, false, cond, List, [], ◌∷◌, ◌++◌, filter, length, map, refl, ap, arith}
use Rattle.std.proofs.lemmas.List.{length-append, length-map, map-append}
use Rattle.std.proofs.lemmas.List.Elements.{filter-append}
use Rattle.std.proofs.lemmas.List.Sums.{count_by-le-length, length-filter}
use Rattle.mib_model.specs.Orders.{insert_by, sorted_by}
use Rattle.param_plan.specs.Slices.{ParamSlice}
use Rattle.param_set.specs.Sharing.{is_new, name_if, new_names}
use Rattle.param_state.specs.ParamPlans.{plan_names}

long-insert : {A : Type 0} (before : A → A → Bool) (x : A) (ys : List A) → length (insert_by before x ys) ≡ suc (length ys)
long-insert before x [] = refl
long-insert {A} before x (y ∷ ys) = go (before x y) (long-insert before x ys) where
  go : (b : Bool) → length (insert_by before x ys) ≡ suc (length ys) → length (cond b (x ∷ y ∷ ys) (y ∷ insert_by before x ys)) ≡ suc (suc (length ys))
  go true others = refl
  go false others = ap suc others

long-sorted : {A : Type 0} (before : A → A → Bool) (xs : List A) → length (sorted_by before xs) ≡ length xs
unfolding sorted_by
long-sorted before [] = refl
long-sorted before (x ∷ xs) = long-insert before x (sorted_by before xs) ∙ ap suc (long-sorted before xs)

-- no more than there are
pub planned-most : {A : Type 0} (before : A → A → Bool) (p : A → Bool) (xs : List A) → length (sorted_by before (filter p xs)) ≤ length xs
planned-most before p xs = omega (arith, long-sorted before (filter p xs), length-filter p xs, count_by-le-length p xs)

-- behind slices is one more: it is counted where it passes
pub count-more : (p : ParamSlice → Bool) (slices : List ParamSlice) (slice : ParamSlice) → length (filter p (slices ++ slice ∷ [])) ≡ length (filter p slices) + length (filter p (slice ∷ []))
count-more p slices slice = ap length (filter-append p slices (slice ∷ [])) ∙ length-append (filter p slices) (filter p (slice ∷ []))

-- as many slices as names
pub long-names : (slices : List ParamSlice) → length (plan_names slices) ≡ length slices
long-names slices = length-map slices (λ (slice : ParamSlice). slice.pcf.name)

-- behind slices is one more: its name is behind those of the ones that pass
pub names-more : (p : ParamSlice → Bool) (slices : List ParamSlice) (slice : ParamSlice) → plan_names (filter p (slices ++ slice ∷ [])) ≡ plan_names (filter p slices) ++ name_if (p slice) slice.pcf.name
names-more p slices slice =
    ap plan_names (filter-append p slices (slice ∷ [])) ∙ map-append (λ (s : ParamSlice). s.pcf.name) (filter p slices) (filter p (slice ∷ [])) ∙ ap (λ (names : List (List ℕ)). plan_names (filter p slices) ++ names) (one (p slice)) where
      one : (b : Bool) → plan_names (cond b (slice ∷ []) []) ≡ name_if b slice.pcf.name
      one true = refl
      one false = refl

-- no more names of new slices than slices
pub few-new : (base slices : List ParamSlice) → length (new_names base slices) ≤ length slices
few-new base slices = omega (arith, long-names (filter (is_new base) slices), length-filter (is_new base) slices, count_by-le-length (is_new base) slices)
