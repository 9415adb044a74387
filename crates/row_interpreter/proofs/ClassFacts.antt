-- What is asked of rows that apply is asked of them one by one.
use Rattle.std.proofs.Common.{◌≡◌, ℤ, Bool, true, false, ◌&&◌, ◌||◌, not, cond, List, [], ◌∷◌, Option, filter, refl}
use Rattle.std.specs.List.{list_any}
use Rattle.mib_model.specs.declared.check.Class.{Class}
use Rattle.mib_model.specs.declared.check.Class.TheVariants.{Nominal, Hard, Status, Delta, Soft}
use Rattle.mib_model.specs.declared.rows.OcpRow.{OcpRow}
use Rattle.mib_model.specs.Checks.{Sample, agrees_with, applies, class_of, is_delta, is_hard, is_soft, is_status, violates_delta, violates_limit}
use Rattle.mib_model.specs.Kept.{Memory}

pub any-kept : {X : Type 0} (a q : X → Bool) (xs : List X) → list_any (λ x. a x && q x) xs ≡ list_any q (filter a xs)
any-kept a q [] = refl
any-kept a q (x ∷ xs) = by (a x) (any-kept a q xs) where
  by : (b : Bool) → list_any (λ x. a x && q x) xs ≡ list_any q (filter a xs) → ((b && q x) || list_any (λ x. a x && q x) xs) ≡ list_any q (cond b (x ∷ filter a xs) (filter a xs))
  by true more = λ i. q x || more i
  by false more = more

-- the first that holds of four
abbrev pub first_class : Bool → Bool → Bool → Bool → Class
first_class hard status delta soft = cond hard Hard (cond status Status (cond delta Delta (cond soft Soft Nominal)))

-- the class by what was asked of each row
pub class-is : (rows : List OcpRow) (sample : Sample) (previous : Option ℤ) (memory : Memory) →
    first_class
    (list_any (λ row. applies memory row && (is_hard row && violates_limit sample row)) rows)
    (list_any (λ row. applies memory row && is_status row) rows && not (list_any (λ row. applies memory row && (is_status row && agrees_with sample row.lvalu)) rows))
    (list_any (λ row. applies memory row && (is_delta row && violates_delta previous sample row)) rows)
    (list_any (λ row. applies memory row && (is_soft row && violates_limit sample row)) rows)
    ≡ class_of rows sample previous memory
unfolding class_of
class-is rows sample previous memory =
    let hard = any-kept (applies memory) (λ row. is_hard row && violates_limit sample row) rows in
    let state = any-kept (applies memory) is_status rows in
    let agrees = any-kept (applies memory) (λ row. is_status row && agrees_with sample row.lvalu) rows in
    let delta = any-kept (applies memory) (λ row. is_delta row && violates_delta previous sample row) rows in
    let soft = any-kept (applies memory) (λ row. is_soft row && violates_limit sample row) rows in
    λ i. first_class (hard i) (state i && not (agrees i)) (delta i) (soft i)
