-- Plans that are found by a number, beside those of a base. [This profile.]
use Rattle.std.specs.Prelude.{ℕ, ℤ, pos, Bool, false, List, [], ◌∷◌, Option, Some, None, filter, option_map, is_some, not, if◌then◌else◌}
use Rattle.std.specs.Arc.{arc_value}
use Rattle.std.specs.declared.sync.Arc.{Arc}
use Rattle.std.specs.HashMap.{get, HashMap}
use Rattle.std.specs.List.{list_any}
use Rattle.std.specs.Ordering.{int_eq}
use Rattle.mib_model.specs.Orders.{sorted_by_number}
use Rattle.mib_model.specs.Plans.{distinct}

-- the plan of a number among those of a map
abbrev pub plan_at : {R Z S : Type 0} → HashMap ℤ (Arc R Z) S → ℤ → Option R
plan_at plans n = option_map arc_value (get int_eq plans n)

-- whether rows are there, and the same as others
abbrev pub has_same : {R : Type 0} → (R → R → Bool) → Option R → R → Bool
has_same same None new = false
has_same same (Some old) new = same old new

-- whether rows are there that a base lacks, or has others for
abbrev pub is_new : {R : Type 0} → (R → R → Bool) → Option R → Option R → Bool
is_new same old None = false
is_new same old (Some new) = not (has_same same old new)

-- one where something holds, else none
abbrev pub one_if : Bool → ℕ
one_if b = if b then 1 else 0

module _ {R : Type 0} (same : R → R → Bool) (old new : ℤ → Option R) where
  -- a number whose rows a base lacks, or has others for
  abbrev pub is_new_at : ℕ → Bool
  is_new_at n = is_new same (old (pos n)) (new (pos n))

  -- the numbers of the plans that are compiled for a number: none where its plan is there
  abbrev pub added : Option R → ℕ → List ℕ
  added held n = if is_some held then [] else if is_new_at n then n ∷ [] else []

  -- those of some numbers whose rows a base lacks, or has others for, each once, in order
  abbrev pub new_among : List ℕ → List ℕ
  new_among ns = sorted_by_number (λ n. n) (filter is_new_at (distinct ns))

-- the rows of a number that is among some
abbrev pub found_among : {R : Type 0} → (ℤ → Option R) → List ℕ → ℤ → Option R
found_among new ns q = if list_any (λ n. int_eq (pos n) q) ns then new q else None

-- the numbers of a database's plans that a base lacks, or has of other rows, each once, in order
abbrev pub new_numbers : {D R : Type 0} → (R → R → Bool) → (D → ℤ → Option R) → (D → List ℕ) → D → D → List ℕ
new_numbers same rows_at numbers base db = new_among same (rows_at base) (rows_at db) (numbers db)
