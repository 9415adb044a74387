-- Results by their numbers.
use Rattle.std.specs.Prelude.{ℕ, ◌+◌, ◌-◌, ◌^◌, ◌&&◌, List, [], ◌∷◌, Option, Some, None, Bool, true, slice_index_or, nat_lt, if◌then◌else◌}

-- the result of a number, where the places are those of the next number and of the numbers after it
abbrev pub result_at : {R : Type 0} → ℕ → List (Option R) → ℕ → Option R
result_at next places n = if nat_lt n next then None else slice_index_or places (n - next) None

-- each result that is there has a number of 64 bits
abbrev pub all_numbered : {R : Type 0} → ℕ → List (Option R) → Bool
all_numbered next [] = true
all_numbered next (None ∷ places) = all_numbered (next + 1) places
all_numbered next (Some value ∷ places) = nat_lt next (2 ^ 64) && all_numbered (next + 1) places
