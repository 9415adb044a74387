-- Rows that are looked for first: each at a place of its own. [This profile.]
use Rattle.std.specs.Prelude.{◌≡◌, ℕ, Bool, true, List, Option, Some, None, get_or}
use Rattle.std.specs.List.{find}

-- whether a row stands at one of these places
abbrev pub IsAtHand : {R : Type 0} → List (Option R) → R → Type 0
IsAtHand places row = (k : ℕ) × (get_or places k None ≡ Some row)

-- whether no row stands at any of these places
abbrev pub AreFree : {R : Type 0} → List (Option R) → Type 0
AreFree places = (k : ℕ) → get_or places k None ≡ None

-- whether a row is the first of each test that it passes
abbrev pub IsFirst : {K R : Type 0} → (K → R → Bool) → List R → R → Type 0
IsFirst {K} test rows row = (key : K) → test key row ≡ true → find (test key) rows ≡ Some row
