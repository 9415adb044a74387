-- When a call may answer that it failed.
use Rattle.std.specs.Prelude.{◌≡◌, ℕ, ◌+◌, ◌-◌, ◌^◌, ◌≤◌, min, Bool, true, false, Result, OnOk, OnErr}

-- the count rose, or stands at the last value of its type
abbrev pub Rose : ℕ → ℕ → Type 0
Rose before now = min (before + 1) (2 ^ 64 - 1) ≤ now

-- the count of an object that failed: it doesn't fall, and rose
abbrev pub HasRisen : ℕ → ℕ → Type 0
HasRisen before now = (before ≤ now) × Rose before now

-- the count rose just where the object failed
abbrev pub RisesWhere : Bool → ℕ → ℕ → Type 0
RisesWhere true before now = HasRisen before now
RisesWhere false before now = now ≡ before

-- the count doesn't fall, a failure comes only where it rose, and a success leaves it
pub record HasCause {T E : Type 0} (before now : ℕ) (result : Result T E) : Type 0 where
  pub later : before ≤ now
  pub failed : OnErr result (Rose before now)
  pub ok : OnOk result (now ≡ before)
