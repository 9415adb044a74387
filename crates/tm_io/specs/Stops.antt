-- Positions at which an object in memory fails.
use Rattle.std.specs.Prelude.{ℕ, ◌<◌, ◌≤◌, ◌+◌, ◌==◌, List, Bool, not}
use Rattle.std.specs.List.{All, filter, list_any}

-- whether the position is one of them
abbrev pub is_stop : List ℕ → ℕ → Bool
is_stop stops at = list_any (λ stop. stop == at) stops

-- so many octets from a position on reach no later stop, or end there
abbrev pub StopsBefore : List ℕ → ℕ → ℕ → Type 0
StopsBefore stops at count = All (λ stop. at < stop → at + count ≤ stop) stops

-- the positions but this one
abbrev pub without : List ℕ → ℕ → List ℕ
without stops at = filter (λ stop. not (stop == at)) stops
