-- The law of walks over structures.
use Rattle.std.specs.Prelude.{◌≡◌, ℕ, ◌+◌, ◌*◌, ◌≤◌, ℤ, List, length, Some}
use Rattle.mib_model.specs.declared.database.Database.{Database}
use Rattle.mib_model.specs.Soundness.{IsSound}
use Rattle.mib_model.specs.Structures.{structure}
use Rattle.mib_model.specs.Walk.{Extracted, walk_limit, walk_start, walked, structure_values}

-- no structure has more rows
abbrev pub IsLargest : Database → ℕ → Type 0
IsLargest db d = (tpsd : ℤ) → length (structure db tpsd) ≤ d

-- each walk over a sound database ends; with V values it takes at most (V + 1)·d steps, where no structure has more than d rows
abbrev pub WalksEnd : Type 0
WalksEnd =
    (db : Database) → IsSound db → (d : ℕ) → 1 ≤ d → IsLargest db d →
    (packet : List ℕ) (tpsd : ℤ) (dfhsize : ℕ) →
    (end : Extracted) × (walked db packet ((length end.0 + 1) * d) (walk_start db tpsd dfhsize) ≡ Some end)

-- over a sound database a walk with the limit of steps ends, and what it gives are the structure's values
abbrev pub LimitServes : Type 0
LimitServes =
    (db : Database) → IsSound db → (packet : List ℕ) (tpsd : ℤ) (dfhsize : ℕ) →
    walked db packet (walk_limit db) (walk_start db tpsd dfhsize) ≡ Some (structure_values db tpsd dfhsize packet)
