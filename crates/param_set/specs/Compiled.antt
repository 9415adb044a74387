-- Curves that are kept by name. [This profile.]
use Rattle.std.specs.Prelude.{◌≡◌, ℕ, List, Option, Some, IfSome}
use Rattle.std.specs.Arc.{arc_value}
use Rattle.std.specs.declared.sync.Arc.{Arc}
use Rattle.std.specs.HashMap.{get, HashMap}
use Rattle.std.specs.Str.{bytes_eq}
use Rattle.mib_model.specs.declared.plan.CurveRows.{CurveRows}

-- each curve that is kept under a name is the one so named
abbrev pub AreNamed : {Z S : Type 0} → (List ℕ → Option CurveRows) → HashMap (List ℕ) (Arc CurveRows Z) S → Type 0
AreNamed named kept = (name : List ℕ) → IfSome (get bytes_eq kept name) (λ curve. named name ≡ Some (arc_value curve))
