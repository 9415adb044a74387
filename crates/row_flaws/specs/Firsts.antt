-- The first flaw of a row by rules. [This profile.]
use Rattle.std.specs.Prelude.{ℕ, List, [], ◌∷◌, map, Option, None, option_map}
use Rattle.std.specs.Option.{option_or}
use Rattle.mib_model.specs.declared.fault.MibFault.{MibFault}
use Rattle.mib_model.specs.declared.kind.Kind.{Kind}
use Rattle.mib_model.specs.Flaws.{Rule, fault_of}

-- the first of some answers that is there
abbrev pub first_from : {A : Type 0} → Option A → List (Option A) → Option A
first_from found [] = found
first_from found (o ∷ os) = first_from (option_or found o) os

-- the first flaw that rules find in the row of this number
abbrev pub flaw_by : {R : Type 0} → Kind → ℕ → List (Rule R) → List R → R → Option MibFault
flaw_by table number rules earlier r = first_from None (map (λ rule. option_map (fault_of table number) (rule earlier r)) rules)
