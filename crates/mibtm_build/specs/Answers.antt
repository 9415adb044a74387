-- What a line comes to. [This profile.]
use Rattle.std.specs.Prelude.{◌≡◌, ◌≢◌, ℕ, List, [], ◌∷◌, take, Some, None, Result, Ok, Err}
use Rattle.mib_model.specs.declared.database.Database.{Database}
use Rattle.build_rules.specs.declared.fault.BuildFault.{BuildFault}
use Rattle.build_rules.specs.declared.fault.BuildFault.TheVariants.{Memory}
use Rattle.build_rules.specs.Asks.{answered}

-- so many octets at the front are the packet of a line, none for one that is passed over, or the line is refused for this fault; want of
-- memory may come instead
abbrev pub Answers : Database → Result ℕ BuildFault → List ℕ → List ℕ → Type 0
Answers db (Ok octets) line into = (place : ℕ) → answered db place (line ∷ []) ≡ (take octets into, None)
Answers db (Err fault) line into = fault ≢ Memory → (place : ℕ) → answered db place (line ∷ []) ≡ ([], Some (place, fault))
