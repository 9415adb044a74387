-- Curves that are kept by name.
use Rattle.std.proofs.Common.{◌≡◌, ℕ, List, [], Option}
use Rattle.std.specs.declared.sync.Arc.{Arc}
use Rattle.std.specs.HashMap.{HashMap}
use Rattle.mib_model.specs.declared.plan.CurveRows.{CurveRows}
use Rattle.param_set.specs.Compiled.{AreNamed}

-- of none that are kept there is nothing to say
pub none-named : {Z S : Type 0} (named : List ℕ → Option CurveRows) (kept : HashMap (List ℕ) (Arc CurveRows Z) S) → kept.entries ≡ [] → AreNamed named kept
none-named named kept empty name = rw empty tt
