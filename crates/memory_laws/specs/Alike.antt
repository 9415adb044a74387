-- Memories that tell the same of values: a raw number that no condition asks may differ. [This profile.]
use Rattle.std.specs.Prelude.{◌≡◌, ℕ, Bool, true, false, List, Option, Some, None, ◌||◌, fold, if◌then◌else◌}
use Rattle.std.specs.List.{AllByRecursion, list_any}
use Rattle.std.specs.Str.{bytes_eq}
use Rattle.mib_model.specs.declared.database.Database.{Database}
use Rattle.mib_model.specs.declared.packet.Value.{Value}
use Rattle.mib_model.specs.declared.rows.PcfRow.{PcfRow}
use Rattle.mib_model.specs.Checks.{checks_of}
use Rattle.mib_model.specs.Curves.{selections}
use Rattle.mib_model.specs.Kept.{Kept, Memory, entered}
use Rattle.mib_model.specs.Parameters.{parameter}

-- whether a condition, if there is one, is on a name
abbrev pub is_on : List ℕ → Option (List ℕ) → Bool
is_on name None = false
is_on name (Some other) = bytes_eq other name

-- whether the validity of a parameter, if there is one, is on a name
abbrev pub is_valid_on : List ℕ → Option PcfRow → Bool
is_valid_on name None = false
is_valid_on name (Some row) = is_on name row.valid

-- whether values of a parameter ask the latest raw number of another name: for their validity, for a selection or for a limit
abbrev pub asks : Database → List ℕ → List ℕ → Bool
asks db name other =
    is_valid_on other (parameter db.pcf name) ||
    list_any (λ row. bytes_eq row.rlchk other) (selections db name) ||
    list_any (λ row. is_on other row.rlchk) (checks_of db name)

-- what is kept of a name is the same, but for the latest raw number where that isn't asked
pub record IsAlike (asked : Bool) (k l : Kept) : Type 0 where
  pub latest : asked ≡ true → k.latest ≡ l.latest
  pub spoken : k.spoken ≡ l.spoken
  pub run : k.run ≡ l.run
  pub previous : k.previous ≡ l.previous

-- what is kept of all names is the same, but for the latest raw numbers of those that aren't asked
abbrev pub AreAlike : (List ℕ → Bool) → Memory → Memory → Type 0
AreAlike asked m n = (name : List ℕ) → IsAlike (asked name) (m name) (n name)

-- the memory after a value, whose raw number is entered where its name is asked
abbrev pub entered_if : (List ℕ → Bool) → Memory → Value → Memory
entered_if asked memory v = if asked v.name then entered memory v else memory

-- the memory after those raw numbers of values were entered, in their order, whose names are asked
abbrev pub all_entered_if : (List ℕ → Bool) → Memory → List Value → Memory
all_entered_if asked memory vs = fold (entered_if asked) memory vs

-- what values of a parameter ask is among the names that are asked
abbrev pub Covers : (List ℕ → Bool) → Database → List ℕ → Type 0
Covers asked db name = (other : List ℕ) → asks db name other ≡ true → asked other ≡ true

-- what these values ask is among them
abbrev pub CoversAll : (List ℕ → Bool) → Database → List Value → Type 0
CoversAll asked db vs = AllByRecursion (λ v. Covers asked db v.name) vs

-- what is told is the same, and the memories behind it are alike
abbrev pub TellAlike : {T : Type 0} → (List ℕ → Bool) → Memory × T → Memory × T → Type 0
TellAlike asked f g = (f.1 ≡ g.1) × AreAlike asked f.0 g.0
