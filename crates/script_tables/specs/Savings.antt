-- A draft and the tables that were saved. [This profile.]
use Rattle.std.specs.Prelude.{◌≡◌, ◌+◌, ◌-◌, ◌∷◌, [], ℕ, Bool, true, false, List, Option, IfSome, IsSomeAnd, fold, length}
use Rattle.std.specs.List.{slice_index_or}
use Rattle.mib_model.specs.declared.database.Database.{Database}
use Rattle.mib_model.specs.Database.{no_rows}
use Rattle.run_model.specs.DeskLines.{Request}
use Rattle.run_model.specs.DeskWays.{way_of}
use Rattle.tm_audit.specs.Saved.{Desked, after_line, led}
use Rattle.desk_lines.specs.ToCome.{Reading, still}
use Rattle.script_tables.specs.declared.script.ScriptFault.{ScriptFault}
use Rattle.script_tables.specs.declared.script.ScriptFault.TheVariants as faults
use Rattle.tm_io.specs.Causes.{HasRisen}

-- the draft, and the tables of the editions so far
pub record Saving : Type 0 where
  pub draft : Database
  pub saved : List Database

-- the draft of a desk at its start
abbrev pub saving_start : Database → Saving
saving_start first = record { draft = first; saved = first ∷ [] }

-- the tables of the newest edition
abbrev pub newest : Saving → Database
newest s = slice_index_or s.saved (length s.saved - 1) no_rows

-- a desk has this draft, made from the newest edition, and the register has these editions
pub record IsDesked (s : Saving) (d : Desked) : Type 0 where
  pub draft : d.desk.draft ≡ s.draft
  pub base : d.desk.base ≡ newest s
  pub editions : d.register.editions ≡ s.saved

-- a request makes of a desk that stands so one that stands so
abbrev pub Makes : Request → Saving → Saving → Type 0
Makes request old new = (d : Desked) → IsDesked old d → IsDesked new (led d.register (way_of false d.desk request))

-- desks that stand so leave by the lines that are still to come what these desks do
abbrev pub GoesOn : Reading → List ℕ → Saving → Reading → List ℕ → Saving → Type 0
GoesOn was left old now behind new =
    (d : Desked) → IsDesked old d → (e : Desked) × IsDesked new e × (fold after_line d (still was left) ≡ fold after_line e (still now behind))

-- one line was followed, or none was still to come
abbrev pub StepsOn : Bool → Option (List ℕ) → Option (List ℕ) → Reading → Reading → Saving → Saving → Type 0
StepsOn true before after was now old new =
    (now.lines ≡ was.lines + 1) × IfSome before (λ left. IsSomeAnd after (λ behind. GoesOn was left old now behind new))
StepsOn false before after was now old new = (new ≡ old) × IfSome before (λ left. still was left ≡ [])

-- all lines that were still to come were followed
abbrev pub FollowsAll : Reading → Saving → Saving → List ℕ → Type 0
FollowsAll was old new left = (d : Desked) → IsDesked old d → IsDesked new (fold after_line d (still was left))

-- the count of faults rose where the script could not be read, and else stays as it was
abbrev pub HasScriptCause : ScriptFault → ℕ → ℕ → Type 0
HasScriptCause faults.Failed before now = HasRisen before now
HasScriptCause faults.Memory before now = now ≡ before
