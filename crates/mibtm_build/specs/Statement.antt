-- The statement of `build_tool`: what a call shows of the objects that it is handed, by the status that it answers. [This profile.]
use Rattle.std.specs.Prelude.{◌≡◌, ◌≤◌, ◌⊎◌, ℕ, List, Option, None, Result, Ok, Err, IfSome, ⊤}
use Rattle.tm_io.specs.Causes.{HasRisen}
use Rattle.mib_model.specs.declared.fault.MibFault.{MibFault}
use Rattle.run_model.specs.declared.code.Input.TheVariants as input
use Rattle.run_model.specs.declared.code.Misuse.{Misuse}
use Rattle.mib_model.specs.declared.database.Database.{Database}
use Rattle.tool_objects.specs.Objects.{ShelfView, SinkView, HasStood, HasFailed, IsUncalled, IsUnwritten, HasBroken, IsHandedOn}
use Rattle.tool_objects.specs.Opened.{AreSound}
use Rattle.tool_objects.specs.Sources.{sound_in}
use Rattle.tool_objects.specs.Told.{HasMissed, HasTurned, OfFile, StoodAt}
use Rattle.mibtm_build.specs.declared.code.BuildCode.{BuildCode}
use Rattle.mibtm_build.specs.declared.code.BuildCode.TheVariants as code
use Rattle.mibtm_build.specs.Operands.{Named}
use Rattle.mibtm_build.specs.Runs.{Ran}

-- what is said of inputs, where words name them
abbrev pub IfInputs : Result Named Misuse → (Named → Type 0) → Type 0
IfInputs (Ok names) says = says names
IfInputs other says = ⊤

-- tables are refused with just the fault that reading them gives
abbrev pub Refuses : {Made : Type 0} → BuildCode → Result Made MibFault → Type 0
Refuses (code.BadMib fault) read = read ≡ Err fault
Refuses other read = ⊤

-- the count of the tables rose where they failed, and else stands; no other code comes of tables
abbrev pub HasTablesCause : BuildCode → ℕ → ℕ → Type 0
HasTablesCause (code.BadMib fault) before now = now ≡ before
HasTablesCause code.TablesFault before now = HasRisen before now
HasTablesCause code.Want before now = now ≡ before
HasTablesCause other before now = ⊥

-- the tables of a folder were not to be had: they are refused, they failed, or memory ran out
abbrev pub Unread : {T : Type 0} → BuildCode → List ℕ → ShelfView T → Type 0
Unread c folder tables =
    HasTablesCause c (tables.faults tables.before) (tables.faults tables.now) × IfSome (tables.holds tables.before) (λ files. Refuses c (sound_in files folder))

-- the asks were not to be had, and no line was answered: they aren't there, the turn to them failed, or memory ran out
abbrev pub Unasked : {D : Type 0} → BuildCode → List ℕ → ShelfView D → Type 0
Unasked (code.NoFile input.Desk) name asks = HasStood asks × OfFile asks name (λ found. found ≡ None)
Unasked code.DeskFault name asks = HasMissed asks
Unasked code.Want name asks = HasStood asks
Unasked other name asks = ⊥

-- how the objects stand behind a run, by its code: the asks failed just with their fault, the output just with its
abbrev pub HasStopped : {D O : Type 0} → BuildCode → ShelfView D → SinkView O → Type 0
HasStopped code.DeskFault asks out = HasFailed asks × IsHandedOn out
HasStopped code.OutFault asks out = HasBroken out × ((asks.faults asks.before) ≤ (asks.faults asks.now))
HasStopped other asks out = HasStood asks × IsHandedOn out

-- what a run wrote was handed on, and it ended as before; or the output failed, then or before
abbrev pub HandsOn : BuildCode → BuildCode → ℕ → ℕ → Option (List ℕ) → Option (List ℕ) → Type 0
HandsOn c end before now handed written =
    ((end ≡ c) × (now ≡ before) × ((c ≡ code.OutFault) ⊎ (handed ≡ written))) ⊎ ((end ≡ code.OutFault) × HasRisen before now)

-- the asks of that name were answered by this database, from the start of their file on
pub record RunsBy {D O : Type 0} (c : BuildCode) (db : Database) (name : List ℕ) (asks : ShelfView D) (out : SinkView O) : Type 0 where
  pub turned : HasTurned asks
  pub octets : Option (List ℕ)
  pub of_asks : StoodAt asks name octets
  pub stopped : HasStopped c asks out
  pub ran : Ran c db octets (asks.left asks.now) (out.written out.before) (out.written out.now)

-- the asks by a database: none was answered, or some were
abbrev pub Asks : {D O : Type 0} → BuildCode → Database → List ℕ → ShelfView D → SinkView O → Type 0
Asks c db name asks out = (Unasked c name asks × IsUnwritten out) ⊎ RunsBy c db name asks out

-- what a call says of its objects
abbrev pub Built : {T D O : Type 0} → BuildCode → Named → ShelfView T → ShelfView D → SinkView O → Type 0
Built c names tables asks out =
    (Unread c names.folder tables × IsUncalled asks × IsUnwritten out)
    ⊎ ((db : Database) × AreSound db names.folder tables × Asks c db names.asks asks out)
