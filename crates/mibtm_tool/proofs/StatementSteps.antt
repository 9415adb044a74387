-- What the parts of a call say, as the statement of `tool` puts it together.
use Rattle.std.proofs.Common.{◌≡◌, ◌≢◌, ℕ, Bool, true, false, is_some, List, Option, Some, None, Result, Ok, Err, IfSome, IsOkAnd, inr, ap, sym, refl, ◌∙◌}
use Rattle.mib_model.specs.declared.database.Database.{Database}
use Rattle.mib_model.specs.declared.fault.MibFault.{MibFault}
use Rattle.session.specs.Sources.{Files}
use Rattle.decode_session.specs.Causes.{HasFeedCause, HasOutCause}
use Rattle.run_model.specs.declared.code.Code.TheVariants as code
use Rattle.run_model.specs.declared.code.Input.TheVariants as input
use Rattle.tool_objects.specs.Objects.{ShelfView, SinkView, HasStood, IsUncalled, IsUnwritten}
use Rattle.mibtm_tool.specs.Codes.{code_of_run}
use Rattle.decode_session.specs.Run.{EndsBy}
use Rattle.folder_tables.specs.Refusals.{HasRefusalCause, Refuses, code_of_refusal}
use Rattle.tool_objects.specs.Opened.{AreSound}
use Rattle.tool_objects.specs.Sources.{sound_in}
use Rattle.mibtm_tool.specs.Statement.{Decoded, RanBy}
use Rattle.tool_objects.specs.Told.{OfFile}
use Rattle.folder_tables.specs.declared.folder.Refusal.{Refusal}
use Rattle.folder_tables.specs.declared.folder.Refusal.TheVariants as refusal
use Rattle.decode_session.specs.declared.ending.Stop.TheVariants as stop
use Rattle.decode_session.specs.declared.ending.RunEnd.{RunEnd}
use Rattle.decode_session.specs.declared.ending.RunEnd.TheVariants as end
use Rattle.decode_session.specs.declared.ending.RunFault.{RunFault}
use Rattle.decode_session.specs.declared.ending.RunFault.TheVariants as fault

pub refused_decoded : {T F O : Type 0} (r : Refusal) (folder name : List ℕ) (tables : ShelfView T) (feed : ShelfView F) (out : SinkView O)
    → HasRefusalCause r (tables.faults tables.before) (tables.faults tables.now) → IfSome (tables.holds tables.before) (λ files. Refuses r (sound_in files folder))
    → IsUncalled feed → IsUnwritten out → Decoded (code_of_refusal r) folder name tables feed out
refused_decoded (refusal.Mib fault) folder name tables feed out cause refused uncalled same = (cause, uncalled, same, refused)
refused_decoded refusal.Failed folder name tables feed out cause refused uncalled same = (cause, uncalled, same)
refused_decoded refusal.Memory folder name tables feed out cause refused uncalled same = (cause, ap feed.faults uncalled, same)

-- what is said of the database that the tables are
pub each_told : (S : Result Database MibFault → Type 0) (holds : Option Files) (read : Files → Result Database MibFault) (db : Database) → IfSome holds (λ files. read files ≡ Ok db)
    → S (Ok db) → IfSome holds (λ files. S (read files))
each_told S None read db is said = tt
each_told S (Some files) read db is said = rw is said

-- a file that isn't held
not-held : (held : Bool) (file : Option (List ℕ)) → held ≡ false → held ≡ is_some file → file ≡ None
not-held held None is same = refl
not-held held (Some octets) is same = let bad : false ≡ true = sym is ∙ same in cc bad

missing : (feeds : Option Files) (name : List ℕ) (held : Bool) → held ≡ false → IfSome feeds (λ f. held ≡ is_some (f name)) → IfSome feeds (λ f. f name ≡ None)
missing None name held is said = tt
missing (Some f) name held is said = not-held held (f name) is said

-- the feed isn't there
pub missing_decoded : {T F O : Type 0} (folder name : List ℕ) (tables : ShelfView T) (feed : ShelfView F) (out : SinkView O) (db : Database) (held : Bool)
    → HasStood tables → IfSome (tables.holds tables.before) (λ files. sound_in files folder ≡ Ok db) → HasStood feed → IsUnwritten out
    → held ≡ false → IfSome (feed.holds feed.before) (λ f. held ≡ is_some (f name)) → Decoded (code.NoFile input.Feed) folder name tables feed out
missing_decoded folder name tables feed out db held stood told read same is said = (
  stood,
  read,
  same,
  each_told (λ r. IsOkAnd r (λ d. OfFile feed name (λ found. found ≡ None))) (tables.holds tables.before) (λ files. sound_in files folder) db told
      (missing (feed.holds feed.before) name held is said),
)

module _ {T F O : Type 0} (folder name : List ℕ) (tables : ShelfView T) (feed : ShelfView F) (out : SinkView O) (db : Database) (sound : AreSound db folder tables) where
  pub ran_decoded : (r : Result RunEnd RunFault) → RanBy (EndsBy r (feed.faults feed.before) (feed.faults feed.now)) db name feed out
      → HasFeedCause r (feed.faults feed.before) (feed.faults feed.now) → HasOutCause r (out.faults out.before) (out.faults out.now)
      → (r ≢ Err (fault.Print stop.Out) → out.handed out.before ≡ out.written out.before → out.handed out.now ≡ out.written out.now)
      → (r ≡ Err (fault.Print stop.Memory) → IsUnwritten out) → Decoded (code_of_run r) folder name tables feed out
  ran_decoded (Ok end.Whole) ran read wrote handed untouched = (read, record { stood = wrote; handed = handed (λ is. cc is) }, (db, sound, ran))
  ran_decoded (Ok (end.Cut count)) ran read wrote handed untouched = (read, record { stood = wrote; handed = handed (λ is. cc is) }, (db, sound, ran))
  ran_decoded (Ok end.Limit) ran read wrote handed untouched = (read, record { stood = wrote; handed = handed (λ is. cc is) }, (db, sound, ran))
  ran_decoded (Err fault.Feed) ran read wrote handed untouched = (read, record { stood = wrote; handed = handed (λ is. cc is) }, (db, sound, inr ran))
  ran_decoded (Err (fault.Print stop.Out)) ran read wrote handed untouched = (read, wrote, (db, sound, ran))
  ran_decoded (Err (fault.Print stop.Memory)) ran read wrote handed untouched = (sound.stood, read, untouched refl)
