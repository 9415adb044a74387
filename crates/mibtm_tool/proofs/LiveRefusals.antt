-- A live run over tables that are refused, or whose feed isn't there.
use Rattle.std.proofs.Common.{◌≡◌, ◌⊎◌, List, ℕ, Option, Some, None, Result, Ok, Err, IfSome, IsOkAnd, IsSomeAnd, refl, sym, ◌∙◌, subst, inl, inr}
use Rattle.std.specs.Prelude.{⊤}
use Rattle.run_model.specs.declared.code.Code.{Code}
use Rattle.run_model.specs.declared.code.Code.TheVariants as code
use Rattle.run_model.specs.declared.code.Input.TheVariants as input
use Rattle.mib_model.specs.declared.database.Database.{Database}
use Rattle.mib_model.specs.declared.fault.MibFault.{MibFault}
use Rattle.run_model.specs.RegisterHistories.{RegisterHistory}
use Rattle.session.specs.Sources.{Files}
use Rattle.mibtm_tool.proofs.Completeness.{told}
use Rattle.tool_objects.proofs.CalmFacts.{not-failed}
use Rattle.mibtm_tool.specs.Live.{RefusesLive}
use Rattle.tool_objects.specs.Objects.{SinkView}
use Rattle.tool_objects.specs.Sources.{sound_in}
use Rattle.mibtm_tool.specs.Statement.{LivedBy, Names, Shelves, Unopened}
use Rattle.tool_objects.specs.Told.{ByTables, OfFile}
use Rattle.mibtm_tool.specs.Tool.{Held, IsSteady}

-- what isn't sound is no database of which something is said
not-sound : (holds : Option Files) (read : Files → Result Database MibFault) (files : Files) (fault : MibFault) (P : Database → Type 0) → holds ≡ Some files → read files ≡ Err fault
    → IfSome holds (λ f. IsOkAnd (read f) P) → ⊥
not-sound holds read files fault P is bad said =
    subst (λ (r : Result Database MibFault). IsOkAnd r P) bad (subst (λ (x : Option Files). IfSome x (λ f. IsOkAnd (read f) P)) is said)

-- nor is a file there that isn't held
not-there : (holds : Option Files) (files : Files) (name : List ℕ) (P : List ℕ → Type 0) → holds ≡ Some files → files name ≡ None → IfSome holds (λ f. IsSomeAnd (f name) P) → ⊥
not-there holds files name P is none said =
    subst (λ (x : Option (List ℕ)). IsSomeAnd x P) none (subst (λ (x : Option Files). IfSome x (λ f. IsSomeAnd (f name) P)) is said)

module _ {T F D O P : Type 0} (names : Names) (files : Files) (fault : MibFault) (s : Shelves T F D) (out : SinkView O) (replies : SinkView P)
    (holds : Held s.tables files) (bad : sound_in files names.folder ≡ Err fault) (steady : IsSteady s.tables) where
  never : (P : Database → Type 0) → ByTables s.tables (λ f. sound_in f names.folder) P → ⊥
  never P said = not-sound (s.tables.holds s.tables.before) (λ f. sound_in f names.folder) files fault P holds bad said

  refused : (c : Code) → Unopened c names s → (c ≡ code.BadMib fault) ⊎ (c ≡ code.Want)
  refused code.Want said = inr refl
  refused (code.BadMib other) (same, uncalled, unasked, is) =
      let err : sound_in files names.folder ≡ Err other = subst (λ (x : Option Files). IfSome x (λ f. sound_in f names.folder ≡ Err other)) holds is in
      inl (cc (err, bad))
  refused (code.NoFile input.Feed) (same, still, unasked, missing) = absurd (never _ missing)
  refused (code.NoFile input.Desk) (same, still, calm, missing) = absurd (never _ missing)
  refused code.TablesFault (failed, uncalled, unasked) = absurd (not-failed _ _ steady failed)
  refused code.FeedFault (same, missed, unasked, sound) = absurd (never _ sound)
  refused code.DeskFault (same, still, missed, found) = absurd (never _ found)
  refused code.Ok said = absurd said
  refused (code.Usage misuse) said = absurd said
  refused (code.Cut count) said = absurd said
  refused code.OutFault said = absurd said
  refused code.ReplyFault said = absurd said
  refused code.Limit said = absurd said

  pub refuses_tables : (c : Code) (closed : Option RegisterHistory) → LivedBy c closed names s out replies → RefusesLive (code.BadMib fault) c closed
  refuses_tables c None (said, unwritten, unreplied) = (refl, refused c said)
  refuses_tables c (Some history) said =
      let good : sound_in files names.folder ≡ Ok said.first = subst (λ (x : Option Files). IfSome x (λ f. sound_in f names.folder ≡ Ok said.first)) holds said.of_tables in
      absurd (cc (good, bad))

module _ {T F D O P : Type 0} (names : Names) (files feeds : Files) (db : Database) (s : Shelves T F D) (out : SinkView O) (replies : SinkView P)
    (holds : Held s.tables files) (sound : sound_in files names.folder ≡ Ok db) (feed_holds : Held s.feed feeds) (none : feeds names.feed ≡ None)
    (steady : IsSteady s.tables) (feed_steady : IsSteady s.feed) where
  nowhere : (P : Database → List ℕ → Type 0) → ByTables s.tables (λ f. sound_in f names.folder) (λ d. OfFile s.feed names.feed (λ found. IsSomeAnd found (P d))) → ⊥
  nowhere P said =
      not-there (s.feed.holds s.feed.before) feeds names.feed (P db) feed_holds none
      (told (s.tables.holds s.tables.before) (λ f. sound_in f names.folder) files db (λ d. OfFile s.feed names.feed (λ found. IsSomeAnd found (P d))) holds sound said)

  missing : (c : Code) → Unopened c names s → (c ≡ code.NoFile input.Feed) ⊎ (c ≡ code.Want)
  missing code.Want said = inr refl
  missing (code.BadMib fault) (same, uncalled, unasked, is) =
      let err : sound_in files names.folder ≡ Err fault = subst (λ (x : Option Files). IfSome x (λ f. sound_in f names.folder ≡ Err fault)) holds is in
      absurd (cc (err, sound))
  missing (code.NoFile input.Feed) said = inl refl
  missing (code.NoFile input.Desk) (same, still, calm, gone) = absurd (nowhere (λ d octets. OfFile s.desk names.desk (λ desk. desk ≡ None)) gone)
  missing code.TablesFault (failed, uncalled, unasked) = absurd (not-failed _ _ steady failed)
  missing code.FeedFault (same, missed, unasked, told) = absurd (not-failed _ _ feed_steady missed.0)
  missing code.DeskFault (same, still, missed, found) = absurd (nowhere (λ d octets. ⊤) found)
  missing code.Ok said = absurd said
  missing (code.Usage misuse) said = absurd said
  missing (code.Cut count) said = absurd said
  missing code.OutFault said = absurd said
  missing code.ReplyFault said = absurd said
  missing code.Limit said = absurd said

  pub refuses_feed : (c : Code) (closed : Option RegisterHistory) → LivedBy c closed names s out replies → RefusesLive (code.NoFile input.Feed) c closed
  refuses_feed c None (said, unwritten, unreplied) = (refl, missing c said)
  refuses_feed c (Some history) said = absurd (not-there (s.feed.holds s.feed.before) feeds names.feed (λ o. said.octets ≡ Some o) feed_holds none said.of_feed)
