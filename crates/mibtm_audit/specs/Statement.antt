-- The statement of `audit_tool`: what a call shows of the objects that it is handed, by the status that it answers. [This profile.]
use Rattle.std.specs.Prelude.{◌≡◌, ◌⊎◌, ℕ, List, Option, Some, None, Result, Ok, Err, IfSome, IsSomeAnd, length, ⊤}
use Rattle.std.specs.Io.KnownBytes.{Appends}
use Rattle.tm_io.specs.Causes.{HasRisen}
use Rattle.tm_io.specs.Octets.{AppendsPrefix}
use Rattle.session.specs.Sources.{part_read}
use Rattle.whole_texts.specs.declared.text_fault.TextFault.{TextFault}
use Rattle.whole_texts.specs.declared.text_fault.TextFault.TheVariants as texts
use Rattle.mib_model.specs.declared.fault.MibFault.{MibFault}
use Rattle.run_model.specs.declared.code.Misuse.{Misuse}
use Rattle.mib_model.specs.declared.database.Database.{Database}
use Rattle.tm_audit.specs.declared.code.AuditCode.{AuditCode}
use Rattle.tm_audit.specs.declared.code.AuditCode.TheVariants as code
use Rattle.tm_audit.specs.declared.code.AuditInput.TheVariants as input
use Rattle.tm_audit.specs.Audit.{refused}
use Rattle.tm_audit.specs.Codes.{finding_text}
use Rattle.tm_audit.specs.Saved.{saved_tables}
use Rattle.tool_objects.specs.Objects.{ShelfView, SinkView, HasStood, HasFailed, IsUncalled, IsUnwritten, HasBroken, IsHandedOn, Took}
use Rattle.tool_objects.specs.Opened.{AreSound}
use Rattle.tool_objects.specs.Sources.{sound_in}
use Rattle.tool_objects.specs.Told.{HasMissed, HasTurned, OfFile, StoodAt}
use Rattle.mibtm_audit.specs.Operands.{Named}
use Rattle.mibtm_audit.specs.Courses.{Against}
use Rattle.mibtm_audit.specs.Comparing.{Compares}

-- what is said of inputs, where words name them
abbrev pub IfInputs : Result Named Misuse → (Named → Type 0) → Type 0
IfInputs (Ok names) says = says names
IfInputs other says = ⊤

-- ---- tables

-- tables are refused with just the fault that reading them gives
abbrev pub Refuses : {Made : Type 0} → AuditCode → Result Made MibFault → Type 0
Refuses (code.BadMib fault) read = read ≡ Err fault
Refuses other read = ⊤

-- the count of the tables rose where they failed, and else stands; no other code comes of tables
abbrev pub HasTablesCause : AuditCode → ℕ → ℕ → Type 0
HasTablesCause (code.BadMib fault) before now = now ≡ before
HasTablesCause code.TablesFault before now = HasRisen before now
HasTablesCause code.Want before now = now ≡ before
HasTablesCause other before now = ⊥

-- the tables of a folder were not to be had: they are refused, they failed, or memory ran out
abbrev pub Unread : {T : Type 0} → AuditCode → List ℕ → ShelfView T → Type 0
Unread c folder tables =
    HasTablesCause c (tables.faults tables.before) (tables.faults tables.now) × IfSome (tables.holds tables.before) (λ files. Refuses c (sound_in files folder))

-- ---- the script

-- the script was not to be had: it isn't there, it failed, or memory ran out
abbrev pub Unscripted : {D : Type 0} → AuditCode → List ℕ → ShelfView D → Type 0
Unscripted (code.NoFile input.Desk) name desk = HasStood desk × OfFile desk name (λ found. found ≡ None)
Unscripted code.DeskFault name desk = HasFailed desk
Unscripted code.Want name desk = HasStood desk
Unscripted other name desk = ⊥

-- the count of the script rose where it failed, and else stands
abbrev pub HasScriptCause : AuditCode → ℕ → ℕ → Type 0
HasScriptCause code.DeskFault before now = HasRisen before now
HasScriptCause code.Want before now = now ≡ before
HasScriptCause other before now = ⊥

-- the script was read, and it saves these tables behind the first
pub record Scripted {D : Type 0} (first : Database) (saved : List Database) (name : List ℕ) (desk : ShelfView D) : Type 0 where
  pub stood : HasStood desk
  pub turned : HasTurned desk
  pub octets : Option (List ℕ)
  pub of_desk : StoodAt desk name octets
  pub saves : IfSome octets (λ script. saved ≡ saved_tables first script)

-- ---- the text

-- the text was not to be had: it isn't there, it failed, or memory ran out
abbrev pub Untold : {X : Type 0} → AuditCode → List ℕ → ShelfView X → Type 0
Untold (code.NoFile input.Text) name text = HasStood text × OfFile text name (λ found. found ≡ None)
Untold code.TextFault name text = HasFailed text
Untold code.Want name text = HasStood text
Untold other name text = ⊥

-- the end of an audit for which a text wasn't read
abbrev pub unread_code : TextFault → AuditCode
unread_code texts.Failed = code.TextFault
unread_code texts.Memory = code.Want

-- the count of the text rose where it failed, and else stands
abbrev pub HasTextCause : AuditCode → ℕ → ℕ → Type 0
HasTextCause code.TextFault before now = HasRisen before now
HasTextCause code.Want before now = now ≡ before
HasTextCause other before now = ⊥

-- the text was turned to and didn't fail, and this is said of it
pub record ReadSo {X : Type 0} (says : List ℕ → Type 0) (name : List ℕ) (text : ShelfView X) : Type 0 where
  pub stood : HasStood text
  pub turned : HasTurned text
  pub of_text : OfFile text name (λ found. IsSomeAnd found says)

-- these octets were read of the text: all of it, or one more than is audited
abbrev pub IsTextRead : {X : Type 0} → List ℕ → List ℕ → ShelfView X → Type 0
IsTextRead octets name text = ReadSo (λ all. octets ≡ part_read all) name text

-- the text was read, and this is it
abbrev pub TextRead : {X : Type 0} → List ℕ → List ℕ → ShelfView X → Type 0
TextRead all name text = ReadSo (λ octets. octets ≡ all) name text

-- ---- the feed

-- the feed was not to be had: it isn't there, or the turn to it failed
abbrev pub Unfed : {F : Type 0} → AuditCode → List ℕ → ShelfView F → Type 0
Unfed (code.NoFile input.Feed) name feed = HasStood feed × OfFile feed name (λ found. found ≡ None)
Unfed code.FeedFault name feed = HasMissed feed
Unfed other name feed = ⊥

-- the feed failed just with its fault
abbrev pub HasFeedCause : {F : Type 0} → AuditCode → ShelfView F → Type 0
HasFeedCause code.FeedFault feed = HasFailed feed
HasFeedCause other feed = HasStood feed

-- the text was compared with what is expected of the feed, from its start on
pub record Compared {F : Type 0} (c : AuditCode) (a : Against) (name : List ℕ) (feed : ShelfView F) : Type 0 where
  pub turned : HasTurned feed
  pub cause : HasFeedCause c feed
  pub octets : Option (List ℕ)
  pub of_feed : StoodAt feed name octets
  pub compares : Compares c a octets (feed.left feed.now)

-- ---- what is told

-- the line of a finding was written and handed on, or the output failed
abbrev pub Tells : {O : Type 0} → AuditCode → AuditCode → SinkView O → Type 0
Tells found c out =
    ((c ≡ found) × Took out (λ old new. Appends old new (finding_text found)) × IsHandedOn out)
    ⊎ ((c ≡ code.OutFault) × Took out (λ old new. AppendsPrefix old new (finding_text found)) × HasBroken out)

-- what a comparison found is told; nothing is where it found nothing
abbrev pub Reports : {O : Type 0} → AuditCode → AuditCode → SinkView O → Type 0
Reports code.Same c out = Tells code.Same c out
Reports (code.Differs line) c out = Tells (code.Differs line) c out
Reports other c out = (c ≡ other) × IsUnwritten out

-- a text that isn't refused by itself, held against a feed: the feed was not to be had, or it was compared and this was found
abbrev pub ByFeed : {F O : Type 0} → AuditCode → Against → List ℕ → ShelfView F → SinkView O → Type 0
ByFeed c a name feed out =
    (Unfed c name feed × IsUnwritten out) ⊎ ((found : AuditCode) × Compared found a name feed × Reports found c out)

-- a text: it is refused by itself, before the feed is called, or held against the feed
abbrev pub ByOctets : {F O : Type 0} → AuditCode → Against → List ℕ → ShelfView F → SinkView O → Type 0
ByOctets c a name feed out =
    ((found : AuditCode) × (refused (length a.saved) a.text ≡ Some found) × IsUncalled feed × Tells found c out)
    ⊎ ((refused (length a.saved) a.text ≡ None) × ByFeed c a name feed out)

-- tables and what a script saves: the text was not to be had, or was audited
abbrev pub ByText : {X F O : Type 0} → AuditCode → Database → List Database → Named → ShelfView X → ShelfView F → SinkView O → Type 0
ByText c first saved names text feed out =
    (Untold c names.text text × IsUncalled feed × IsUnwritten out)
    ⊎ ((octets : List ℕ) × TextRead octets names.text text × ByOctets c (record { first = first; saved = saved; text = octets }) names.feed feed out)

-- sound tables: the script was not to be had, or the text was audited by what it saves
abbrev pub ByScript : {D X F O : Type 0} → AuditCode → Database → Named → ShelfView D → ShelfView X → ShelfView F → SinkView O → Type 0
ByScript c first names desk text feed out =
    (Unscripted c names.desk desk × IsUncalled text × IsUncalled feed × IsUnwritten out)
    ⊎ ((saved : List Database) × Scripted first saved names.desk desk × ByText c first saved names text feed out)

-- what a call says of its objects
abbrev pub Audited : {T D X F O : Type 0} → AuditCode → Named → ShelfView T → ShelfView D → ShelfView X → ShelfView F → SinkView O → Type 0
Audited c names tables desk text feed out =
    (Unread c names.folder tables × IsUncalled desk × IsUncalled text × IsUncalled feed × IsUnwritten out)
    ⊎ ((db : Database) × AreSound db names.folder tables × ByScript c db names desk text feed out)
