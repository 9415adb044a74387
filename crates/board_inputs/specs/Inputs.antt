-- The inputs of a board: what is said of them where they were opened, and where one was not to be had. [This profile.]
use Rattle.std.specs.Prelude.{◌≡◌, ◌⊎◌, ℕ, List, None, IfSome, IsSomeAnd}
use Rattle.folder_tables.specs.Refusals.{HasRefusalCause, Refuses}
use Rattle.folder_tables.specs.declared.folder.Refusal.{Refusal}
use Rattle.folder_tables.specs.declared.folder.Refusal.TheVariants as refusal
use Rattle.mib_model.specs.declared.database.Database.{Database}
use Rattle.page_files.specs.Files.{HasPageCause, IsPageOf, RefusesFile}
use Rattle.page_texts.specs.declared.code.BoardCode.{BoardCode}
use Rattle.page_texts.specs.declared.code.BoardCode.TheVariants as code
use Rattle.page_texts.specs.declared.code.BoardInput.TheVariants as input
use Rattle.tool_objects.specs.Objects.{ShelfView, HasStood, IsUncalled}
use Rattle.tool_objects.specs.Opened.{AreSound, IsTurned}
use Rattle.tool_objects.specs.Sources.{sound_in}
use Rattle.tool_objects.specs.Told.{HasMissed, OfFile}
use Rattle.tool_words.specs.Boards.{BoardWords}

-- the end of a board whose tables are refused so
abbrev pub code_of_refusal : Refusal → BoardCode
code_of_refusal (refusal.Mib fault) = code.BadMib fault
code_of_refusal refusal.Failed = code.TablesFault
code_of_refusal refusal.Memory = code.Want

-- a feed was not to be had: its file isn't held, or the turn to it failed
abbrev pub Unfed : {F : Type 0} → BoardCode → List ℕ → ShelfView F → Type 0
Unfed (code.NoFile input.Feed) name feed = HasStood feed × OfFile feed name (λ found. found ≡ None)
Unfed code.FeedFault name feed = HasMissed feed
Unfed other name feed = ⊥

-- a desk was not to be had
abbrev pub Undesked : {D : Type 0} → BoardCode → List ℕ → ShelfView D → Type 0
Undesked (code.NoFile input.Desk) name desk = HasStood desk × OfFile desk name (λ found. found ≡ None)
Undesked code.DeskFault name desk = HasMissed desk
Undesked other name desk = ⊥

-- the names of a page were not to be had
abbrev pub Unpaged : {P : Type 0} → BoardCode → List ℕ → ShelfView P → Type 0
Unpaged c name page = HasPageCause c (page.faults page.before) (page.faults page.now) × OfFile page name (RefusesFile c)

-- the file of that name has these names, which is held where the shelf tells that
pub record IsPaged {P : Type 0} (names : List (List ℕ)) (name : List ℕ) (page : ShelfView P) : Type 0 where
  pub stood : HasStood page
  pub text : OfFile page name (λ found. IsSomeAnd found (IsPageOf names))

-- feed and desk stand at the start of their files, and these are the names of the page
pub record AreHad {F D P : Type 0} (names : List (List ℕ)) (w : BoardWords) (feed : ShelfView F) (desk : ShelfView D) (page : ShelfView P) : Type 0 where
  pub of_feed : IsTurned w.feed feed
  pub of_desk : IsTurned w.desk desk
  pub of_page : IsPaged names w.page page

-- the first of feed, desk and page that was not to be had, and those behind it weren't called
abbrev pub AreNotHad : {F D P : Type 0} → BoardCode → BoardWords → ShelfView F → ShelfView D → ShelfView P → Type 0
AreNotHad c w feed desk page =
    (Unfed c w.feed feed × IsUncalled desk × IsUncalled page)
    ⊎ ((IsTurned w.feed feed × Undesked c w.desk desk × IsUncalled page) ⊎ (IsTurned w.feed feed × IsTurned w.desk desk × Unpaged c w.page page))

-- sound tables were not to be had: they are refused, they failed, or memory ran out
pub record AreUnread {T : Type 0} (c : BoardCode) (folder : List ℕ) (tables : ShelfView T) : Type 0 where
  pub refusal : Refusal
  pub is_code : c ≡ code_of_refusal refusal
  pub cause : HasRefusalCause refusal (tables.faults tables.before) (tables.faults tables.now)
  pub refused : IfSome (tables.holds tables.before) (λ files. Refuses refusal (sound_in files folder))

-- all inputs were opened: sound tables, feed and desk at the start of their files, and the names of the page
pub record AreOpened {T F D P : Type 0} (db : Database) (names : List (List ℕ)) (w : BoardWords) (tables : ShelfView T) (feed : ShelfView F)
    (desk : ShelfView D) (page : ShelfView P) : Type 0 where
  pub sound : AreSound db w.folder tables
  pub had : AreHad names w feed desk page

-- the first input that was not to be had, with this end; those behind it weren't called
abbrev pub AreRefused : {T F D P : Type 0} → BoardCode → BoardWords → ShelfView T → ShelfView F → ShelfView D → ShelfView P → Type 0
AreRefused c w tables feed desk page =
    (AreUnread c w.folder tables × IsUncalled feed × IsUncalled desk × IsUncalled page)
    ⊎ ((db : Database) × AreSound db w.folder tables × AreNotHad c w feed desk page)
