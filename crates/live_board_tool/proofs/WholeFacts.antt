-- Where nothing fails, a board shows all pages that it should, and a page that isn't accepted is refused.
use Rattle.std.proofs.Common.{◌≡◌, ◌⊎◌, ◌∙◌, ◌==◌, ℕ, Bool, true, false, List, length, Option, None, Some, Ok, Err, IfSome, IsSomeAnd, inl, inr, refl, sym, ap, subst, arith}
use Rattle.board_inputs.specs.Inputs.{AreRefused, Undesked, Unfed, Unpaged}
use Rattle.decode_session.specs.Run.{most_packets}
use Rattle.folder_tables.specs.Refusals.{HasRefusalCause, Refuses}
use Rattle.folder_tables.specs.declared.folder.Refusal.{Refusal}
use Rattle.folder_tables.specs.declared.folder.Refusal.TheVariants as refusal
use Rattle.board_inputs.specs.Inputs.{code_of_refusal}
use Rattle.live_desk.specs.declared.desk_end.DeskEnd.{DeskEnd}
use Rattle.live_desk.specs.DeskEnds.{is_desk_fault, is_reply_fault}
use Rattle.live_session.specs.Live.{ending_of, from, written_to}
use Rattle.run_model.specs.declared.code.Code.{Code}
use Rattle.run_model.specs.declared.code.Code.TheVariants as live
use Rattle.mib_model.specs.declared.database.Database.{Database}
use Rattle.run_model.specs.Endings.{code_of_ending, code_of_rest}
use Rattle.run_model.specs.RegisterHistories.{RegisterHistory}
use Rattle.page_files.specs.Files.{IsPageOf}
use Rattle.page_texts.specs.declared.code.BoardCode.{BoardCode}
use Rattle.page_texts.specs.declared.code.BoardCode.TheVariants as code
use Rattle.page_texts.specs.declared.code.BoardInput.TheVariants as input
use Rattle.page_texts.specs.PageFiles.{bad_line}
use Rattle.session.specs.Sources.{Files}
use Rattle.tm_io.specs.Causes.{HasRisen, RisesWhere}
use Rattle.tool_objects.proofs.CalmFacts.{not-failed, of-file, stood}
use Rattle.tool_objects.specs.Calm.{HoldsCalm, IsCalm, IsCalmSink}
use Rattle.tool_objects.specs.Objects.{ShelfView, SinkView}
use Rattle.tool_objects.specs.Sources.{sound_in}
use Rattle.tool_objects.specs.Told.{OfFile}
use Rattle.tool_words.specs.Boards.{BoardWords}
use Rattle.live_board_tool.specs.Board.{Boarded, IsWanting, Lived, LivesShown}
use Rattle.live_board_tool.specs.Codes.{code_by, code_of_live}
use Rattle.live_board_tool.specs.Whole.{AreThere, CompletesBoard, RefusesBoard, ShowsWhole}

-- a file that is held isn't missing
absent : {S : Type 0} (s : ShelfView S) (files : Files) (name octets : List ℕ) → HoldsCalm s files → files name ≡ Some octets → OfFile s name (λ found. found ≡ None) → ⊥
absent s files name octets calm found none = let bad : Some octets ≡ None = of-file s files name (Some octets) calm found (λ (o : Option (List ℕ)). o ≡ None) none in cc bad

module _ {T F D P : Type 0} (w : BoardWords) (db : Database) (octets script text : List ℕ) (files feeds desks pages : Files)
    (tables : ShelfView T) (feed : ShelfView F) (desk : ShelfView D) (page : ShelfView P)
    (calm_tables : HoldsCalm tables files) (calm_feed : HoldsCalm feed feeds) (calm_desk : HoldsCalm desk desks) (calm_page : HoldsCalm page pages)
    (found : AreThere files feeds desks w db octets script) (paged : pages w.page ≡ Some text) where
  fed : (c : BoardCode) → Unfed c w.feed feed → ⊥
  fed code.Ok said = absurd said
  fed (code.Usage misuse) said = absurd said
  fed (code.BadMib fault) said = absurd said
  fed (code.NoFile input.Feed) (same, none) = absent feed feeds w.feed octets calm_feed found.feed none
  fed (code.NoFile input.Desk) said = absurd said
  fed (code.NoFile input.Page) said = absurd said
  fed (code.Cut octets) said = absurd said
  fed code.TablesFault said = absurd said
  fed code.FeedFault missed = not-failed _ _ calm_feed.calm missed.0
  fed code.DeskFault said = absurd said
  fed code.OutFault said = absurd said
  fed code.ReplyFault said = absurd said
  fed code.Limit said = absurd said
  fed code.Want said = absurd said
  fed code.ScreenFault said = absurd said
  fed code.PageFault said = absurd said
  fed (code.BadPage line) said = absurd said

  asked : (c : BoardCode) → Undesked c w.desk desk → ⊥
  asked code.Ok said = absurd said
  asked (code.Usage misuse) said = absurd said
  asked (code.BadMib fault) said = absurd said
  asked (code.NoFile input.Feed) said = absurd said
  asked (code.NoFile input.Desk) (same, none) = absent desk desks w.desk script calm_desk found.desk none
  asked (code.NoFile input.Page) said = absurd said
  asked (code.Cut octets) said = absurd said
  asked code.TablesFault said = absurd said
  asked code.FeedFault said = absurd said
  asked code.DeskFault missed = not-failed _ _ calm_desk.calm missed.0
  asked code.OutFault said = absurd said
  asked code.ReplyFault said = absurd said
  asked code.Limit said = absurd said
  asked code.Want said = absurd said
  asked code.ScreenFault said = absurd said
  asked code.PageFault said = absurd said
  asked (code.BadPage line) said = absurd said

  unread : (c : BoardCode) (r : Refusal) → c ≡ code_of_refusal r → HasRefusalCause r (tables.faults tables.before) (tables.faults tables.now)
      → IfSome (tables.holds tables.before) (λ f. Refuses r (sound_in f w.folder)) → c ≡ code.Want
  unread c (refusal.Mib fault) is cause said =
      let bad : sound_in files w.folder ≡ Err fault = subst (λ (x : Option Files). IfSome x (λ f. sound_in f w.folder ≡ Err fault)) calm_tables.holds said in
      let good = found.tables in absurd (cc (bad, good))
  unread c refusal.Failed is cause said = absurd (not-failed _ _ calm_tables.calm cause)
  unread c refusal.Memory is cause said = is

  -- no other input was refused than the page
  only-page : (c : BoardCode) → AreRefused c w tables feed desk page → (c ≡ code.Want) ⊎ Unpaged c w.page page
  only-page c (inl (u, unfed, unasked, unpaged)) = inl (unread c u.refusal u.is_code u.cause u.refused)
  only-page c (inr (d, sound, inl (unfed, unasked, unpaged))) = absurd (fed c unfed)
  only-page c (inr (d, sound, inr (inl (turned, undesked, unpaged)))) = absurd (asked c undesked)
  only-page c (inr (d, sound, inr (inr (turned, ready, unpaged)))) = inr unpaged

  good : (c : BoardCode) → {names : List (List ℕ)} → IsPageOf names text → Unpaged c w.page page → c ≡ code.Want
  good code.Ok accepted (none, said) = absurd none
  good (code.Usage misuse) accepted (none, said) = absurd none
  good (code.BadMib fault) accepted (none, said) = absurd none
  good (code.NoFile input.Feed) accepted (none, said) = absurd none
  good (code.NoFile input.Desk) accepted (none, said) = absurd none
  good (code.NoFile input.Page) accepted (same, none) = absurd (absent page pages w.page text calm_page paged none)
  good (code.Cut octets) accepted (none, said) = absurd none
  good code.TablesFault accepted (none, said) = absurd none
  good code.FeedFault accepted (none, said) = absurd none
  good code.DeskFault accepted (none, said) = absurd none
  good code.OutFault accepted (none, said) = absurd none
  good code.ReplyFault accepted (none, said) = absurd none
  good code.Limit accepted (none, said) = absurd none
  good code.Want accepted said = refl
  good code.ScreenFault accepted (none, said) = absurd none
  good code.PageFault accepted (risen, any) = absurd (not-failed _ _ calm_page.calm risen)
  good (code.BadPage line) accepted (same, refused) = absurd (let bad = of-file page pages w.page (Some text) calm_page paged (λ found. IsSomeAnd found (λ octets. bad_line octets ≡ Some line)) refused in let none = accepted.0 in cc (bad, none))

  bad : (c : BoardCode) → {number : ℕ} → bad_line text ≡ Some number → Unpaged c w.page page → (c ≡ code.BadPage number) ⊎ (c ≡ code.Want)
  bad code.Ok is (none, said) = absurd none
  bad (code.Usage misuse) is (none, said) = absurd none
  bad (code.BadMib fault) is (none, said) = absurd none
  bad (code.NoFile input.Feed) is (none, said) = absurd none
  bad (code.NoFile input.Desk) is (none, said) = absurd none
  bad (code.NoFile input.Page) is (same, none) = absurd (absent page pages w.page text calm_page paged none)
  bad (code.Cut octets) is (none, said) = absurd none
  bad code.TablesFault is (none, said) = absurd none
  bad code.FeedFault is (none, said) = absurd none
  bad code.DeskFault is (none, said) = absurd none
  bad code.OutFault is (none, said) = absurd none
  bad code.ReplyFault is (none, said) = absurd none
  bad code.Limit is (none, said) = absurd none
  bad code.Want is said = inr refl
  bad code.ScreenFault is (none, said) = absurd none
  bad code.PageFault is (risen, any) = absurd (not-failed _ _ calm_page.calm risen)
  bad (code.BadPage line) is (same, refused) = inl (let told = of-file page pages w.page (Some text) calm_page paged (λ found. IsSomeAnd found (λ octets. bad_line octets ≡ Some line)) refused in cc (told, is))

-- ---- a run that nothing hinders

-- a screen that stood leaves the code of the live run
plain : (k : Code) → code_by k false ≡ code_of_live k
plain live.Ok = refl
plain (live.Usage misuse) = refl
plain (live.BadMib fault) = refl
plain (live.NoFile name) = refl
plain (live.Cut octets) = refl
plain live.TablesFault = refl
plain live.FeedFault = refl
plain live.DeskFault = refl
plain live.OutFault = refl
plain live.ReplyFault = refl
plain live.Limit = refl
plain live.Want = refl

code-whole : (out_failed feed_failed : Bool) (e : DeskEnd) (rest : List ℕ) (packets : List (List ℕ)) → out_failed ≡ false → feed_failed ≡ false → is_desk_fault e ≡ false → is_reply_fault e ≡ false
    → code_of_ending (ending_of out_failed feed_failed e rest packets) ≡ code_of_rest (length packets == most_packets) (length rest)
unfolding code_of_ending
code-whole out_failed feed_failed e rest packets prints reads asks replies = rw (prints, reads, asks, replies) refl

module _ {F D O R S : Type 0} (feed : ShelfView F) (desk : ShelfView D) (out : SinkView O) (replies : SinkView R) (screen : SinkView S)
    (calm_feed : IsCalm (feed.faults feed.before) (feed.faults feed.now)) (calm_desk : IsCalm (desk.faults desk.before) (desk.faults desk.now))
    (calm_out : IsCalmSink out) (calm_replies : IsCalmSink replies) where
  whole : (c : BoardCode) (k : Code) (history : RegisterHistory) (db : Database) (names : List (List ℕ)) (octets script : List ℕ)
      → LivesShown k false db names history (from feed (Some octets)) (from desk (Some script)) (written_to out) (written_to replies) (written_to screen)
      → c ≡ code_by k false → ShowsWhole c history db names octets script feed desk out replies screen
  whole c k history db names octets script shows is =
      let p = shows.lives.prints in let e = shows.lives.desk_end in
      let prints : p.out_failed ≡ false = stood p.out_failed _ _ calm_out p.out_count in
      let reads : p.feed_failed ≡ false = stood p.feed_failed _ _ calm_feed p.feed_count in
      let asks : is_desk_fault e ≡ false = stood (is_desk_fault e) _ _ calm_desk shows.lives.desk_count in
      let answers : is_reply_fault e ≡ false = stood (is_reply_fault e) _ _ calm_replies shows.lives.replies_count in
      record {
        code = k;
        shows = shows;
        prints = prints;
        reads = reads;
        asks = asks;
        answers = answers;
        none_left = shows.all prints;
        is_code = is ∙ plain k ∙ ap code_of_live (shows.lives.is_code ∙ code-whole p.out_failed p.feed_failed e p.rest p.packets prints reads asks answers);
      }

module _ {T F D P O R S : Type 0} (w : BoardWords) (db : Database) (octets script text : List ℕ) (files feeds desks pages : Files)
    (tables : ShelfView T) (feed : ShelfView F) (desk : ShelfView D) (page : ShelfView P) (out : SinkView O) (replies : SinkView R) (screen : SinkView S)
    (calm_tables : HoldsCalm tables files) (calm_feed : HoldsCalm feed feeds) (calm_desk : HoldsCalm desk desks) (calm_page : HoldsCalm page pages)
    (found : AreThere files feeds desks w db octets script) (paged : pages w.page ≡ Some text) where
  -- which of what is said where no register was closed
  no-run : (c : BoardCode) → (AreRefused c w tables feed desk page ⊎ IsWanting c tables feed desk page) → (c ≡ code.Want) ⊎ Unpaged c w.page page
  no-run c (inl refused) = only-page w db octets script text files feeds desks pages tables feed desk page calm_tables calm_feed calm_desk calm_page found paged c refused
  no-run c (inr wanting) = inl wanting.0

  -- the names of a run are the lines of its page
  named : (names others : List (List ℕ)) → IsPageOf names text → OfFile page w.page (λ file. IsSomeAnd file (IsPageOf others)) → others ≡ names
  named names others is said =
      let told : IsPageOf others text = of-file page pages w.page (Some text) calm_page paged (λ (o : Option (List ℕ)). IsSomeAnd o (IsPageOf others)) said in told.1 ∙ sym is.1

  lived : (c : BoardCode) (history : RegisterHistory) (names : List (List ℕ)) → IsPageOf names text → IsCalmSink out → IsCalmSink replies → IsCalmSink screen
      → Lived c history w tables feed desk page out replies screen → ShowsWhole c history db names octets script feed desk out replies screen
  lived c history names is calm_out calm_replies calm_screen said =
      let r = said.ran in
      let first : sound_in files w.folder ≡ Ok said.first = subst (λ (x : Option Files). IfSome x (λ f. sound_in f w.folder ≡ Ok said.first)) calm_tables.holds said.sound.of_tables in
      let tables_are = found.tables in let is_db : said.first ≡ db = cc (first, tables_are) in
      let is_names : said.names ≡ names = named names said.names is said.paged.text in
      let is_octets : said.octets ≡ Some octets = of-file feed feeds w.feed (Some octets) calm_feed found.feed (λ (o : Option (List ℕ)). IsSomeAnd o (λ l. said.octets ≡ Some l)) said.of_feed in
      let is_lines : said.lines ≡ Some script = of-file desk desks w.desk (Some script) calm_desk found.desk (λ (o : Option (List ℕ)). IsSomeAnd o (λ l. said.lines ≡ Some l)) said.of_desk in
      let is_failed : r.screen_failed ≡ false = stood r.screen_failed _ _ calm_screen r.lives.count in
      whole feed desk out replies screen calm_feed.calm calm_desk.calm calm_out calm_replies c r.code history db names octets script
      (subst (λ (x : Bool × Database × List (List ℕ) × Option (List ℕ) × Option (List ℕ)).
      LivesShown r.code x.0 x.1 x.2 history (from feed x.3) (from desk x.4) (written_to out) (written_to replies) (written_to screen))
      (λ i. (is_failed i, is_db i, is_names i, is_octets i, is_lines i)) r.lives)
      (r.is_code ∙ ap (λ b. code_by r.code b) is_failed)

  pub completes : (c : BoardCode) (closed : Option RegisterHistory) (names : List (List ℕ)) → IsPageOf names text → IsCalmSink out → IsCalmSink replies → IsCalmSink screen
      → Boarded c closed w tables feed desk page out replies screen → CompletesBoard c closed db names octets script feed desk out replies screen
  completes c None names is calm_out calm_replies calm_screen (said, unwritten, unreplied, unshown) = by (no-run c said)
    where
      by : (c ≡ code.Want) ⊎ Unpaged c w.page page → c ≡ code.Want
      by (inl want) = want
      by (inr unpaged) = good w db octets script text files feeds desks pages tables feed desk page calm_tables calm_feed calm_desk calm_page found paged c is unpaged
  completes c (Some history) names is calm_out calm_replies calm_screen said = lived c history names is calm_out calm_replies calm_screen said

  pub refuses : (c : BoardCode) (closed : Option RegisterHistory) (line : ℕ) → bad_line text ≡ Some line → Boarded c closed w tables feed desk page out replies screen
      → RefusesBoard (code.BadPage line) c closed
  refuses c None line is (said, unwritten, unreplied, unshown) = (refl, by (no-run c said))
    where
      by : (c ≡ code.Want) ⊎ Unpaged c w.page page → (c ≡ code.BadPage line) ⊎ (c ≡ code.Want)
      by (inl want) = inr want
      by (inr unpaged) = bad w db octets script text files feeds desks pages tables feed desk page calm_tables calm_feed calm_desk calm_page found paged c is unpaged
  refuses c (Some history) line is said =
      let told : IsPageOf said.names text = of-file page pages w.page (Some text) calm_page paged (λ (o : Option (List ℕ)). IsSomeAnd o (IsPageOf said.names)) said.paged.text in
      let none = told.0 in absurd (cc (none, is))
