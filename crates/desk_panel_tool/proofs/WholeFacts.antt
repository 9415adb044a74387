-- Where nothing fails, a panel runs whole, and an input that isn't accepted or isn't there is refused.
use Rattle.std.proofs.Common.{◌≡◌, ◌⊎◌, ◌∙◌, ◌||◌, ◌==◌, ◌<◌, ℕ, Bool, true, false, cond, not, List, [], ◌∷◌, length, map, Option, None, Some, Ok, Err, IfSome, IsSomeAnd, inl, inr, refl, sym, ap, subst, arith}
use Rattle.std.specs.Prelude.{suc, ⊤}
use Rattle.std.specs.List.{AllByRecursion, list_any}
use Rattle.decode_session.specs.Run.{most_packets}
use Rattle.desk_panel_tool.specs.Inputs.{AreNotTurned, AreRefused}
use Rattle.desk_panel_tool.specs.Panel.{AreOf, IsWanting, Paneled, Ran, StoodAtEach}
use Rattle.desk_panel_tool.specs.Stations.{StationView}
use Rattle.desk_panel_tool.specs.Whole.{AreCalm, AreHeld, AreThere, CompletesPanel, OneIsMissing, RefusesPanel, RunsWhole, SomeStation, TellsFaults}
use Rattle.live_session.specs.Live.{from, written_to}
use Rattle.folder_tables.specs.Refusals.{HasRefusalCause, Refuses, code_of_refusal}
use Rattle.folder_tables.specs.declared.folder.Refusal.{Refusal}
use Rattle.folder_tables.specs.declared.folder.Refusal.TheVariants as refusal
use Rattle.live_desk.specs.declared.desk_end.DeskEnd.{DeskEnd}
use Rattle.live_desk.specs.DeskEnds.{is_desk_fault, is_reply_fault}
use Rattle.run_model.specs.declared.code.Code.{Code}
use Rattle.run_model.specs.declared.code.Code.TheVariants as code
use Rattle.run_model.specs.declared.code.Input.TheVariants as input
use Rattle.mib_model.specs.declared.database.Database.{Database}
use Rattle.mib_model.specs.declared.fault.MibFault.{MibFault}
use Rattle.run_model.specs.Endings.{code_of_ending, code_of_rest}
use Rattle.run_model.specs.RegisterHistories.{RegisterHistory}
use Rattle.panel_session.specs.Panel.{LivesPanel, StandInOrder, Station, panel_ending}
use Rattle.session.specs.Sources.{Files}
use Rattle.tm_io.specs.Causes.{HasRisen, RisesWhere}
use Rattle.tool_objects.proofs.CalmFacts.{not-failed, of-file, stood}
use Rattle.tool_objects.specs.Calm.{HoldsCalm, IsCalm, IsCalmSink}
use Rattle.tool_objects.specs.Objects.{ShelfView, SinkView}
use Rattle.tool_objects.specs.Opened.{IsUnturned}
use Rattle.tool_objects.specs.Sources.{sound_in}
use Rattle.tool_words.specs.Panels.{PanelWords}

-- a shelf that holds a file and doesn't fail is turned to it
turned : {S : Type 0} (missing fault c : Code) (name octets : List ℕ) (s : ShelfView S) (files : Files) → HoldsCalm s files → files name ≡ Some octets → IsUnturned missing fault c name s → ⊥
turned missing fault c name octets s files calm is (inl (is_code, same, none)) =
    let bad : Some octets ≡ None = of-file s files name (Some octets) calm is (λ (o : Option (List ℕ)). o ≡ None) none in cc bad
turned missing fault c name octets s files calm is (inr (is_code, failed)) = not-failed _ _ calm.calm failed.0

-- so are all desks
all-turned : {D R : Type 0} (c : Code) (names scripts : List (List ℕ)) (stations : List (StationView D R)) (desks : List Files) → AreCalm stations desks → AreHeld desks names scripts
    → AreNotTurned c names stations → ⊥
all-turned c [] scripts stations desks calm held said = absurd said
all-turned c (name ∷ names) scripts [] desks calm held said = absurd said
all-turned c (name ∷ names) scripts (s ∷ stations) [] calm held said = absurd calm
all-turned c (name ∷ names) [] (s ∷ stations) (files ∷ desks) calm held said = absurd held
all-turned c (name ∷ names) (script ∷ scripts) (s ∷ stations) (files ∷ desks) (one, calm) (is, held) (inl (unturned, same, others)) =
    turned (code.NoFile input.Desk) code.DeskFault c name script s.desk files one.0 is unturned
all-turned c (name ∷ names) (script ∷ scripts) (s ∷ stations) (files ∷ desks) (one, calm) (is, held) (inr (done, same, said)) =
    all-turned c names scripts stations desks calm held said

-- what desks had left as a run opened are their scripts
scripts-of : {D R : Type 0} (names scripts : List (List ℕ)) (stations : List (StationView D R)) (desks : List Files) (lines : List (Option (List ℕ))) → AreCalm stations desks → AreHeld desks names scripts
    → StoodAtEach names stations lines → lines ≡ map (λ script. Some script) scripts
scripts-of [] [] [] [] [] calm held said = refl
scripts-of [] [] [] [] (l ∷ lines) calm held said = absurd said
scripts-of [] [] [] (files ∷ desks) lines calm held said = absurd calm
scripts-of [] [] (s ∷ stations) desks lines calm held said = absurd said
scripts-of [] (script ∷ scripts) stations [] lines calm held said = absurd held
scripts-of [] (script ∷ scripts) stations (files ∷ desks) lines calm held said = absurd held
scripts-of (name ∷ names) [] stations [] lines calm held said = absurd held
scripts-of (name ∷ names) [] stations (files ∷ desks) lines calm held said = absurd held
scripts-of (name ∷ names) (script ∷ scripts) [] desks lines calm held said = absurd said
scripts-of (name ∷ names) (script ∷ scripts) (s ∷ stations) [] lines calm held said = absurd calm
scripts-of (name ∷ names) (script ∷ scripts) (s ∷ stations) (files ∷ desks) [] calm held said = absurd said
scripts-of (name ∷ names) (script ∷ scripts) (s ∷ stations) (files ∷ desks) (l ∷ lines) (one, calm) (is, held) (first, said) =
    let head : l ≡ Some script = of-file s.desk files name (Some script) one.0 is (λ (o : Option (List ℕ)). IsSomeAnd o (λ octets. l ≡ Some octets)) first in
    let tail = scripts-of names scripts stations desks lines calm held said in
    subst (λ (x : Option (List ℕ) × List (Option (List ℕ))). l ∷ lines ≡ x.0 ∷ x.1) (λ i. (head i, tail i)) refl

-- ---- a run that nothing hinders

-- an object whose count rose failed
failed : (flag : Bool) (before now : ℕ) → RisesWhere flag before now → before < now → flag ≡ true
failed true before now counts rose = refl
failed false before now counts rose = absurd (omega (arith, counts, rose))

-- of none of the first, and of none of the others
none-more : (one others : Bool) → one ≡ false → others ≡ false → one || others ≡ false
none-more one others first rest = rw (first, rest) refl

-- of one of the others
one-more : (one others : Bool) → others ≡ true → one || others ≡ true
one-more true others rest = refl
one-more false others rest = rest

module _ {D R : Type 0} (flag : DeskEnd → Bool) (before now : StationView D R → ℕ) where
  -- such a count of each station rose just where its desk's end has the flag
  abbrev AreCounted : List Station → List (StationView D R) → Type 0
  AreCounted [] [] = ⊤
  AreCounted (d ∷ desks) (s ∷ stations) = RisesWhere (flag d.end) (before s) (now s) × AreCounted desks stations
  AreCounted desks stations = ⊥

  none-failed : (desks : List Station) (stations : List (StationView D R)) → AreCounted desks stations → AllByRecursion (λ s. IsCalm (before s) (now s)) stations → list_any (λ d. flag d.end) desks ≡ false
  none-failed [] stations counted calm = refl
  none-failed (d ∷ desks) [] counted calm = absurd counted
  none-failed (d ∷ desks) (s ∷ stations) (one, counted) (first, calm) =
      none-more (flag d.end) (list_any (λ d. flag d.end) desks) (stood (flag d.end) (before s) (now s) first one) (none-failed desks stations counted calm)

  some-failed : (desks : List Station) (stations : List (StationView D R)) → AreCounted desks stations → SomeStation (λ s. before s < now s) stations → list_any (λ d. flag d.end) desks ≡ true
  some-failed [] [] counted some = absurd some
  some-failed [] (s ∷ stations) counted some = absurd counted
  some-failed (d ∷ desks) [] counted some = absurd some
  some-failed (d ∷ desks) (s ∷ stations) (one, counted) (inl rose) = rw (failed (flag d.end) (before s) (now s) one rose) refl
  some-failed (d ∷ desks) (s ∷ stations) (one, counted) (inr some) = one-more (flag d.end) (list_any (λ d. flag d.end) desks) (some-failed desks stations counted some)

  failed-some : (desks : List Station) (stations : List (StationView D R)) → AreCounted desks stations → list_any (λ d. flag d.end) desks ≡ true → SomeStation (λ s. HasRisen (before s) (now s)) stations
  failed-some [] stations counted some = absurd (let bad : false ≡ true = some in cc bad)
  failed-some (d ∷ desks) [] counted some = absurd counted
  failed-some (d ∷ desks) (s ∷ stations) (one, counted) some = by (flag d.end) one some (failed-some desks stations counted)
    where
      by : (b : Bool) → RisesWhere b (before s) (now s) → b || list_any (λ d. flag d.end) desks ≡ true
          → (list_any (λ d. flag d.end) desks ≡ true → SomeStation (λ s. HasRisen (before s) (now s)) stations) → SomeStation (λ s. HasRisen (before s) (now s)) (s ∷ stations)
      by true rose some others = inl rose
      by false same some others = inr (others some)

module _ {D R : Type 0} (db : Database) (history : RegisterHistory) where
  desk-counts : (number : ℕ) (before : RegisterHistory) (desks : List Station) (lines : List (Option (List ℕ))) (stations : List (StationView D R)) → StandInOrder number db history before desks
      → AreOf desks lines stations → AreCounted (λ e. is_desk_fault e) (λ s. s.desk.faults s.desk.before) (λ s. s.desk.faults s.desk.now) desks stations
  desk-counts number before [] [] [] stand are = tt
  desk-counts number before [] (l ∷ lines) stations stand are = absurd are
  desk-counts number before [] [] (s ∷ stations) stand are = absurd are
  desk-counts number before (d ∷ desks) [] stations stand are = absurd are
  desk-counts number before (d ∷ desks) (l ∷ lines) [] stand are = absurd are
  desk-counts number before (d ∷ desks) (l ∷ lines) (s ∷ stations) (one, stand) (script, replies, are) =
      (subst (λ o. RisesWhere (is_desk_fault d.end) o.before o.now) script one.desk_count, desk-counts (suc number) _ desks lines stations stand are)

  reply-counts : (number : ℕ) (before : RegisterHistory) (desks : List Station) (lines : List (Option (List ℕ))) (stations : List (StationView D R)) → StandInOrder number db history before desks
      → AreOf desks lines stations → AreCounted (λ e. is_reply_fault e) (λ s. s.replies.faults s.replies.before) (λ s. s.replies.faults s.replies.now) desks stations
  reply-counts number before [] [] [] stand are = tt
  reply-counts number before [] (l ∷ lines) stations stand are = absurd are
  reply-counts number before [] [] (s ∷ stations) stand are = absurd are
  reply-counts number before (d ∷ desks) [] stations stand are = absurd are
  reply-counts number before (d ∷ desks) (l ∷ lines) [] stand are = absurd are
  reply-counts number before (d ∷ desks) (l ∷ lines) (s ∷ stations) (one, stand) (script, replies, are) =
      (subst (λ o. RisesWhere (is_reply_fault d.end) o.before o.now) replies one.replies_count, reply-counts (suc number) _ desks lines stations stand are)

-- stations that didn't fail have scripts and replies that didn't
calm-desks : {D R : Type 0} (stations : List (StationView D R)) (files : List Files) → AreCalm stations files → AllByRecursion (λ s. IsCalm (s.desk.faults s.desk.before) (s.desk.faults s.desk.now)) stations
calm-desks [] files calm = tt
calm-desks (s ∷ stations) [] calm = absurd calm
calm-desks (s ∷ stations) (f ∷ files) (one, calm) = (one.0.calm, calm-desks stations files calm)

calm-replies : {D R : Type 0} (stations : List (StationView D R)) (files : List Files) → AreCalm stations files → AllByRecursion (λ s. IsCalmSink s.replies) stations
calm-replies [] files calm = tt
calm-replies (s ∷ stations) [] calm = absurd calm
calm-replies (s ∷ stations) (f ∷ files) (one, calm) = (one.1, calm-replies stations files calm)

code-whole : (out_failed feed_failed : Bool) (desks : List Station) (rest : List ℕ) (packets : List (List ℕ)) → out_failed ≡ false → feed_failed ≡ false
    → list_any (λ desk. is_desk_fault desk.end) desks ≡ false → list_any (λ desk. is_reply_fault desk.end) desks ≡ false
    → code_of_ending (panel_ending out_failed feed_failed desks rest packets) ≡ code_of_rest (length packets == most_packets) (length rest)
unfolding code_of_ending
code-whole out_failed feed_failed desks rest packets prints reads asks replies = rw (prints, reads, asks, replies) refl

module _ {F D R O : Type 0} (feed : ShelfView F) (stations : List (StationView D R)) (files : List Files) (out : SinkView O)
    (calm_feed : IsCalm (feed.faults feed.before) (feed.faults feed.now)) (calm : AreCalm stations files) (calm_out : IsCalmSink out) where
  whole : (c : Code) (history : RegisterHistory) (db : Database) (octets : List ℕ) (scripts : List (List ℕ)) (desks : List Station)
      → AreOf desks (map (λ script. Some script) scripts) stations → LivesPanel c db history (from feed (Some octets)) desks (written_to out)
      → RunsWhole c history db octets scripts feed stations out
  whole c history db octets scripts desks are lives =
      let p = lives.prints in
      let prints : p.out_failed ≡ false = stood p.out_failed _ _ calm_out p.out_count in
      let reads : p.feed_failed ≡ false = stood p.feed_failed _ _ calm_feed p.feed_count in
      let lines = map (λ script. Some script) scripts in
      let asks = none-failed (λ e. is_desk_fault e) _ _ desks stations (desk-counts db history 1 [] desks lines stations lives.stand are) (calm-desks stations files calm) in
      let answers = none-failed (λ e. is_reply_fault e) _ _ desks stations (reply-counts db history 1 [] desks lines stations lives.stand are) (calm-replies stations files calm) in
      record {
        desks = desks;
        are_of = are;
        lives = lives;
        prints = prints;
        reads = reads;
        asks = asks;
        answers = answers;
        is_code = lives.is_code ∙ code-whole p.out_failed p.feed_failed desks p.rest p.packets prints reads asks answers;
      }

module _ {T F D R O : Type 0} (w : PanelWords) (db : Database) (octets : List ℕ) (scripts : List (List ℕ)) (files feeds : Files) (desks : List Files)
    (tables : ShelfView T) (feed : ShelfView F) (stations : List (StationView D R)) (out : SinkView O)
    (calm_tables : HoldsCalm tables files) (calm_feed : HoldsCalm feed feeds) (calm : AreCalm stations desks) (calm_out : IsCalmSink out)
    (found : AreThere files feeds desks w db octets scripts) where
  -- no input is refused
  unread : (c : Code) (r : Refusal) → c ≡ code_of_refusal r → HasRefusalCause r (tables.faults tables.before) (tables.faults tables.now)
      → IfSome (tables.holds tables.before) (λ f. Refuses r (sound_in f w.folder)) → c ≡ code.Want
  unread c (refusal.Mib fault) is cause said =
      let bad : sound_in files w.folder ≡ Err fault = subst (λ (x : Option Files). IfSome x (λ f. sound_in f w.folder ≡ Err fault)) calm_tables.holds said in
      let good = found.tables in absurd (cc (bad, good))
  unread c refusal.Failed is cause said = absurd (not-failed _ _ calm_tables.calm cause)
  unread c refusal.Memory is cause said = is

  no-run : (c : Code) → (AreRefused c w tables feed stations ⊎ IsWanting c tables feed stations) → c ≡ code.Want
  no-run c (inl (inl (u, unfed, idle))) = unread c u.refusal u.is_code u.cause u.refused
  no-run c (inl (inr (d, sound, inl (unfed, idle)))) = absurd (turned (code.NoFile input.Feed) code.FeedFault c w.feed octets feed feeds calm_feed found.feed unfed)
  no-run c (inl (inr (d, sound, inr (fed, undesked)))) = absurd (all-turned c w.desks scripts stations desks calm found.desks undesked)
  no-run c (inr wanting) = wanting.0

  pub completes : (c : Code) (closed : Option RegisterHistory) → Paneled c closed w tables feed stations out → CompletesPanel c closed db octets scripts feed stations out
  completes c None (said, unwritten, unreplied) = no-run c said
  completes c (Some history) said =
      let r = said.ran in
      let first : sound_in files w.folder ≡ Ok said.first = subst (λ (x : Option Files). IfSome x (λ f. sound_in f w.folder ≡ Ok said.first)) calm_tables.holds said.sound.of_tables in
      let tables_are = found.tables in let is_db : said.first ≡ db = cc (first, tables_are) in
      let is_octets : said.octets ≡ Some octets = of-file feed feeds w.feed (Some octets) calm_feed found.feed (λ (o : Option (List ℕ)). IsSomeAnd o (λ l. said.octets ≡ Some l)) said.of_feed in
      let is_lines : said.lines ≡ map (λ script. Some script) scripts = scripts-of w.desks scripts stations desks said.lines calm found.desks said.of_desks in
      whole feed stations desks out calm_feed.calm calm calm_out c history db octets scripts r.desks
      (subst (λ (x : List (Option (List ℕ))). AreOf r.desks x stations) is_lines r.are_of)
      (subst (λ (x : Database × Option (List ℕ)). LivesPanel c x.0 history (from feed x.1) r.desks (written_to out)) (λ i. (is_db i, is_octets i)) r.lives)

-- ---- an input that is refused

-- the file of a desk that stood at a name is there
missing-stood : {D R : Type 0} (names : List (List ℕ)) (stations : List (StationView D R)) (desks : List Files) (lines : List (Option (List ℕ))) → AreCalm stations desks → OneIsMissing desks names
    → StoodAtEach names stations lines → ⊥
missing-stood names stations [] lines calm missing said = missing
missing-stood [] stations (files ∷ desks) lines calm missing said = missing
missing-stood (name ∷ names) [] (files ∷ desks) lines calm missing said = said
missing-stood (name ∷ names) (s ∷ stations) (files ∷ desks) [] calm missing said = said
missing-stood (name ∷ names) (s ∷ stations) (files ∷ desks) (l ∷ lines) (one, calm) (inl none) (first, said) =
    of-file s.desk files name None one.0 none (λ (o : Option (List ℕ)). IsSomeAnd o (λ octets. l ≡ Some octets)) first
missing-stood (name ∷ names) (s ∷ stations) (files ∷ desks) (l ∷ lines) (one, calm) (inr (script, is, missing)) (first, said) =
    missing-stood names stations desks lines calm missing said

-- the first desk that isn't there is told
first-missing : {D R : Type 0} (c : Code) (names : List (List ℕ)) (stations : List (StationView D R)) (desks : List Files) → AreCalm stations desks → OneIsMissing desks names
    → AreNotTurned c names stations → c ≡ code.NoFile input.Desk
first-missing c names stations [] calm missing said = absurd missing
first-missing c [] stations (files ∷ desks) calm missing said = absurd missing
first-missing c (name ∷ names) [] (files ∷ desks) calm missing said = absurd said
first-missing c (name ∷ names) (s ∷ stations) (files ∷ desks) (one, calm) missing (inl (inl (is, same, none), same_replies, idle)) = is
first-missing c (name ∷ names) (s ∷ stations) (files ∷ desks) (one, calm) missing (inl (inr (is, failed), same_replies, idle)) = absurd (not-failed _ _ one.0.calm failed.0)
first-missing c (name ∷ names) (s ∷ stations) (files ∷ desks) (one, calm) (inl none) (inr (done, same, said)) =
    absurd (of-file s.desk files name None one.0 none (λ (o : Option (List ℕ)). IsSomeAnd o (λ octets. s.desk.left s.desk.now ≡ Some octets)) done.held)
first-missing c (name ∷ names) (s ∷ stations) (files ∷ desks) (one, calm) (inr (script, is, missing)) (inr (done, same, said)) = first-missing c names stations desks calm missing said

module _ {T F D R O : Type 0} (w : PanelWords) (files : Files) (tables : ShelfView T) (feed : ShelfView F) (stations : List (StationView D R)) (out : SinkView O)
    (calm_tables : HoldsCalm tables files) where
  -- tables that are refused
  pub bad-tables : (c : Code) (closed : Option RegisterHistory) (fault : MibFault) → sound_in files w.folder ≡ Err fault → Paneled c closed w tables feed stations out → RefusesPanel (code.BadMib fault) c closed
  bad-tables c None fault bad (said, unwritten, unreplied) = (refl, by said)
    where
      refused : (r : Refusal) → c ≡ code_of_refusal r → HasRefusalCause r (tables.faults tables.before) (tables.faults tables.now)
          → IfSome (tables.holds tables.before) (λ f. Refuses r (sound_in f w.folder)) → (c ≡ code.BadMib fault) ⊎ (c ≡ code.Want)
      refused (refusal.Mib other) is cause told =
          let same : sound_in files w.folder ≡ Err other = subst (λ (x : Option Files). IfSome x (λ f. sound_in f w.folder ≡ Err other)) calm_tables.holds told in inl (cc (is, same, bad))
      refused refusal.Failed is cause told = absurd (not-failed _ _ calm_tables.calm cause)
      refused refusal.Memory is cause told = inr is

      good : (d : Database) → IfSome (tables.holds tables.before) (λ f. sound_in f w.folder ≡ Ok d) → ⊥
      good d told = let same : sound_in files w.folder ≡ Ok d = subst (λ (x : Option Files). IfSome x (λ f. sound_in f w.folder ≡ Ok d)) calm_tables.holds told in cc (same, bad)

      by : (AreRefused c w tables feed stations ⊎ IsWanting c tables feed stations) → (c ≡ code.BadMib fault) ⊎ (c ≡ code.Want)
      by (inl (inl (u, unfed, idle))) = refused u.refusal u.is_code u.cause u.refused
      by (inl (inr (d, sound, other))) = absurd (good d sound.of_tables)
      by (inr wanting) = inr wanting.0
  bad-tables c (Some history) fault bad said =
      let same : sound_in files w.folder ≡ Ok said.first = subst (λ (x : Option Files). IfSome x (λ f. sound_in f w.folder ≡ Ok said.first)) calm_tables.holds said.sound.of_tables in
      absurd (cc (same, bad))

  module _ (db : Database) (sound : sound_in files w.folder ≡ Ok db) where
    read : (c refused : Code) (r : Refusal) → c ≡ code_of_refusal r → HasRefusalCause r (tables.faults tables.before) (tables.faults tables.now)
        → IfSome (tables.holds tables.before) (λ f. Refuses r (sound_in f w.folder)) → (c ≡ refused) ⊎ (c ≡ code.Want)
    read c refused (refusal.Mib fault) is cause said =
        let bad : sound_in files w.folder ≡ Err fault = subst (λ (x : Option Files). IfSome x (λ f. sound_in f w.folder ≡ Err fault)) calm_tables.holds said in absurd (cc (bad, sound))
    read c refused refusal.Failed is cause said = absurd (not-failed _ _ calm_tables.calm cause)
    read c refused refusal.Memory is cause said = inr is

    module _ (feeds : Files) (calm_feed : HoldsCalm feed feeds) where
      -- a feed that isn't there
      pub no-feed : (c : Code) (closed : Option RegisterHistory) → feeds w.feed ≡ None → Paneled c closed w tables feed stations out → RefusesPanel (code.NoFile input.Feed) c closed
      no-feed c None none (inl (inl (u, unfed, idle)), unwritten, unreplied) = (refl, read c (code.NoFile input.Feed) u.refusal u.is_code u.cause u.refused)
      no-feed c None none (inl (inr (d, accepted, inl (inl (is, same, missing), idle))), unwritten, unreplied) = (refl, inl is)
      no-feed c None none (inl (inr (d, accepted, inl (inr (is, failed), idle))), unwritten, unreplied) = absurd (not-failed _ _ calm_feed.calm failed.0)
      no-feed c None none (inl (inr (d, accepted, inr (fed, undesked))), unwritten, unreplied) =
          absurd (of-file feed feeds w.feed None calm_feed none (λ (o : Option (List ℕ)). IsSomeAnd o (λ octets. feed.left feed.now ≡ Some octets)) fed.held)
      no-feed c None none (inr wanting, unwritten, unreplied) = (refl, inr wanting.0)
      no-feed c (Some history) none said = absurd (of-file feed feeds w.feed None calm_feed none (λ (o : Option (List ℕ)). IsSomeAnd o (λ octets. said.octets ≡ Some octets)) said.of_feed)

      -- a desk that isn't there
      pub no-desk : (c : Code) (closed : Option RegisterHistory) (octets : List ℕ) (desks : List Files) → feeds w.feed ≡ Some octets → AreCalm stations desks → OneIsMissing desks w.desks
          → Paneled c closed w tables feed stations out → RefusesPanel (code.NoFile input.Desk) c closed
      no-desk c None octets desks is calm missing (inl (inl (u, unfed, idle)), unwritten, unreplied) = (refl, read c (code.NoFile input.Desk) u.refusal u.is_code u.cause u.refused)
      no-desk c None octets desks is calm missing (inl (inr (d, accepted, inl (unfed, idle))), unwritten, unreplied) =
          absurd (turned (code.NoFile input.Feed) code.FeedFault c w.feed octets feed feeds calm_feed is unfed)
      no-desk c None octets desks is calm missing (inl (inr (d, accepted, inr (fed, undesked))), unwritten, unreplied) = (refl, inl (first-missing c w.desks stations desks calm missing undesked))
      no-desk c None octets desks is calm missing (inr wanting, unwritten, unreplied) = (refl, inr wanting.0)
      no-desk c (Some history) octets desks is calm missing said = absurd (missing-stood w.desks stations desks said.lines calm missing said.of_desks)

-- ---- faults that are told

-- which fault a code is, and 0 where it is none
abbrev fault-of : Code → ℕ
fault-of code.OutFault = 1
fault-of code.ReplyFault = 2
fault-of code.FeedFault = 3
fault-of code.DeskFault = 4
fault-of other = 0

-- the first that happened
abbrev first-of : Bool → Bool → Bool → Bool → ℕ
first-of true r f d = 1
first-of false true f d = 2
first-of false false true d = 3
first-of false false false true = 4
first-of false false false false = 0

rest-none : (zero is_limit : Bool) (rest : ℕ) → fault-of (cond (not zero) (code.Cut rest) (cond is_limit code.Limit code.Ok)) ≡ 0
rest-none true true rest = refl
rest-none true false rest = refl
rest-none false is_limit rest = refl

fault-is : (o r f d is_limit : Bool) (rest : ℕ)
    → fault-of (code_of_ending (record { out_failed = o; replies_failed = r; feed_failed = f; desk_failed = d; rest = rest; is_limit = is_limit })) ≡ first-of o r f d
unfolding code_of_ending
fault-is true r f d is_limit rest = refl
fault-is false true f d is_limit rest = refl
fault-is false false true d is_limit rest = refl
fault-is false false false true is_limit rest = refl
fault-is false false false false is_limit rest = rest-none (rest == 0) is_limit rest

is-first : (o r f d : Bool) → first-of o r f d ≡ 1 → o ≡ true
is-first true r f d is = refl
is-first false true f d is = absurd (omega (arith, is))
is-first false false true d is = absurd (omega (arith, is))
is-first false false false true is = absurd (omega (arith, is))
is-first false false false false is = absurd (omega (arith, is))

is-second : (o r f d : Bool) → first-of o r f d ≡ 2 → r ≡ true
is-second true r f d is = absurd (omega (arith, is))
is-second false true f d is = refl
is-second false false true d is = absurd (omega (arith, is))
is-second false false false true is = absurd (omega (arith, is))
is-second false false false false is = absurd (omega (arith, is))

is-third : (o r f d : Bool) → first-of o r f d ≡ 3 → f ≡ true
is-third true r f d is = absurd (omega (arith, is))
is-third false true f d is = absurd (omega (arith, is))
is-third false false true d is = refl
is-third false false false true is = absurd (omega (arith, is))
is-third false false false false is = absurd (omega (arith, is))

is-fourth : (o r f d : Bool) → first-of o r f d ≡ 4 → d ≡ true
is-fourth true r f d is = absurd (omega (arith, is))
is-fourth false true f d is = absurd (omega (arith, is))
is-fourth false false true d is = absurd (omega (arith, is))
is-fourth false false false true is = refl
is-fourth false false false false is = absurd (omega (arith, is))

-- the code of the first fault that happened
abbrev code-first : (o r f d is_limit : Bool) (rest : ℕ) → Code
code-first o r f d is_limit rest = code_of_ending (record { out_failed = o; replies_failed = r; feed_failed = f; desk_failed = d; rest = rest; is_limit = is_limit })

out-first : (o r f d is_limit : Bool) (rest : ℕ) → o ≡ true → code-first o r f d is_limit rest ≡ code.OutFault
unfolding code_of_ending
out-first o r f d is_limit rest is = rw is refl

reply-first : (o r f d is_limit : Bool) (rest : ℕ) → o ≡ false → r ≡ true → code-first o r f d is_limit rest ≡ code.ReplyFault
unfolding code_of_ending
reply-first o r f d is_limit rest none is = rw (none, is) refl

feed-first : (o r f d is_limit : Bool) (rest : ℕ) → o ≡ false → r ≡ false → f ≡ true → code-first o r f d is_limit rest ≡ code.FeedFault
unfolding code_of_ending
feed-first o r f d is_limit rest none fine is = rw (none, fine, is) refl

desk-first : (o r f d is_limit : Bool) (rest : ℕ) → o ≡ false → r ≡ false → f ≡ false → d ≡ true → code-first o r f d is_limit rest ≡ code.DeskFault
unfolding code_of_ending
desk-first o r f d is_limit rest none fine read is = rw (none, fine, read, is) refl

rises : (failed : Bool) (before now : ℕ) → RisesWhere failed before now → failed ≡ true → HasRisen before now
rises true before now counts is = counts
rises false before now counts is = absurd (let bad : false ≡ true = is in cc bad)

module _ {F D R O : Type 0} (c : Code) (history : RegisterHistory) (first : Database) (octets : Option (List ℕ)) (lines : List (Option (List ℕ)))
    (feed : ShelfView F) (stations : List (StationView D R)) (out : SinkView O) (ran : Ran c history first octets lines feed stations out) where
  -- what a run tells of faults
  pub tells : TellsFaults c feed stations out
  tells =
      let p = ran.lives.prints in let o = p.out_failed in let f = p.feed_failed in
      let r = list_any (λ desk. is_reply_fault desk.end) ran.desks in let d = list_any (λ desk. is_desk_fault desk.end) ran.desks in
      let l = length p.packets == most_packets in let n = length p.rest in
      let replied = reply-counts first history 1 [] ran.desks lines stations ran.lives.stand ran.are_of in
      let asked = desk-counts first history 1 [] ran.desks lines stations ran.lives.stand ran.are_of in
      let is : c ≡ code-first o r f d l n = ran.lives.is_code in
      let told : fault-of c ≡ first-of o r f d = ap fault-of is ∙ fault-is o r f d l n in
      let no_out : IsCalmSink out → o ≡ false = (λ calm. stood o _ _ calm p.out_count) in
      let no_reply : AllByRecursion (λ s. IsCalmSink s.replies) stations → r ≡ false = (λ calm. none-failed (λ e. is_reply_fault e) _ _ ran.desks stations replied calm) in
      record {
        output = λ rose. is ∙ out-first o r f d l n (failed o _ _ p.out_count rose);
        replies = λ calm rose. is ∙ reply-first o r f d l n (no_out calm) (some-failed (λ e. is_reply_fault e) _ _ ran.desks stations replied rose);
        intake = λ calm answers rose. is ∙ feed-first o r f d l n (no_out calm) (no_reply answers) (failed f _ _ p.feed_count rose);
        scripts =
            λ calm answers reads rose. is ∙ desk-first o r f d l n (no_out calm) (no_reply answers) (stood f _ _ reads p.feed_count)
            (some-failed (λ e. is_desk_fault e) _ _ ran.desks stations asked rose);
        only_output = λ fault. rises o _ _ p.out_count (is-first o r f d (sym told ∙ ap fault-of fault));
        only_replies = λ fault. failed-some (λ e. is_reply_fault e) _ _ ran.desks stations replied (is-second o r f d (sym told ∙ ap fault-of fault));
        only_intake = λ fault. rises f _ _ p.feed_count (is-third o r f d (sym told ∙ ap fault-of fault));
        only_scripts = λ fault. failed-some (λ e. is_desk_fault e) _ _ ran.desks stations asked (is-fourth o r f d (sym told ∙ ap fault-of fault));
      }
