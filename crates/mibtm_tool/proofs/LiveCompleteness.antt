-- Where nothing fails, a live run prints all packets and handles all lines.
use Rattle.std.proofs.Common.{◌≡◌, ◌⊎◌, ◌<◌, ◌≤◌, ◌==◌, ◌++◌, ℕ, Bool, false, List, [], length, Option, Some, None, Ok, Err, IfSome, IsOkAnd, IsSomeAnd, refl, sym, ap, ◌∙◌, subst, inl, inr, arith, append-nil, nat_le}
use Rattle.std.specs.Prelude.{if◌then◌else◌}
use Rattle.std.specs.List.{concat}
use Rattle.std.specs.Io.KnownBytes.{Appends, Consumes, IsAtEnd}
use Rattle.std.proofs.lemmas.Bool.{cases_Bool}
use Rattle.std.proofs.lemmas.Bool.Decides.{nat_tests}
use Rattle.decode_session.specs.Run.{most_packets}
use Rattle.live_desk.specs.declared.desk_end.DeskEnd.{DeskEnd}
use Rattle.live_desk.specs.declared.desk_end.DeskEnd.TheVariants as end
use Rattle.live_desk.specs.DeskEnds.{is_desk_fault, is_reply_fault, limit_line}
use Rattle.live_desk.specs.Scripts.{IsHandled}
use Rattle.mib_model.specs.Texts.{rest_unless}
use Rattle.tm_io.specs.Octets.{WritesUnless}
use Rattle.live_session.specs.Live.{Lives, ending_of, from, written_to}
use Rattle.run_model.specs.declared.code.Code.{Code}
use Rattle.run_model.specs.declared.code.Code.TheVariants as code
use Rattle.run_model.specs.declared.code.Input.TheVariants as input
use Rattle.mib_model.specs.declared.database.Database.{Database}
use Rattle.run_model.specs.Endings.{code_of_ending, code_of_rest}
use Rattle.run_model.specs.Output.{output}
use Rattle.mib_model.specs.Packets.{IsCut}
use Rattle.run_model.specs.RegisterHistories.{RegisterHistory}
use Rattle.run_model.specs.Replies.{desk_text}
use Rattle.run_model.specs.Script.{reaches_limit}
use Rattle.session.specs.Sources.{Files}
use Rattle.mibtm_tool.proofs.Completeness.{held, told}
use Rattle.mibtm_tool.specs.Live.{AreFound, AreRead, AreSteady, CompletesLive, HoldFiles, LivesWhole, limit_of}
use Rattle.mibtm_tool.specs.Statement.{Lived, LivedBy, Names, Shelves, Unopened, opened}
use Rattle.tool_objects.proofs.CalmFacts.{not-failed, stood}
use Rattle.tool_objects.specs.Told.{OfFile}
use Rattle.tool_objects.specs.Objects.{SinkView}
use Rattle.tool_objects.specs.Sources.{sound_in}

-- a file that is held isn't missing
no-file : (holds : Option Files) (files : Files) (name octets : List ℕ) → holds ≡ Some files → files name ≡ Some octets → IfSome holds (λ f. f name ≡ None) → ⊥
no-file holds files name octets is found said =
    let bad : files name ≡ None = subst (λ (x : Option Files). IfSome x (λ f. f name ≡ None)) is said in cc (bad, found)

below-or-at : (n m : ℕ) → n ≤ m → (n < m) ⊎ (n ≡ m)
below-or-at n m few = elim (cases_Bool (nat_le m n)) [
  | inl full ↦ inr (grind (arith, nat_tests, full, few))
  | inr not ↦ inl (grind (arith, nat_tests, not))
]

-- what was read of a feed to its end, or as far as a run reads, is what there is to read
are-read : (octets read rest : List ℕ) (packets : List (List ℕ)) (new : Option (List ℕ)) → Consumes (Some octets) new read → IsCut read packets rest → length packets ≤ most_packets
    → (length packets ≡ most_packets → rest ≡ []) → IsAtEnd new ⊎ (length packets ≡ most_packets) → AreRead octets packets rest
are-read octets read rest packets None taken cut few limit out = absurd taken
are-read octets read rest packets (Some left) taken cut few limit out = by out
  where
    most : length packets ≡ most_packets → AreRead octets packets rest
    most all = inr (left, (let none = limit all in taken ∙ ap (λ l. l ++ left) (cut.whole ∙ ap (λ r. concat packets ++ r) none ∙ append-nil (concat packets))), cut.each, all, limit all)

    ended : left ≡ [] → (length packets < most_packets) ⊎ (length packets ≡ most_packets) → AreRead octets packets rest
    ended end (inl less) = inl (subst (λ x. IsCut x packets rest) (sym (taken ∙ ap (λ l. read ++ l) end ∙ append-nil read)) cut, less)
    ended end (inr all) = most all

    by : IsAtEnd (Some left) ⊎ (length packets ≡ most_packets) → AreRead octets packets rest
    by (inl end) = ended end (below-or-at (length packets) most_packets few)
    by (inr all) = most all

-- a desk that didn't fail, nor its replies, has handled all
pub none-left : (e : DeskEnd) (others : List (List ℕ)) → is_desk_fault e ≡ false → is_reply_fault e ≡ false → IsHandled e others → others ≡ []
none-left end.Done others calm replied all = all
none-left end.Limit others calm replied all = all
none-left end.DeskFault others calm replied all = cc calm
none-left end.ReplyFault others calm replied all = cc replied

code-whole : (out_failed feed_failed : Bool) (e : DeskEnd) (rest : List ℕ) (packets : List (List ℕ)) → out_failed ≡ false → feed_failed ≡ false → is_desk_fault e ≡ false → is_reply_fault e ≡ false
    → code_of_ending (ending_of out_failed feed_failed e rest packets) ≡ code_of_rest (length packets == most_packets) (length rest)
unfolding code_of_ending
code-whole out_failed feed_failed e rest packets prints reads asks replies = rw (prints, reads, asks, replies) refl

module _ {T F D O P : Type 0} (names : Names) (octets script : List ℕ) (files feeds desks : Files) (db : Database) (s : Shelves T F D) (out : SinkView O) (replies : SinkView P)
    (holds : HoldFiles s files feeds desks) (found : AreFound files feeds desks names db octets script) (steady : AreSteady s out replies) where
  -- what is said of the feed's file by the tables is said of it
  by-feed : (P : Database → Option (List ℕ) → Type 0) → IfSome (s.tables.holds s.tables.before) (λ f. IsOkAnd (sound_in f names.folder) (λ d. OfFile s.feed names.feed (P d)))
      → IfSome (s.feed.holds s.feed.before) (λ f. P db (f names.feed))
  by-feed P said =
      told (s.tables.holds s.tables.before) (λ f. sound_in f names.folder) files db (λ d. OfFile s.feed names.feed (P d)) holds.of_tables found.tables said

  unopened : (c : Code) → Unopened c names s → c ≡ code.Want
  unopened code.Want said = refl
  unopened (code.BadMib fault) (same, uncalled, unasked, refused) =
      let bad : sound_in files names.folder ≡ Err fault = subst (λ (x : Option Files). IfSome x (λ f. sound_in f names.folder ≡ Err fault)) holds.of_tables refused
      in absurd (cc (bad, found.tables))
  unopened (code.NoFile input.Feed) (same, still, unasked, missing) =
      absurd (no-file (s.feed.holds s.feed.before) feeds names.feed octets holds.of_feed found.feed (by-feed (λ d file. file ≡ None) missing))
  unopened (code.NoFile input.Desk) (same, still, calm, missing) =
      absurd
      (no-file (s.desk.holds s.desk.before) desks names.desk script holds.of_desk found.desk
      (held (s.feed.holds s.feed.before) feeds names.feed octets (λ o. OfFile s.desk names.desk (λ file. file ≡ None)) holds.of_feed found.feed
      (by-feed (λ d file. IsSomeAnd file (λ o. OfFile s.desk names.desk (λ asked. asked ≡ None))) missing)))
  unopened code.TablesFault (failed, uncalled, unasked) = absurd (not-failed _ _ steady.tables failed)
  unopened code.FeedFault (same, missed, unasked, sound) = absurd (not-failed _ _ steady.feed missed.0)
  unopened code.DeskFault (same, still, missed, found) = absurd (not-failed _ _ steady.desk missed.0)
  unopened code.Ok said = absurd said
  unopened (code.Usage misuse) said = absurd said
  unopened (code.Cut count) said = absurd said
  unopened code.OutFault said = absurd said
  unopened code.ReplyFault said = absurd said
  unopened code.Limit said = absurd said

  whole : (c : Code) (history : RegisterHistory) → Lives c db history (opened s.feed octets) (opened s.desk script) (written_to out) (written_to replies)
      → LivesWhole c history db octets script s out replies
  whole c history lives =
      let p = lives.prints in let d = lives.desked in
      let prints : p.out_failed ≡ false = stood p.out_failed _ _ steady.output p.out_count in
      let reads : p.feed_failed ≡ false = stood p.feed_failed _ _ steady.feed p.feed_count in
      let asks : is_desk_fault lives.desk_end ≡ false = stood (is_desk_fault lives.desk_end) _ _ steady.desk lives.desk_count in
      let replied : is_reply_fault lives.desk_end ≡ false = stood (is_reply_fault lives.desk_end) _ _ steady.answers lives.replies_count in
      let tail : d.tail ≡ limit_of script = d.is_tail ∙ ap (λ b. if b then [] else if reaches_limit script then limit_line else []) asks in
      record {
        lives = lives;
        prints = prints;
        reads = reads;
        asks = asks;
        replies_all = replied;
        are_read = are-read octets p.read p.rest p.packets (s.feed.left s.feed.now) p.taken p.cut p.few p.limit (p.whole prints reads);
        is_code = lives.is_code ∙ code-whole p.out_failed p.feed_failed lives.desk_end p.rest p.packets prints reads asks replied;
        printed = subst (λ (x : Bool × Bool). WritesUnless x.0 (out.written out.before) (out.written out.now) (output db p.packets history (rest_unless x.1 p.rest))) (λ i. (prints i, reads i)) p.written;
        handled = sym (append-nil d.handled) ∙ ap (λ l. d.handled ++ l) (sym (none-left lives.desk_end d.others asks replied d.all)) ∙ sym d.of_script;
        replied = subst (λ (x : Bool × List ℕ). WritesUnless x.0 (replies.written replies.before) (replies.written replies.now) (desk_text None (d.early_replies ++ d.late_replies) ++ x.1)) (λ i. (replied i, tail i)) d.told;
      }

  same-tables : (first : Database) → sound_in files names.folder ≡ Ok first → first ≡ db
  same-tables first is = cc (is, found.tables)

  lived : (c : Code) (history : RegisterHistory) → Lived c history names s out replies
      → Lives c db history (opened s.feed octets) (opened s.desk script) (written_to out) (written_to replies)
  lived c history said =
      let is_db : said.first ≡ db = same-tables said.first (subst (λ (x : Option Files). IfSome x (λ f. sound_in f names.folder ≡ Ok said.first)) holds.of_tables said.of_tables) in
      let is_octets : said.octets ≡ Some octets = held (s.feed.holds s.feed.before) feeds names.feed octets (λ o. said.octets ≡ Some o) holds.of_feed found.feed said.of_feed in
      let is_script : said.lines ≡ Some script = held (s.desk.holds s.desk.before) desks names.desk script (λ l. said.lines ≡ Some l) holds.of_desk found.desk said.of_desk in
      subst (λ (x : Database × Option (List ℕ) × Option (List ℕ)). Lives c x.0 history (from s.feed x.1) (from s.desk x.2) (written_to out) (written_to replies))
      (λ i. (is_db i, is_octets i, is_script i)) said.lives

  pub completes_live : (c : Code) (closed : Option RegisterHistory) → LivedBy c closed names s out replies → CompletesLive c closed db octets script s out replies
  completes_live c None (said, unwritten, unreplied) = unopened c said
  completes_live c (Some history) said = whole c history (lived c history said)
