-- A live run and its screen, by what its watch was told and by what a display wrote.
use Rattle.std.proofs.Common.{◌≡◌, ◌⊎◌, ◌+◌, ◌<◌, ◌^◌, ℕ, true, false, List, [], ◌∷◌, map, length, max, Option, Result, Ok, Err, refl, sym, ap, subst, arith}
use Rattle.std.proofs.lemmas.Bool.{false≢true}
use Rattle.std.specs.List.{range_with_len, zip}
use Rattle.std.specs.Result.{IsErr, is_err}
use Rattle.std.specs.Prelude.{OnErr, OnOk}
use Rattle.display_pages.specs.declared.page.Page.{Page}
use Rattle.live_session.specs.Live.{IsWatched, Object, members_by, object}
use Rattle.run_laws.proofs.DeskFacts.{cons-head, cons-tail}
use Rattle.run_laws.proofs.RegisterFacts.{count-up}
use Rattle.run_model.specs.declared.code.Code.{Code}
use Rattle.mib_model.specs.declared.database.Database.{Database}
use Rattle.run_model.specs.declared.register.Register.{Register}
use Rattle.mib_model.specs.Interpreter.{Course, course_after, start}
use Rattle.run_model.specs.Output.{stamped_by, stamped_in}
use Rattle.run_model.specs.RegisterHistories.{IsRegisterHistory, RegisterHistory, register_after, stamps}
use Rattle.packet_run.specs.Told.{Member, members_from}
use Rattle.page_board.specs.Views.{BeginsWith, IsShownBy, page_shown}
use Rattle.page_screen.specs.Shows.{Shows}
use Rattle.page_watch.specs.Standing.{StandsFor}
use Rattle.run_pages.proofs.RunFacts.{Either, shows-in-part, shows-to-end}
use Rattle.run_pages.specs.Shown.{NumbersRise, ShowsRun}
use Rattle.tm_io.specs.Causes.{HasCause, RisesWhere}
use Rattle.live_board_tool.specs.Board.{LivesShown}

-- ---- the numbers of packets

-- packets whose stamps count up have numbers that rise
rise-from : (register : Register) (c : Course) (low : ℕ) (given : List (ℕ × ℕ)) (packets : List (List ℕ)) → map (λ s. s.0) given ≡ range_with_len (low + 1) (length given)
    → NumbersRise low (members_from c (map (stamped_in register) (zip given packets)))
unfolding members_from
rise-from register c low [] packets is = tt
rise-from register c low (g ∷ gs) [] is = tt
rise-from register c low (g ∷ gs) (p ∷ ps) is =
    let numbers = map (λ (s : ℕ × ℕ). s.0) gs in let others = range_with_len (low + 1 + 1) (length gs) in
    let number : g.0 ≡ low + 1 = cons-head g.0 (low + 1) numbers others is in
    let behind = course_after c (stamped_in register (g, p)) in (
      omega (arith, number),
      subst (λ n. NumbersRise n (members_from behind (map (stamped_in register) (zip gs ps)))) (sym number)
          (rise-from register behind (low + 1) gs ps (cons-tail g.0 (low + 1) numbers others is)),
    )

-- the packets of a live run have numbers that rise from 1 on
numbers-rise : (first : Database) (history : RegisterHistory) → IsRegisterHistory first history → (packets : List (List ℕ)) → NumbersRise 0 (members_by first history packets)
unfolding stamped_by
numbers-rise first history legal packets = rise-from (register_after first history) (start first) 0 (stamps history) packets (count-up first history legal)

-- ---- the screen

-- a count rose just where the call failed
rises-where : {T E : Type 0} (before now : ℕ) (result : Result T E) → HasCause before now result → RisesWhere (is_err result) before now
rises-where before now (Ok t) cause = cause.ok
rises-where before now (Err e) cause = (cause.later, cause.failed)

-- what holds where a call didn't fail holds where its count stands, and could rise
pub unless-risen : {T E P : Type 0} (before now : ℕ) (result : Result T E) → RisesWhere (is_err result) before now → OnOk result P → now ≡ before → before + 1 < 2 ^ 64 → P
unless-risen before now (Ok t) counts holds same more = holds
unless-risen before now (Err e) counts holds same more = absurd (omega (arith, counts.1, same, more))

-- what was written is handed on where it was before, unless the screen failed in the run or behind it
pub handed-on : {S T E : Type 0} (written handed : S → Option (List ℕ)) (before mid now : S) (shown ended : Result T E) → OnOk shown (handed before ≡ written before → handed mid ≡ written mid)
    → OnOk ended (handed mid ≡ written mid → handed now ≡ written now) → OnErr shown ((now ≡ mid) × IsErr ended) → OnOk ended (handed before ≡ written before → handed now ≡ written now)
handed-on written handed before mid now (Ok t) (Ok u) one two stopped = λ all. two (one all)
handed-on written handed before mid now (Ok t) (Err e) one two stopped = tt
handed-on written handed before mid now (Err e) (Err f) one two stopped = tt
handed-on written handed before mid now (Err e) (Ok u) one two stopped = absurd (false≢true stopped.1)

module _ {S T E : Type 0} (written : S → Option (List ℕ)) (faults : S → ℕ) (before mid now : S) (shown ended : Result T E) where
  -- the count of the screen rose where it failed, in the run or behind it
  count-of : HasCause (faults before) (faults mid) shown → OnOk shown (HasCause (faults mid) (faults now) ended) → OnErr shown ((now ≡ mid) × IsErr ended)
      → RisesWhere (is_err ended) (faults before) (faults now)
  count-of cause behind stopped = by shown ended cause behind stopped
    where
      by : (s e : Result T E) → HasCause (faults before) (faults mid) s → OnOk s (HasCause (faults mid) (faults now) e) → OnErr s ((now ≡ mid) × IsErr e) → RisesWhere (is_err e) (faults before) (faults now)
      by (Ok t) e cause behind stopped = subst (λ n. RisesWhere (is_err e) n (faults now)) cause.ok (rises-where (faults mid) (faults now) e behind)
      by (Err f) (Err g) cause behind stopped = subst (λ n. RisesWhere true (faults before) n) (sym (ap faults stopped.0)) (cause.later, cause.failed)
      by (Err f) (Ok t) cause behind stopped = absurd (false≢true stopped.1)

  -- what it was given are pages of the run
  pages-of : (names : List (List ℕ)) (members : List Member) (noted seen : List Page) (last : Page) (first at end number : ℕ) → first ≡ 0 → NumbersRise 0 members → StandsFor names noted last members
      → BeginsWith noted seen → number ≡ (page_shown noted).number → Shows names (IsShownBy seen) (is_err shown) first at (written before) (written mid)
      → OnOk shown (Shows names (Either names members noted seen last) (is_err ended) at end (written mid) (written now)) → OnOk ended (end ≡ max (max at number) last.number)
      → OnErr shown ((now ≡ mid) × IsErr ended) → ShowsRun names members (is_err ended) (written before) (written now)
  pages-of names members noted seen last first at end number none numbers stands begins is s t is_end stopped = by shown ended s t is_end stopped
    where
      number-of : (e : Result T E) → OnOk e (end ≡ max (max at number) last.number) → is_err e ≡ false → end ≡ max (max at number) last.number
      number-of (Ok t) holds ok = holds
      number-of (Err f) holds ok = absurd (let bad : true ≡ false = ok in cc bad)

      by : (s e : Result T E) → Shows names (IsShownBy seen) (is_err s) first at (written before) (written mid)
          → OnOk s (Shows names (Either names members noted seen last) (is_err e) at end (written mid) (written now)) → OnOk e (end ≡ max (max at number) last.number)
          → OnErr s ((now ≡ mid) × IsErr e) → ShowsRun names members (is_err e) (written before) (written now)
      by (Ok u) e s t is_end stopped =
          shows-to-end names members noted seen last numbers stands begins (is_err e) at end number (written before) (written mid) (written now)
          (subst (λ n. Shows names (IsShownBy seen) false n at (written before) (written mid)) none s) t is (number-of e is_end)
      by (Err f) (Err g) s t is_end stopped =
          subst (λ (o : Option (List ℕ)). ShowsRun names members true (written before) o) (sym (ap written stopped.0))
          (shows-in-part names members noted seen last numbers stands begins true at (written before) (written mid) refl
          (subst (λ n. Shows names (IsShownBy seen) true n at (written before) (written mid)) none s))
      by (Err f) (Ok u) s t is_end stopped = absurd (false≢true stopped.1)

  -- a live run and its screen
  pub lives-shown : {W : Type 0} (stands : W → List Member → Type 0) (watch watched : W) (c : Code) (db : Database) (history : RegisterHistory) (feed desk out replies : Object)
      (names : List (List ℕ)) (noted seen : List Page) (last : Page) (first at end number : ℕ) → IsWatched stands c db history feed desk out replies watch watched → stands watch []
      → ((members : List Member) → stands watched members → StandsFor names noted last members) → first ≡ 0 → BeginsWith noted seen → number ≡ (page_shown noted).number
      → Shows names (IsShownBy seen) (is_err shown) first at (written before) (written mid)
      → OnOk shown (Shows names (λ page. IsShownBy noted page ⊎ (page ≡ last)) (is_err ended) at end (written mid) (written now)) → OnOk ended (end ≡ max (max at number) last.number)
      → OnErr shown ((now ≡ mid) × IsErr ended) → HasCause (faults before) (faults mid) shown → OnOk shown (HasCause (faults mid) (faults now) ended)
      → LivesShown c (is_err ended) db names history feed desk out replies (object (written before) (written now) (faults before) (faults now))
  lives-shown stands watch watched c db history feed desk out replies names noted seen last first at end number w begun of none begins is s t is_end stopped cause behind =
      let printed = w.lives.prints.ahead.printed in
      record {
        lives = w.lives;
        all = w.all;
        shows =
            pages-of names (members_by db history printed) noted seen last first at end number none (numbers-rise db history w.lives.is_history.legal printed)
            (of (members_by db history printed) (w.told [] begun)) begins is s t is_end stopped;
        count = count-of cause behind stopped;
      }
