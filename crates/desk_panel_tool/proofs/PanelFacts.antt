-- What a panel says of its objects, from what its run says of them.
use Rattle.std.proofs.Common.{◌≡◌, ◌∙◌, ℕ, List, [], ◌∷◌, length, map, take, Option, None, Some, Result, Ok, Err, IfOk, inl, inr, refl, ap, subst}
use Rattle.std.proofs.Math.Nat.{suc_inj}
use Rattle.std.specs.List.{AllByRecursion, AllZip}
use Rattle.desk_panel_tool.proofs.StationFacts.{idle}
use Rattle.desk_panel_tool.specs.Inputs.{AreNotTurned, AreOpened, AreRefused, AreTurned}
use Rattle.desk_panel_tool.specs.Panel.{AreOf, Paneled, Ran, RanBy, StaysReplied, StoodAtEach, lines_before}
use Rattle.desk_panel_tool.specs.Stations.{AreIdle, IsIdle, StationView, stations}
use Rattle.live_session.specs.Live.{object, written_to}
use Rattle.run_model.specs.declared.code.Code.{Code}
use Rattle.run_model.specs.declared.code.Code.TheVariants as code
use Rattle.mib_model.specs.declared.database.Database.{Database}
use Rattle.run_model.specs.RegisterHistories.{RegisterHistory}
use Rattle.panel_session.specs.declared.station.Station.{Station}
use Rattle.panel_session.specs.Lanes.{Seen}
use Rattle.panel_session.specs.Panel.{HaveObjects, LivesPanel}
use Rattle.panel_session.specs.Panel as Run
use Rattle.session.specs.Sources.{Files}
use Rattle.tool_objects.specs.Objects.{ShelfView, SinkView, HasStood, IsUnwritten, shelf, sink}
use Rattle.tool_objects.specs.Opened.{IsTurned}
use Rattle.tool_objects.specs.Told.{HasTurned}
use Rattle.tool_words.specs.Panels.{PanelWords}

module _ {D R : Type 0} (holds : D → Option Files) (left : D → Option (List ℕ)) (faults missed : D → ℕ) (written handed : R → Option (List ℕ)) (failed : R → ℕ) where
  -- what is seen of a station
  abbrev seen_of : Station D R → Seen
  seen_of s = record {
    left = left s.desk;
    script_faults = faults s.desk;
    holds = holds s.desk;
    missed = missed s.desk;
    written = written s.replies;
    handed = handed s.replies;
    reply_faults = failed s.replies;
  }

  -- a station before and now
  abbrev view : Station D R → Station D R → StationView D R
  view a b = record { desk = shelf a.desk b.desk holds left faults missed; replies = sink a.replies b.replies written handed failed }

  abbrev views : List (Station D R) → List (Station D R) → List (StationView D R)
  views before now = stations before now holds left faults missed written handed failed

  -- the desks of a run are those of its stations
  pub have-of : (desks : List Run.Station) (old new : List (Station D R)) → HaveObjects desks (map seen_of old) (map seen_of new) → AreOf desks (lines_before (views old new)) (views old new)
  have-of [] [] [] have = tt
  have-of [] [] (b ∷ new) have = absurd have
  have-of [] (a ∷ old) new have = absurd have
  have-of (t ∷ desks) [] new have = absurd have
  have-of (t ∷ desks) (a ∷ old) [] have = absurd have
  have-of (t ∷ desks) (a ∷ old) (b ∷ new) (script, replies, have) = (script, replies, have-of desks old new have)

  -- what is said of stations by their objects before and now is said of them
  pub each-view : (P : Station D R → Station D R → Type 0) (Q : StationView D R → Type 0) → ((a b : Station D R) → P a b → Q (view a b)) → (old new : List (Station D R)) → AllZip P old new
      → AllByRecursion Q (views old new)
  each-view P Q turn [] [] said = tt
  each-view P Q turn [] (b ∷ new) said = absurd said
  each-view P Q turn (a ∷ old) [] said = absurd said
  each-view P Q turn (a ∷ old) (b ∷ new) (one, others) = (turn a b one, each-view P Q turn old new others)

  -- what is said of turned stations from where they stood then on, and so from before
  from-turned : (P Q : StationView D R → Type 0) → ((name : List ℕ) (a b c : Station D R) → IsTurned name (shelf a.desk b.desk holds left faults missed) → b.replies ≡ a.replies → P (view b c) → Q (view a c))
      → (names : List (List ℕ)) (old mid new : List (Station D R)) → length old ≡ length names → length mid ≡ length old → AreTurned names (views old mid) → AllByRecursion P (views mid new)
      → AllByRecursion Q (views old new)
  from-turned P Q turn names [] mid new l m turned said = tt
  from-turned P Q turn names (a ∷ old) mid [] l m turned said = tt
  from-turned P Q turn [] (a ∷ old) mid (c ∷ new) l m turned said = absurd (let bad = l in cc bad)
  from-turned P Q turn (name ∷ names) (a ∷ old) [] (c ∷ new) l m turned said = absurd (let bad = m in cc bad)
  from-turned P Q turn (name ∷ names) (a ∷ old) (b ∷ mid) (c ∷ new) l m (one, same, turned) (p, said) =
      (turn name a b c one same p, from-turned P Q turn names old mid new (suc_inj l) (suc_inj m) turned said)

  -- what was left of turned desks is what their files have
  pub stood-at : (names : List (List ℕ)) (old mid new : List (Station D R)) → length old ≡ length names → length mid ≡ length old → length new ≡ length old → AreTurned names (views old mid)
      → StoodAtEach names (views old new) (lines_before (views mid new))
  stood-at [] [] [] [] l m n turned = tt
  stood-at [] (a ∷ old) mid new l m n turned = absurd (let bad = l in cc bad)
  stood-at (name ∷ names) [] mid new l m n turned = absurd (let bad = l in cc bad)
  stood-at names [] (b ∷ mid) new l m n turned = absurd (let bad = m in cc bad)
  stood-at names [] mid (c ∷ new) l m n turned = absurd (let bad = n in cc bad)
  stood-at names (a ∷ old) [] new l m n turned = absurd (let bad = m in cc bad)
  stood-at names (a ∷ old) mid [] l m n turned = absurd (let bad = n in cc bad)
  stood-at (name ∷ names) (a ∷ old) (b ∷ mid) (c ∷ new) l m n (one, same, turned) = (one.held, stood-at names old mid new (suc_inj l) (suc_inj m) (suc_inj n) turned)

  -- desks that are of turned stations are so from before the turn
  pub of-turned : (desks : List Run.Station) (lines : List (Option (List ℕ))) (names : List (List ℕ)) (old mid new : List (Station D R)) → length old ≡ length names → length mid ≡ length old
      → length new ≡ length old → AreTurned names (views old mid) → AreOf desks lines (views mid new) → AreOf desks lines (views old new)
  of-turned [] [] [] [] [] [] l m n turned are = tt
  of-turned desks lines [] (a ∷ old) mid new l m n turned are = absurd (let bad = l in cc bad)
  of-turned desks lines (name ∷ names) [] mid new l m n turned are = absurd (let bad = l in cc bad)
  of-turned desks lines names [] (b ∷ mid) new l m n turned are = absurd (let bad = m in cc bad)
  of-turned desks lines names [] mid (c ∷ new) l m n turned are = absurd (let bad = n in cc bad)
  of-turned desks lines names (a ∷ old) [] new l m n turned are = absurd (let bad = m in cc bad)
  of-turned desks lines names (a ∷ old) mid [] l m n turned are = absurd (let bad = n in cc bad)
  of-turned [] (t ∷ lines) [] [] [] [] l m n turned are = absurd are
  of-turned (d ∷ desks) [] [] [] [] [] l m n turned are = absurd are
  of-turned (d ∷ desks) (t ∷ lines) [] [] [] [] l m n turned are = absurd are
  of-turned [] [] (name ∷ names) (a ∷ old) (b ∷ mid) (c ∷ new) l m n turned are = absurd are
  of-turned [] (t ∷ lines) (name ∷ names) (a ∷ old) (b ∷ mid) (c ∷ new) l m n turned are = absurd are
  of-turned (d ∷ desks) [] (name ∷ names) (a ∷ old) (b ∷ mid) (c ∷ new) l m n turned are = absurd are
  of-turned (d ∷ desks) (t ∷ lines) (name ∷ names) (a ∷ old) (b ∷ mid) (c ∷ new) l m n (one, same, turned) (script, replies, are) = (
    script ∙ ap (λ (k : ℕ). object t (left c.desk) k (faults c.desk)) one.stood,
    replies ∙ ap (λ (r : R). object (written r) (written c.replies) (failed r) (failed c.replies)) same,
    of-turned desks lines names old mid new (suc_inj l) (suc_inj m) (suc_inj n) turned are,
  )

  module _ {T F O : Type 0} (f0 f1 f2 : F) (fholds : F → Option Files) (fleft : F → Option (List ℕ)) (ffaults fmissed : F → ℕ)
      (c : Code) (w : PanelWords) (first : Database) (tables : ShelfView T) (out : SinkView O) (old mid new : List (Station D R))
      (l : length old ≡ length w.desks) (m : length mid ≡ length old) (n : length new ≡ length old) where
    abbrev Opened : Type 0
    Opened = AreOpened first w tables (shelf f0 f1 fholds fleft ffaults fmissed) (views old mid)

    -- a run from where its inputs stood is one from the call on
    ran-from : (history : RegisterHistory) (lines : List (Option (List ℕ))) → Opened
        → Ran c history first (fleft f1) lines (shelf f1 f2 fholds fleft ffaults fmissed) (views mid new) out
        → Ran c history first (fleft f1) lines (shelf f0 f2 fholds fleft ffaults fmissed) (views old new) out
    ran-from history lines opened r = record {
      feed_turned = r.feed_turned ∙ opened.had.of_feed.turned;
      desks_turned = from-turned (λ s. HasTurned s.desk) (λ s. HasTurned s.desk) (λ name a b d one same now. now ∙ one.turned) w.desks old mid new l m opened.had.of_desks r.desks_turned;
      handed = r.handed;
      replied =
          from-turned (λ s. StaysReplied s) (λ s. StaysReplied s) (λ name a b d one same now. subst (λ (x : R). StaysReplied (record { desk = shelf a.desk d.desk holds left faults missed; replies = sink x d.replies written handed failed })) same now)
          w.desks old mid new l m opened.had.of_desks r.replied;
      desks = r.desks;
      are_of = of-turned r.desks lines w.desks old mid new l m n opened.had.of_desks r.are_of;
      lives = subst (λ (k : ℕ). LivesPanel c first history (object (fleft f1) (fleft f2) k (ffaults f2)) r.desks (written_to out)) opened.had.of_feed.stood r.lives;
    }

    -- what a panel says whose inputs were opened
    pub paneled : (closed : Option RegisterHistory) → Opened
        → RanBy c closed first (shelf f1 f2 fholds fleft ffaults fmissed) (views mid new) out
        → Paneled c closed w tables (shelf f0 f2 fholds fleft ffaults fmissed) (views old new) out
    paneled None opened (is, same_feed, idle, unwritten) = (
      inr (
        is,
        opened.sound.stood,
        ap ffaults same_feed ∙ opened.had.of_feed.stood,
        from-turned (λ s. IsIdle s) (λ s. HasStood s.desk) (λ name a b d one same now. ap faults now.desk ∙ one.stood) w.desks old mid new l m opened.had.of_desks idle,
      ),
      unwritten,
      from-turned (λ s. IsIdle s) (λ s. IsUnwritten s.replies) (λ name a b d one same now. now.replies ∙ same) w.desks old mid new l m opened.had.of_desks idle,
    )
    paneled (Some history) opened r = record {
      first = first;
      octets = fleft f1;
      lines = lines_before (views mid new);
      sound = opened.sound;
      of_feed = opened.had.of_feed.held;
      of_desks = stood-at w.desks old mid new l m n opened.had.of_desks;
      ran = ran-from history (lines_before (views mid new)) opened r;
    }

-- ---- a call whose run didn't open

-- no replies were written where no station was called
idle-unwritten : {D R : Type 0} (stations : List (StationView D R)) → AreIdle stations → AllByRecursion (λ s. IsUnwritten s.replies) stations
idle-unwritten [] idle = tt
idle-unwritten (s ∷ stations) (one, idle) = (one.replies, idle-unwritten stations idle)

-- nor where a desk was not to be had
not-turned-unwritten : {D R : Type 0} (c : Code) (names : List (List ℕ)) (stations : List (StationView D R)) → AreNotTurned c names stations → AllByRecursion (λ s. IsUnwritten s.replies) stations
not-turned-unwritten c names [] said = tt
not-turned-unwritten c [] (s ∷ stations) said = absurd said
not-turned-unwritten c (name ∷ names) (s ∷ stations) (inl (unturned, same, idle)) = (same, idle-unwritten stations idle)
not-turned-unwritten c (name ∷ names) (s ∷ stations) (inr (done, same, said)) = (same, not-turned-unwritten c names stations said)

-- nor where any input was refused
pub refused-unwritten : {T F D R : Type 0} (c : Code) (w : PanelWords) (tables : ShelfView T) (feed : ShelfView F) (stations : List (StationView D R)) → AreRefused c w tables feed stations
    → AllByRecursion (λ s. IsUnwritten s.replies) stations
refused-unwritten c w tables feed stations (inl (u, unfed, idle)) = idle-unwritten stations idle
refused-unwritten c w tables feed stations (inr (d, sound, inl (unfed, idle))) = idle-unwritten stations idle
refused-unwritten c w tables feed stations (inr (d, sound, inr (fed, undesked))) = not-turned-unwritten c w.desks stations undesked

-- desks of stations that weren't called stood
idle-stood : {D R : Type 0} (stations : List (StationView D R)) → AreIdle stations → AllByRecursion (λ s. HasStood s.desk) stations
idle-stood [] idle = tt
idle-stood (s ∷ stations) (one, idle) = (ap s.desk.faults one.desk, idle-stood stations idle)

-- where memory ran out before any object was called, whatever was asked for
pub wanting : {T F D R O E : Type 0} (asked : Result PanelWords E) (t : T) (f : F) (same : List (Station D R)) (o : O) (tholds : T → Option Files) (tleft : T → Option (List ℕ)) (tfaults tmissed : T → ℕ)
    (fholds : F → Option Files) (fleft : F → Option (List ℕ)) (ffaults fmissed : F → ℕ) (holds : D → Option Files) (left : D → Option (List ℕ)) (faults missed : D → ℕ) (written handed : R → Option (List ℕ)) (failed : R → ℕ)
    (owritten ohanded : O → Option (List ℕ)) (ofaults : O → ℕ)
    → IfOk asked (λ w. Paneled code.Want None w (shelf t t tholds tleft tfaults tmissed) (shelf f f fholds fleft ffaults fmissed)
    (stations (take (length w.desks) same) (take (length w.desks) same) holds left faults missed written handed failed) (sink o o owritten ohanded ofaults))
wanting (Err e) t f same o tholds tleft tfaults tmissed fholds fleft ffaults fmissed holds left faults missed written handed failed owritten ohanded ofaults = tt
wanting (Ok w) t f same o tholds tleft tfaults tmissed fholds fleft ffaults fmissed holds left faults missed written handed failed owritten ohanded ofaults =
    let ones = idle (take (length w.desks) same) holds left faults missed written handed failed in
    let views = stations (take (length w.desks) same) (take (length w.desks) same) holds left faults missed written handed failed in
    (inr (refl, refl, refl, idle-stood views ones), refl, idle-unwritten views ones)
