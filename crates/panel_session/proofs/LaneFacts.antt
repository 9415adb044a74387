-- What the desks of a panel did in a whole run, by how each began and went on.
use Rattle.std.proofs.Common.{◌≡◌, ◌∙◌, ℕ, suc, ◌+◌, ◌<◌, ◌^◌, false, List, [], ◌∷◌, map, Option, Some, None, refl, sym, ap, subst, append-nil}
use Rattle.std.proofs.lemmas.Bool.{false≢true}
use Rattle.std.specs.List.{AllByRecursion}
use Rattle.desk_lines.specs.ToCome.{Reading}
use Rattle.histories.specs.History.{StartsWith, moves_of}
use Rattle.live_desk.specs.declared.desk_end.DeskEnd.{DeskEnd}
use Rattle.live_desk.specs.DeskEnds.{is_desk_fault, is_reply_fault}
use Rattle.live_desk.specs.Scripts.{HasRepliesCause, Worked, fails_to_reply}
use Rattle.live_desk.proofs.DeskFacts.{starts-more}
use Rattle.live_session.proofs.LiveFacts.{unfailed}
use Rattle.mib_model.specs.declared.database.Database.{Database}
use Rattle.run_model.specs.Desk.{DeskState}
use Rattle.run_model.specs.RegisterHistories.{RegisterHistory}
use Rattle.panel_session.specs.Lanes.{AllBegin, AllGoOn, BeginsSo, GoesOnFrom, Lane, Seen, Tells, standing_in}
use Rattle.panel_session.specs.Panel.{AllKeep, HaveObjects, Keeps, StandInOrder, Stands, Station}
use Rattle.panel_session.proofs.StandFacts.{IsNew, stands-both, stands-early, station_of}
use Rattle.tm_io.specs.Causes.{RisesWhere}

-- a desk that has done nothing
pub record IsNewLane (first : Database) (lane : Lane) : Type 0 where
  pub new : IsNew first (standing_in lane)
  pub going : lane.end ≡ None

-- a lane of these parts
abbrev laned : Option DeskEnd → Reading → DeskState → RegisterHistory → Seen → Lane
laned end read state own seen = record { end = end; read = read; state = state; own = own; seen = seen }

-- each lane has the moves of its number, from this one on
abbrev pub AllOwn : ℕ → RegisterHistory → List Lane → Type 0
AllOwn number history [] = Unit {0}
AllOwn number history (lane ∷ others) = (moves_of number history ≡ lane.own) × AllOwn (suc number) history others

-- each lane ended as its desk did
abbrev pub EndAs : List Lane → List Station → Type 0
EndAs [] [] = Unit {0}
EndAs (lane ∷ lanes) (station ∷ stations) = (lane.end ≡ Some station.end) × EndAs lanes stations
EndAs lanes stations = ⊥

-- the desk of a lane, which ended so
abbrev desk_of : DeskEnd → Seen → Seen → Lane → Lane → Station
desk_of e old new from to =
    station_of e (standing_in from) (standing_in to) (old.script_faults, new.script_faults) (old.reply_faults, new.reply_faults)

-- what all that a desk did comes to
record Whole (number : ℕ) (first : Database) (history before middle : RegisterHistory) (old new : Lane) : Type 0 where
  e : DeskEnd
  ended : new.end ≡ Some e
  stands : Stands number first history before (desk_of e old.seen new.seen old new)
  front : stands.desked.front ≡ middle
  keeps : Keeps old.seen new.seen

-- what the objects of a desk that ended keep
keeps-ended : (e : DeskEnd) (old new : Lane) → Tells old new → new.end ≡ Some e → Keeps old.seen new.seen
keeps-ended e old new t is = record {
  holds = t.holds;
  missed = t.missed;
  handed = λ same more. t.handed (ap fails_to_reply is ∙ unfailed (is_reply_fault e) old.seen.reply_faults new.seen.reply_faults (replies e is t.replies) same more);
} where
  replies : (e : DeskEnd) → new.end ≡ Some e → HasRepliesCause new.end old.seen.reply_faults new.seen.reply_faults → RisesWhere (is_reply_fault e) old.seen.reply_faults new.seen.reply_faults
  replies e is cause = subst (λ (o : Option DeskEnd). HasRepliesCause o old.seen.reply_faults new.seen.reply_faults) is cause

-- and of one that paused before
keeps-paused : (old middle new : Seen) → Keeps middle new → middle.holds ≡ old.holds → middle.missed ≡ old.missed → middle.reply_faults ≡ old.reply_faults → (old.handed ≡ old.written → middle.handed ≡ middle.written) → Keeps old new
keeps-paused old middle new k holds missed same handed = record {
  holds = k.holds ∙ holds;
  missed = k.missed ∙ missed;
  handed = λ stays more all. k.handed (stays ∙ sym same) (subst (λ n. n + 1 < 2 ^ 64) (sym same) more) (handed all);
}

module _ (number : ℕ) (first : Database) (history before middle : RegisterHistory) (whole : StartsWith history middle) (old : Lane) (fresh : IsNewLane first old) where
  -- a desk that ended before a `go`
  whole-early : (e : DeskEnd) (read : Reading) (state : DeskState) (own : RegisterHistory) (seen : Seen) → BeginsSo number old (laned (Some e) read state own seen) before middle → moves_of number history ≡ own
      → Whole number first history before middle old (laned (Some e) read state own seen)
  whole-early e read state own seen b is =
      let new = laned (Some e) read state own seen in
      let stood = stands-early number first history before middle whole e (standing_in old) (standing_in new) (old.seen.script_faults, seen.script_faults) (old.seen.reply_faults, seen.reply_faults) fresh.new b.begins is b.tells.script b.tells.replies in
      record { e = e; ended = refl; stands = stood.0; front = stood.1; keeps = keeps-ended e old new b.tells refl }

  -- one that went on behind it
  whole-late : (end : Option DeskEnd) (read later : Reading) (state last : DeskState) (own more : RegisterHistory) (seen now : Seen) → BeginsSo number old (laned None read state own seen) before middle
      → Worked (Some number) false end (standing_in (laned None read state own seen)) (standing_in (laned end later last more now)) → Tells (laned None read state own seen) (laned end later last more now) → moves_of number history ≡ more
      → Whole number first history before middle old (laned end later last more now)
  whole-late None read later state last own more seen now b worked t is = absurd (false≢true worked.waited)
  whole-late (Some e) read later state last own more seen now b worked t is =
      let begun = laned None read state own seen in let new = laned (Some e) later last more now in
      let asked : RisesWhere (is_desk_fault e) old.seen.script_faults now.script_faults = subst (λ n. RisesWhere (is_desk_fault e) n now.script_faults) b.tells.script t.script in
      let replied : RisesWhere (is_reply_fault e) old.seen.reply_faults now.reply_faults = subst (λ n. RisesWhere (is_reply_fault e) n now.reply_faults) b.tells.replies t.replies in
      let stood = stands-both number first history before middle whole e (standing_in old) (standing_in begun) (standing_in new) (old.seen.script_faults, now.script_faults) (old.seen.reply_faults, now.reply_faults) fresh.new b.begins worked is asked replied in
      record { e = e; ended = refl; stands = stood.0; front = stood.1; keeps = keeps-paused old.seen seen now (keeps-ended e begun new t refl) b.tells.holds b.tells.missed b.tells.replies (b.tells.handed refl) }

  -- so or so
  whole-desk : (end : Option DeskEnd) (read : Reading) (state : DeskState) (own : RegisterHistory) (seen : Seen) (new : Lane) → BeginsSo number old (laned end read state own seen) before middle
      → GoesOnFrom end number (laned end read state own seen) new → moves_of number history ≡ new.own → Whole number first history before middle old new
  whole-desk (Some e) read state own seen new b same is =
      subst (λ (lane : Lane). Whole number first history before middle old lane) (sym same) (whole-early e read state own seen b (is ∙ ap (λ (lane : Lane). lane.own) same))
  whole-desk None read state own seen new b goes is = whole-late new.end read new.read state new.state own new.own seen new.seen b goes.worked goes.tells is

-- ---- all desks

-- what a desk's first lines leave goes on from what was seen before
all-behind : (number : ℕ) (olds news : List Lane) (before now : RegisterHistory) → AllBegin number olds news before now → StartsWith now before
all-behind number [] [] before now same = ([], same ∙ sym (append-nil before))
all-behind number (old ∷ olds) (new ∷ news) before now (middle, b, rest) = starts-more before middle now b.begins.behind (all-behind (suc number) olds news middle now rest)
all-behind number [] (new ∷ news) before now none = absurd none
all-behind number (old ∷ olds) [] before now none = absurd none

-- what was seen of objects
abbrev pub seen_of : List Lane → List Seen
seen_of lanes = map (λ lane. lane.seen) lanes

-- what all that the desks did comes to
pub record AllWhole (number : ℕ) (first : Database) (history before : RegisterHistory) (olds news : List Lane) : Type 0 where
  pub stations : List Station
  pub have : HaveObjects stations (seen_of olds) (seen_of news)
  pub stand : StandInOrder number first history before stations
  pub ended : EndAs news stations
  pub keep : AllKeep (seen_of olds) (seen_of news)

more-desks : (number : ℕ) (first : Database) (history before middle : RegisterHistory) (old new : Lane) (olds news : List Lane) → Whole number first history before middle old new
    → AllWhole (suc number) first history middle olds news → AllWhole number first history before (old ∷ olds) (new ∷ news)
more-desks number first history before middle old new olds news w all = record {
  stations = desk_of w.e old.seen new.seen old new ∷ all.stations;
  have = (refl, refl, all.have);
  stand = (w.stands, subst (λ (f : RegisterHistory). StandInOrder (suc number) first history f all.stations) (sym w.front) all.stand);
  ended = (w.ended, all.ended);
  keep = (w.keeps, all.keep);
}

pub all-whole : (number : ℕ) (first : Database) (history before now : RegisterHistory) (olds begun news : List Lane) → StartsWith history now → AllByRecursion (IsNewLane first) olds → AllBegin number olds begun before now
    → AllGoOn number begun news → AllOwn number history news → AllWhole number first history before olds news
all-whole number first history before now [] [] [] whole fresh b goes own = record { stations = []; have = tt; stand = tt; ended = tt; keep = tt }
all-whole number first history before now (old ∷ olds) (l ∷ begun) (new ∷ news) whole fresh (middle, b, rest) goes own =
    let further = starts-more middle now history (all-behind (suc number) olds begun middle now rest) whole in
    more-desks number first history before middle old new olds news
    (whole-desk number first history before middle further old fresh.0 l.end l.read l.state l.own l.seen new b goes.0 own.0)
    (all-whole (suc number) first history middle now olds begun news whole fresh.1 rest goes.1 own.1)
all-whole number first history before now [] [] (new ∷ news) whole fresh b goes own = absurd goes
all-whole number first history before now [] (l ∷ begun) news whole fresh b goes own = absurd b
all-whole number first history before now (old ∷ olds) [] news whole fresh b goes own = absurd b
all-whole number first history before now (old ∷ olds) (l ∷ begun) [] whole fresh b goes own = absurd goes
