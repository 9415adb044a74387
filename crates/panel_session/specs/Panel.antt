-- What a run leaves whose packets are printed beside the scripts of several desks. [This profile.]
use Rattle.std.specs.Prelude.{◌≡◌, ℕ, suc, ◌+◌, ◌<◌, ◌^◌, ◌==◌, Bool, List, [], ◌∷◌, length, Some}
use Rattle.std.specs.List.{AllZip, list_any}
use Rattle.decode_session.specs.Run.{most_packets}
use Rattle.histories.specs.History.{IsOfSeatsBelow, Permits, StartsWith, calls_of, moves_of}
use Rattle.live_desk.specs.declared.desk_end.DeskEnd.{DeskEnd}
use Rattle.live_desk.specs.DeskEnds.{is_desk_fault, is_reply_fault}
use Rattle.live_desk.specs.Scripts.{DeskedAt}
use Rattle.live_session.specs.Live.{Object, Prints, object}
use Rattle.run_model.specs.declared.code.Code.{Code}
use Rattle.mib_model.specs.declared.database.Database.{Database}
use Rattle.run_model.specs.Endings.{Ending, code_of_ending}
use Rattle.run_model.specs.RegisterHistories.{AddsItsPlans, IsRegisterHistory, MayEnter, RegisterHistory}
use Rattle.panel_session.specs.Lanes.{Seen}
use Rattle.tm_io.specs.Causes.{RisesWhere}

-- a history is the register's, of an intake and so many desks, and each edition that it adds has the plans of its tables
pub record IsPanelHistory (desks : ℕ) (first : Database) (history : RegisterHistory) : Type 0 where
  pub legal : IsRegisterHistory first history
  pub permitted : Permits MayEnter history
  pub seats : IsOfSeatsBelow (suc desks) history
  pub plans : AddsItsPlans history

-- a desk of a panel: how its script ended, and the script and the replies before and behind the run
pub record Station : Type 0 where
  pub end : DeskEnd
  pub script : Object
  pub replies : Object

-- the desk of this number did so with its script, by its moves in the history: those of its lines up to the first `go` stand behind this first
-- part of the history, in which it has none, and before the first stamp; an object failed where its count of faults rose
pub record Stands (number : ℕ) (first : Database) (history before : RegisterHistory) (station : Station) : Type 0 where
  pub desked : DeskedAt (Some number) station.end first (calls_of number history) history station.script.old station.script.new
      station.replies.old station.replies.new
  pub behind : StartsWith desked.front before
  pub unmoved : moves_of number before ≡ []
  pub desk_count : RisesWhere (is_desk_fault station.end) station.script.before station.script.now
  pub replies_count : RisesWhere (is_reply_fault station.end) station.replies.before station.replies.now

-- so did the desks from this number on, each behind the first lines of the one before it
abbrev pub StandInOrder : ℕ → Database → RegisterHistory → RegisterHistory → List Station → Type 0
StandInOrder number first history before [] = Unit {0}
StandInOrder number first history before (station ∷ stations) =
    (s : Stands number first history before station) × StandInOrder (suc number) first history s.desked.front stations

-- what happened in a run, by the faults of its objects, the rest of the feed and the number of packets
abbrev pub panel_ending : Bool → Bool → List Station → List ℕ → List (List ℕ) → Ending
panel_ending out_failed feed_failed stations rest packets = record {
  out_failed = out_failed;
  replies_failed = list_any (λ station. is_reply_fault station.end) stations;
  feed_failed = feed_failed;
  desk_failed = list_any (λ station. is_desk_fault station.end) stations;
  rest = length rest;
  is_limit = length packets == most_packets;
}

-- a run of a panel: its history, what it printed of the feed, and what each desk did with its script and replied, by that history; the code is
-- that of what happened
pub record LivesPanel (code : Code) (first : Database) (history : RegisterHistory) (feed : Object) (stations : List Station) (out : Object) : Type 0 where
  pub is_history : IsPanelHistory (length stations) first history
  pub prints : Prints first history feed out
  pub stand : StandInOrder 1 first history [] stations
  pub is_code : code ≡ code_of_ending (panel_ending prints.out_failed prints.feed_failed stations prints.rest prints.packets)

-- these desks have objects of which this was seen before and behind a run, in their order
abbrev pub HaveObjects : List Station → List Seen → List Seen → Type 0
HaveObjects [] [] [] = Unit {0}
HaveObjects (station ∷ stations) (old ∷ olds) (new ∷ news) =
    (station.script ≡ object old.left new.left old.script_faults new.script_faults)
    × (station.replies ≡ object old.written new.written old.reply_faults new.reply_faults) × HaveObjects stations olds news
HaveObjects stations olds news = ⊥

-- the objects of a desk keep their files, and turned to none; replies that didn't fail are handed on where those before were
pub record Keeps (old new : Seen) : Type 0 where
  pub holds : new.holds ≡ old.holds
  pub missed : new.missed ≡ old.missed
  pub handed : new.reply_faults ≡ old.reply_faults → old.reply_faults + 1 < 2 ^ 64 → old.handed ≡ old.written → new.handed ≡ new.written

-- so do those of all desks
abbrev pub AllKeep : List Seen → List Seen → Type 0
AllKeep olds news = AllZip Keeps olds news

-- a run of a panel of these objects: each desk's script ended somehow, and the objects kept what they keep
pub record LivesAt (code : Code) (first : Database) (history : RegisterHistory) (feed : Object) (olds news : List Seen) (out : Object) : Type 0 where
  pub stations : List Station
  pub have : HaveObjects stations olds news
  pub lives : LivesPanel code first history feed stations out
  pub keep : AllKeep olds news
