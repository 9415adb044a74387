-- Where each desk of a panel stands before and behind a part of a run. [This profile.]
use Rattle.std.specs.Prelude.{◌≡◌, ℕ, suc, ◌≤◌, ◌*◌, Bool, false, List, [], ◌∷◌, length, Option, Some, None}
use Rattle.desk_lines.specs.ToCome.{Reading}
use Rattle.desk_lines.specs.Reader.{read_to}
use Rattle.histories.specs.History.{StartsWith}
use Rattle.live_desk.specs.declared.desk_end.DeskEnd.{DeskEnd}
use Rattle.live_desk.specs.Scripts.{HasDeskCause, HasRepliesCause, Worked, fails_to_reply}
use Rattle.live_desk.specs.Standing.{Standing}
use Rattle.run_model.specs.Desk.{DeskState}
use Rattle.run_model.specs.RegisterHistories.{RegisterHistory}
use Rattle.panel_desk.specs.State.{panel_state}
use Rattle.panel_session.specs.declared.side.DeskSide.{DeskSide}
use Rattle.panel_session.specs.Begun.{Begins}
use Rattle.turn_cell.specs.Seats.{own_moves}

-- what is seen of the objects of a station: what is left of the script, how often that failed, the files that it holds and how often it failed to
-- turn to one; and what was written of the replies and handed on, and how often those failed
pub record Seen : Type 0 where
  pub left : Option (List ℕ)
  pub script_faults : ℕ
  pub holds : Option (List ℕ → Option (List ℕ))
  pub missed : ℕ
  pub written : Option (List ℕ)
  pub handed : Option (List ℕ)
  pub reply_faults : ℕ

-- how a desk ended, where it did, how far its script was read, its state, the moves of its seat, and what is seen of its objects
pub record Lane : Type 0 where
  pub end : Option DeskEnd
  pub read : Reading
  pub state : DeskState
  pub own : RegisterHistory
  pub seen : Seen

-- where it stands
abbrev pub standing_in : Lane → Standing
standing_in lane = record {
  read = lane.read;
  left = lane.seen.left;
  held = record { state = lane.state; own = lane.own; written = lane.seen.written };
}

-- of a desk by what it owns and by its objects
abbrev pub lane_of : DeskSide → Seen → Lane
lane_of side seen =
    record { end = side.end; read = read_to side.read; state = panel_state side.desk; own = own_moves side.seat; seen = seen }

-- of each desk
abbrev pub lanes : List DeskSide → List Seen → List Lane
lanes (side ∷ sides) (seen ∷ others) = lane_of side seen ∷ lanes sides others
lanes sides others = []

-- there is room for the moves of the lines that are to come
abbrev pub HasRoom : Lane → Type 0
HasRoom lane = length lane.own ≤ 2 * lane.read.lines

-- an object failed where its count of faults rose; all that was replied is handed on, unless the replies failed; no file was turned to
pub record Tells (old new : Lane) : Type 0 where
  pub script : HasDeskCause new.end old.seen.script_faults new.seen.script_faults
  pub replies : HasRepliesCause new.end old.seen.reply_faults new.seen.reply_faults
  pub handed : fails_to_reply new.end ≡ false → old.seen.handed ≡ old.seen.written → new.seen.handed ≡ new.seen.written
  pub holds : new.seen.holds ≡ old.seen.holds
  pub missed : new.seen.missed ≡ old.seen.missed

-- the desk of this number handled lines, to the end of its script or up to and with a `go` where that is waited for
pub record Goes (number : ℕ) (until_go : Bool) (old new : Lane) : Type 0 where
  pub worked : Worked (Some number) until_go new.end (standing_in old) (standing_in new)
  pub tells : Tells old new

-- the desk of this number began, by what was seen of the history before and is seen now
pub record BeginsSo (number : ℕ) (old new : Lane) (before now : RegisterHistory) : Type 0 where
  pub begins : Begins number new.end (standing_in old) (standing_in new) before now
  pub tells : Tells old new

-- so did all desks from this number on, each behind the one before it
abbrev pub AllBegin : ℕ → List Lane → List Lane → RegisterHistory → RegisterHistory → Type 0
AllBegin number [] [] before now = now ≡ before
AllBegin number (old ∷ olds) (new ∷ news) before now =
    (middle : RegisterHistory) × BeginsSo number old new before middle × AllBegin (suc number) olds news middle now
AllBegin number olds news before now = ⊥

-- a desk that had ended, or not, stayed so or handled its other lines
abbrev pub GoesOnFrom : Option DeskEnd → ℕ → Lane → Lane → Type 0
GoesOnFrom (Some e) number old new = new ≡ old
GoesOnFrom None number old new = Goes number false old new

-- the desk of this number handled the lines behind its first `go`, where it has one
abbrev pub GoesOn : ℕ → Lane → Lane → Type 0
GoesOn number old new = GoesOnFrom old.end number old new

-- so did all desks from this number on
abbrev pub AllGoOn : ℕ → List Lane → List Lane → Type 0
AllGoOn number [] [] = Unit {0}
AllGoOn number (old ∷ olds) (new ∷ news) = GoesOn number old new × AllGoOn (suc number) olds news
AllGoOn number olds news = ⊥

-- all desks from this number on began and went on, by what was seen of the history before they began and what was seen last
pub record Ran (number : ℕ) (olds news : List Lane) (before last : RegisterHistory) : Type 0 where
  pub begun : List Lane
  pub now : RegisterHistory
  pub begin : AllBegin number olds begun before now
  pub go_on : AllGoOn number begun news
  pub later : StartsWith last now
