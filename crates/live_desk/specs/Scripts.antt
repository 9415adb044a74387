-- What a desk does with its script. [This profile.]
use Rattle.std.specs.Prelude.{◌≡◌, ◌⊎◌, ℕ, ◌+◌, ◌≤◌, Bool, true, false, List, [], ◌++◌, length, drop, Option, Some, None, IfSome, ⊤, if◌then◌else◌}
use Rattle.std.specs.Io.KnownBytes.{Appends, Consumes}
use Rattle.tm_io.specs.Octets.{AppendsPrefix, WritesUnless}
use Rattle.desk_lines.specs.ToCome.{IsAtLimit, IsWithin, still, meets_limit}
use Rattle.desk_lines.specs.Given.{IsUpTo, lines_given}
use Rattle.desk.specs.Handling.{moves_at}
use Rattle.histories.specs.History.{StartsWith, moves_of}
use Rattle.tm_io.specs.Causes.{RisesWhere}
use Rattle.live_desk.specs.declared.desk_end.DeskEnd.{DeskEnd}
use Rattle.live_desk.specs.declared.desk_end.DeskEnd.TheVariants as end
use Rattle.live_desk.specs.DeskEnds.{is_desk_fault, is_reply_fault, limit_line_at}
use Rattle.live_desk.specs.Operators.{is_several, seat_of}
use Rattle.live_desk.specs.Standing.{Standing}
use Rattle.mib_model.specs.declared.database.Database.{Database}
use Rattle.run_model.specs.Desk.{DeskReply, DeskState, desk_start}
use Rattle.run_model.specs.DeskRuns.{Calls, IsDesk, prelude}
use Rattle.run_model.specs.RegisterHistories.{RegisterHistory}
use Rattle.run_model.specs.Replies.{desk_text}
use Rattle.run_model.specs.Script.{most_lines, most_script, script, reaches_limit}

-- ---- lines of a script

-- at the desk of this number lines were handled one after the other, and others are still to come; this is the text of the replies
pub record Works (number : Option ℕ) (text : List ℕ) (before after : Standing) : Type 0 where
  pub handled : List (List ℕ)
  pub calls : Calls
  pub replies : List DeskReply
  pub own : after.held.own ≡ before.held.own ++ moves_at (seat_of number) calls
  pub is_desk : IsDesk (is_several number) before.held.state handled calls replies after.held.state
  pub given : List ℕ
  pub consumed : Consumes before.left after.left given
  pub whole : lines_given given ≤ length handled
  pub lines : after.read.lines ≡ before.read.lines + length handled
  pub octets : after.read.octets ≡ before.read.octets + length given
  pub upto : IfSome before.left (λ l. IsUpTo given after.left handled)
  pub ahead : IfSome before.left (λ l. IfSome after.left (λ b. still before.read l ≡ handled ++ still after.read b))
  pub limit : IfSome before.left (λ l. IfSome after.left (λ b. meets_limit before.read l ≡ meets_limit after.read b))
  pub told : text ≡ desk_text number replies

-- a script that ended without a fault was handled whole
abbrev pub IsHandled : DeskEnd → List (List ℕ) → Type 0
IsHandled end.Done others = others ≡ []
IsHandled end.Limit others = others ≡ []
IsHandled end.DeskFault others = ⊤
IsHandled end.ReplyFault others = ⊤

-- what stands behind the replies: the line of the limit where it is reached, unless the desk failed
abbrev pub tail_at : Option ℕ → DeskEnd → Bool → List ℕ
tail_at number e limit = if is_desk_fault e then [] else if limit then limit_line_at number else []

-- what may stand behind the replies, by the end alone
abbrev pub IsTail : Option ℕ → DeskEnd → List ℕ → Type 0
IsTail number end.Done tail = tail ≡ []
IsTail number end.Limit tail = tail ≡ limit_line_at number
IsTail number end.DeskFault tail = tail ≡ []
IsTail number end.ReplyFault tail = (tail ≡ []) ⊎ (tail ≡ limit_line_at number)

-- the replies failed: all before the last were written, and a first part of the last; or all were written, no line was left, and a first
-- part of the limit's line
abbrev pub FailsAt : Option ℕ → List DeskReply → List (List ℕ) → List ℕ → Option (List ℕ) → Option (List ℕ) → Type 0
FailsAt number replies others tail old new =
    (front : List DeskReply) × (more : List DeskReply) × (place : Option (List ℕ)) × Appends old place (desk_text number front)
    × (((replies ≡ front ++ more) × (length more ≤ 1) × AppendsPrefix place new (desk_text number more))
    ⊎ ((replies ≡ front) × (others ≡ []) × (tail ≡ limit_line_at number) × AppendsPrefix place new (limit_line_at number)))

-- a script ended at the desk of this number: its lines that were handled, and those that were not
pub record Ends (number : Option ℕ) (e : DeskEnd) (before after : Standing) : Type 0 where
  pub handled : List (List ℕ)
  pub others : List (List ℕ)
  pub calls : Calls
  pub replies : List DeskReply
  pub own : after.held.own ≡ before.held.own ++ moves_at (seat_of number) calls
  pub is_desk : IsDesk (is_several number) before.held.state handled calls replies after.held.state
  pub given : List ℕ
  pub consumed : Consumes before.left after.left given
  pub whole : lines_given given ≤ length handled
  pub lines : after.read.lines ≡ before.read.lines + length handled
  pub octets : after.read.octets ≡ before.read.octets + length given
  pub within : IsWithin after.read
  pub limited : e ≡ end.Limit → IsAtLimit after.read
  pub no_more : IfSome before.left (λ l. IsUpTo given after.left handled)
  pub parted : IfSome before.left (λ l. still before.read l ≡ handled ++ others)
  pub all : IsHandled e others
  pub tail : List ℕ
  pub by_end : IsTail number e tail
  pub is_tail : IfSome before.left (λ l. tail ≡ tail_at number e (meets_limit before.read l))
  pub told : WritesUnless (is_reply_fault e) before.held.written after.held.written (desk_text number replies ++ tail)
  pub fails_at : is_reply_fault e ≡ true → FailsAt number replies others tail before.held.written after.held.written

-- so lines were handled, none of them a `go` where that is waited for: the lines up to the first `go` go on with the others
pub record Working (number : Option ℕ) (until_go : Bool) (before after : Standing) : Type 0 where
  pub text : List ℕ
  pub works : Works number text before after
  pub no_go : until_go ≡ true → (more : List (List ℕ))
      → prelude (is_several number) (works.handled ++ more) ≡ works.handled ++ prelude (is_several number) more
  pub printed : Appends before.held.written after.held.written text

-- lines were handled up to and with a `go`, where that was to be waited for, and all their replies written
pub record Pauses (number : Option ℕ) (until_go : Bool) (before after : Standing) : Type 0 where
  pub waited : until_go ≡ true
  pub text : List ℕ
  pub works : Works number text before after
  pub is_prelude : (more : List (List ℕ)) → prelude (is_several number) (works.handled ++ more) ≡ works.handled
  pub printed : Appends before.held.written after.held.written text

-- or the script ended, before a `go` where that was to be waited for
pub record EndsEarly (number : Option ℕ) (until_go : Bool) (e : DeskEnd) (before after : Standing) : Type 0 where
  pub ends : Ends number e before after
  pub is_prelude : until_go ≡ true → prelude (is_several number) ends.handled ≡ ends.handled

-- what the desk of this number did
abbrev pub Worked : Option ℕ → Bool → Option DeskEnd → Standing → Standing → Type 0
Worked number until_go None before after = Pauses number until_go before after
Worked number until_go (Some e) before after = EndsEarly number until_go e before after

-- the count of the desk rose where it failed, and else stays as it was
abbrev pub HasDeskCause : Option DeskEnd → ℕ → ℕ → Type 0
HasDeskCause None before now = now ≡ before
HasDeskCause (Some e) before now = RisesWhere (is_desk_fault e) before now

-- the count of the replies rose where they failed, and else stays as it was
abbrev pub HasRepliesCause : Option DeskEnd → ℕ → ℕ → Type 0
HasRepliesCause None before now = now ≡ before
HasRepliesCause (Some e) before now = RisesWhere (is_reply_fault e) before now

-- whether the replies failed
abbrev pub fails_to_reply : Option DeskEnd → Bool
fails_to_reply None = false
fails_to_reply (Some e) = is_reply_fault e

-- ---- a desk's whole script

-- what the desk of this number did with its script: the lines up to the first `go`, and then the others. The moves of the first stand before
-- the first stamp
pub record DeskedAt (number : Option ℕ) (e : DeskEnd) (first : Database) (entries : Calls) (seen : RegisterHistory)
    (left behind old new : Option (List ℕ)) : Type 0 where
  pub given : List ℕ
  pub taken : Consumes left behind given
  pub handled : List (List ℕ)
  pub others : List (List ℕ)
  pub no_more : IfSome left (λ octets. IsUpTo given behind handled)
  pub of_script : IfSome left (λ octets. script octets ≡ handled ++ others)
  pub all : IsHandled e others
  pub whole : lines_given given ≤ length handled
  pub few : length handled ≤ most_lines
  pub short : length given ≤ most_script
  pub limited : e ≡ end.Limit → (length handled ≡ most_lines) ⊎ (length given ≡ most_script)
  pub early : Calls
  pub late : Calls
  pub early_replies : List DeskReply
  pub late_replies : List DeskReply
  pub middle : DeskState
  pub last : DeskState
  pub at_first : IsDesk (is_several number) (desk_start first) (prelude (is_several number) handled) early early_replies middle
  pub later : IsDesk (is_several number) middle (drop (length (prelude (is_several number) handled)) handled) late late_replies last
  pub entered : entries ≡ early ++ late
  pub tail : List ℕ
  pub by_end : IsTail number e tail
  pub is_tail : IfSome left (λ octets. tail ≡ tail_at number e (reaches_limit octets))
  pub told : WritesUnless (is_reply_fault e) old new (desk_text number (early_replies ++ late_replies) ++ tail)
  pub fails_at : is_reply_fault e ≡ true → FailsAt number (early_replies ++ late_replies) others tail old new
  pub front : RegisterHistory
  pub starts : StartsWith seen front
  pub no_stamp : moves_of 0 front ≡ []
  pub before : StartsWith (moves_of (seat_of number) front) (moves_at (seat_of number) early)

-- so by where it stood before and stands behind it, and by the moves of its seat
abbrev pub DeskedFrom : Option ℕ → DeskEnd → Database → RegisterHistory → Standing → Standing → Type 0
DeskedFrom number e first seen before after = (entries : Calls) × (after.held.own ≡ moves_at (seat_of number) entries)
    × DeskedAt number e first entries seen before.left after.left before.held.written after.held.written

-- what a single desk did with its script
abbrev pub Desked : DeskEnd → Database → Calls → RegisterHistory → Option (List ℕ) → Option (List ℕ) → Option (List ℕ) → Option (List ℕ) → Type 0
Desked e first entries seen left behind old new = DeskedAt None e first entries seen left behind old new
