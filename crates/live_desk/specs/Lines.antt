-- What comes of the next line of a desk. [This profile.]
use Rattle.std.specs.Prelude.{◌≡◌, ◌⊎◌, ℕ, Bool, true, false, List, [], Option, Some, None, IfSome}
use Rattle.std.specs.Option.{option_to_list}
use Rattle.std.specs.Io.KnownBytes.{Appends}
use Rattle.tm_io.specs.Octets.{AppendsPrefix, WritesUnless}
use Rattle.desk.specs.Handling.{HandlesLineAt}
use Rattle.desk_lines.specs.ToCome.{IsAtLimit}
use Rattle.desk_lines.specs.Gives.{TakesLine, TakesPart, NoneComes}
use Rattle.tm_io.specs.Causes.{RisesWhere}
use Rattle.live_desk.specs.declared.desk_end.DeskEnd.{DeskEnd}
use Rattle.live_desk.specs.declared.desk_end.DeskEnd.TheVariants as end
use Rattle.live_desk.specs.declared.line.Came.{Came}
use Rattle.live_desk.specs.declared.line.Came.TheVariants as came
use Rattle.live_desk.specs.DeskEnds.{is_desk_fault, is_reply_fault, limit_line_at}
use Rattle.live_desk.specs.Operators.{is_several, seat_of}
use Rattle.live_desk.specs.Standing.{DeskHeld, Standing}
use Rattle.run_model.specs.Desk.{DeskReply}
use Rattle.run_model.specs.DeskLines.{request_of}
use Rattle.run_model.specs.DeskRuns.{is_go}
use Rattle.run_model.specs.Replies.{desk_text}

-- the octets of a line, where there is one
abbrev pub line_text : Option (List ℕ) → List ℕ
line_text None = []
line_text (Some line) = line

-- a line was handled at the desk of this number, which is a `go` or not, and its reply was written, or in part where writing failed
pub record Replied (number : Option ℕ) (failed go : Bool) (line : List ℕ) (before after : DeskHeld) : Type 0 where
  pub given : Option DeskReply
  pub handles : HandlesLineAt (is_several number) (seat_of number) line before.state before.own after.own given after.state
  pub is_go : go ≡ is_go (request_of (is_several number) line)
  pub told : WritesUnless failed before.written after.written (desk_text number (option_to_list given))

-- a line was taken and handled so
pub record HandlesNext (number : Option ℕ) (failed go : Bool) (before after : Standing) : Type 0 where
  pub line : List ℕ
  pub takes : TakesLine before.read after.read before.left after.left line
  pub replied : Replied number failed go line before.held after.held

-- what came of a line
abbrev pub Answers : Option ℕ → Came → List ℕ → DeskHeld → DeskHeld → Type 0
Answers number (came.Handled go) line before after = Replied number false go line before after
Answers number (came.Ended end.ReplyFault) line before after = (go : Bool) × Replied number true go line before after
Answers number (came.Ended other) line before after = ⊥

-- no line was handled, since none is to come, at the script's limit or not; and this text was written, or in part where writing failed
pub record Stops (failed limit : Bool) (text : List ℕ) (before after : Standing) : Type 0 where
  pub takes : TakesPart before.read after.read before.left after.left
  pub none : IfSome before.left (NoneComes limit before.read)
  pub limited : limit ≡ true → IsAtLimit after.read
  pub same : after.held.state ≡ before.held.state
  pub own : after.held.own ≡ before.held.own
  pub told : WritesUnless failed before.held.written after.held.written text

-- the desk failed before a line was taken
pub record Fails (before after : Standing) : Type 0 where
  pub takes : TakesPart before.read after.read before.left after.left
  pub same : after.held.state ≡ before.held.state
  pub own : after.held.own ≡ before.held.own
  pub told : after.held.written ≡ before.held.written

-- what came of the next line
abbrev pub Comes : Option ℕ → Came → Standing → Standing → Type 0
Comes number (came.Handled go) before after = HandlesNext number false go before after
Comes number (came.Ended end.Done) before after = Stops false false [] before after
Comes number (came.Ended end.Limit) before after = Stops false true (limit_line_at number) before after
Comes number (came.Ended end.DeskFault) before after = Fails before after
Comes number (came.Ended end.ReplyFault) before after =
    ((go : Bool) × HandlesNext number true go before after) ⊎ Stops true true (limit_line_at number) before after

-- what was written at a script's limit
abbrev pub TellsLimit : Option ℕ → DeskEnd → Option (List ℕ) → Option (List ℕ) → Type 0
TellsLimit number end.Limit w0 w1 = Appends w0 w1 (limit_line_at number)
TellsLimit number end.ReplyFault w0 w1 = AppendsPrefix w0 w1 (limit_line_at number)
TellsLimit number other w0 w1 = ⊥

-- whether the replies failed at a line
abbrev pub fails_replying : Came → Bool
fails_replying (came.Handled go) = false
fails_replying (came.Ended e) = is_reply_fault e

-- where all that was written of the replies was handed on before, all that is written now is, unless they failed
abbrev pub HandsOn : {P : Type 0} → Bool → (P → Option (List ℕ)) → (P → Option (List ℕ)) → P → P → Type 0
HandsOn failed written handed old new = failed ≡ false → handed old ≡ written old → handed new ≡ written new

-- the count of the desk rose where it failed, and else stays as it was
abbrev pub HasScriptCause : Came → ℕ → ℕ → Type 0
HasScriptCause (came.Handled go) before now = now ≡ before
HasScriptCause (came.Ended e) before now = RisesWhere (is_desk_fault e) before now

-- the count of the replies rose where they failed, and else stays as it was
abbrev pub HasReplyCause : Came → ℕ → ℕ → Type 0
HasReplyCause (came.Handled go) before now = now ≡ before
HasReplyCause (came.Ended e) before now = RisesWhere (is_reply_fault e) before now
