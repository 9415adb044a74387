-- What a desk's line comes to at the register: of a single desk, and of each of several. [This profile.]
use Rattle.std.specs.Prelude.{◌≡◌, ◌⊎◌, ℕ, ◌+◌, Bool, true, false, List, [], ◌++◌, map, Option, Some, option_map, ⊤}
use Rattle.histories.specs.History.{move}
use Rattle.run_model.specs.declared.reply.Reply.{Reply}
use Rattle.run_model.specs.declared.reply.Reply.TheVariants as reply
use Rattle.run_model.specs.Desk.{DeskReply, DeskState, Plain}
use Rattle.run_model.specs.DeskLines.{Request, Save, Use, UseFrom, Take}
use Rattle.run_model.specs.DeskRuns.{Calls, Follows, IsLine, LineRun, Wants}
use Rattle.run_model.specs.DeskWays.{way_of}
use Rattle.run_model.specs.RegisterHistories.{RegisterHistory}
use Rattle.desk.specs.declared.edits.Entering.{Entering}
use Rattle.desk.specs.declared.edits.Entering.TheVariants as entering
use Rattle.desk.specs.Drafts.{Drafted, state_by}

-- what came of a line
abbrev pub run_with : List ℕ → DeskState → Calls → Option DeskReply → DeskState → LineRun
run_with line old calls given new = record { line = line; old = old; calls = calls; reply = given; new = new }

-- what came of a line at a single desk
abbrev pub run_of : List ℕ → DeskState → Calls → Option Reply → DeskState → LineRun
run_of line old calls given new = run_with line old calls (option_map Plain given) new

-- the moves by which the desk of a seat makes entries that are answered so
abbrev pub moves_at : ℕ → Calls → RegisterHistory
moves_at seat calls = map (λ call. move seat call.0 call.1) calls

-- a request went its way, or want of memory refused it
abbrev pub IsDone : Bool → Request → LineRun → Type 0
IsDone several request run = Follows (way_of several run.old request) run.calls run.reply run.new ⊎ Wants several request run

-- at the desk of a seat, one of several or a single one, a line went the way of its request, or want of memory refused it; the seat's moves grew by
-- the entries that were made
pub record HandlesLineAt (several : Bool) (seat : ℕ) (line : List ℕ) (old : DeskState) (before after : RegisterHistory) (given : Option DeskReply)
    (new : DeskState) : Type 0 where
  pub calls : Calls
  pub own : after ≡ before ++ moves_at seat calls
  pub is_line : IsLine several (run_with line old calls given new)

-- so at a single desk
abbrev pub HandlesLine : List ℕ → DeskState → RegisterHistory → RegisterHistory → Option Reply → DeskState → Type 0
HandlesLine line old before after given new = HandlesLineAt false 1 line old before after (option_map Plain given) new

-- at the desk of a seat a request went its way, or want of memory refused it; the seat's moves grew by the entries that were made
pub record HandlesAt (several : Bool) (seat : ℕ) (request : Request) (old : DeskState) (before after : RegisterHistory) (given : Option DeskReply)
    (new : DeskState) : Type 0 where
  pub calls : Calls
  pub own : after ≡ before ++ moves_at seat calls
  pub is_done : IsDone several request (run_with [] old calls given new)

-- so at a single desk
abbrev pub Handles : Request → DeskState → RegisterHistory → RegisterHistory → Option Reply → DeskState → Type 0
Handles request old before after given new = HandlesAt false 1 request old before after (option_map Plain given) new

-- without an entry a request went its way from a draft to a draft, at a single desk and at one of several, or want of memory refused it
abbrev pub Edits : Request → Drafted → Option Reply → Drafted → Type 0
Edits request old given new = (several : Bool) (edition : ℕ) → IsDone several request (run_of [] (state_by edition old) [] given (state_by edition new))

-- whether a request is one that makes an entry, where nothing hinders it
abbrev pub enters : Request → Bool
enters Save = true
enters (Use edition) = true
enters (UseFrom edition from) = true
enters Take = true
enters other = false

-- the request that the register is needed for
abbrev pub needed : Entering → Request
needed entering.Save = Save
needed (entering.Use edition) = Use edition
needed (entering.UseFrom edition from) = UseFrom edition from

-- how many plans were compiled: of a draft that is saved those that the reply tells, and of other requests none; of a draft that isn't
-- saved it is left open
abbrev pub Ticks : Request → Option DeskReply → ℕ → ℕ → Type 0
Ticks Save (Some (Plain (reply.Saved edition plans))) before now = now ≡ before + plans
Ticks Save given before now = ⊤
Ticks request given before now = now ≡ before
