-- Which entries and replies a desk's lines may have. [This profile.]
use Rattle.std.specs.Prelude.{◌≡◌, ◌⊎◌, ℕ, Bool, true, false, List, [], ◌∷◌, map, filter_map, Option, Some, None, if◌then◌else◌}
use Rattle.std.specs.List.{flat_map}
use Rattle.histories.specs.History.{move}
use Rattle.run_model.specs.declared.register.Answer.{Answer}
use Rattle.run_model.specs.declared.register.Entry.{Entry}
use Rattle.run_model.specs.declared.register.Entry.TheVariants as entry
use Rattle.run_model.specs.declared.reply.Reply.TheVariants as reply
use Rattle.run_model.specs.Desk.{DeskReply, Plain, DeskState, Way, Done, Ask}
use Rattle.run_model.specs.DeskWays.{way_of}
use Rattle.run_model.specs.RegisterHistories.{RegisterHistory}
use Rattle.run_model.specs.DeskLines.{Request, Put, Delete, Save, Drop, Use, UseFrom, Take, Go, request_of}

-- the entries that a desk made, each with its answer
abbrev pub Calls : Type 0
Calls = List (Entry × Answer)

-- the moves by which a single desk, of seat 1, makes entries that are answered so
abbrev pub moves_by : Calls → RegisterHistory
moves_by calls = map (λ call. move 1 call.0 call.1) calls

-- a way that was gone to its end: each entry is the one that it asks for
abbrev pub Follows : Way → Calls → Option DeskReply → DeskState → Type 0
Follows (Done r s) calls given state = (calls ≡ []) × (given ≡ r) × (state ≡ s)
Follows (Ask e on) [] given state = ⊥
Follows (Ask e on) (call ∷ calls) given state = (call.0 ≡ e) × Follows (on call.1) calls given state

-- ---- want of memory

-- whether want of memory may refuse a request
abbrev pub may_want : Request → Bool
may_want (Put table row) = true
may_want (Delete table key) = true
may_want Save = true
may_want Drop = true
may_want (Use e) = true
may_want (UseFrom e k) = true
may_want Take = true
may_want other = false

-- the entry by which a request of several desks first looks at an edition
abbrev pub look_of : Request → Option Entry
look_of Take = Some entry.Newest
look_of (Use e) = Some (entry.Look e)
look_of (UseFrom e k) = Some (entry.Look e)
look_of other = None

-- what want of memory may leave of a request: no entry, or of several desks the one that looks
abbrev pub LeavesLook : Bool → Request → Calls → Type 0
LeavesLook several request [] = Unit {0}
LeavesLook several request (call ∷ []) = (several ≡ true) × (look_of request ≡ Some call.0)
LeavesLook several request (call ∷ next ∷ calls) = ⊥

-- whether a reply is WANT
abbrev pub is_want : DeskReply → Bool
is_want (Plain reply.Want) = true
is_want other = false

-- ---- lines

-- what came of a line: the state that it found, its entries, its reply where it has one, and the state that it left
pub record LineRun : Type 0 where
  pub line : List ℕ
  pub old : DeskState
  pub calls : Calls
  pub reply : Option DeskReply
  pub new : DeskState

-- a request that want of memory refused: the reply is WANT, and all stands as before
pub record Wants (several : Bool) (request : Request) (run : LineRun) : Type 0 where
  pub may : may_want request ≡ true
  pub entries : LeavesLook several request run.calls
  pub told : run.reply ≡ Some (Plain reply.Want)
  pub kept : run.new ≡ run.old

-- a line went the way of its request to the end, or want of memory refused it
abbrev pub IsLine : Bool → LineRun → Type 0
IsLine several run =
    Follows (way_of several run.old (request_of several run.line)) run.calls run.reply run.new ⊎ Wants several (request_of several run.line) run

-- lines one after the other, from a state to a state: each finds what the one before it left
abbrev pub IsChain : Bool → DeskState → List LineRun → DeskState → Type 0
IsChain several old [] new = new ≡ old
IsChain several old (run ∷ runs) new = (run.old ≡ old) × IsLine several run × IsChain several run.new runs new

-- what lines do from a state on: their entries with the answers, their replies, and the state that they leave
pub record IsDesk (several : Bool) (old : DeskState) (lines : List (List ℕ)) (calls : Calls) (replies : List DeskReply) (new : DeskState) : Type 0 where
  pub runs : List LineRun
  pub of_lines : map (λ run. run.line) runs ≡ lines
  pub chain : IsChain several old runs new
  pub in_calls : flat_map (λ run. run.calls) runs ≡ calls
  pub in_replies : filter_map (λ run. run.reply) runs ≡ replies

-- ---- the prelude

-- whether a request is `go`
abbrev pub is_go : Request → Bool
is_go Go = true
is_go other = false

-- the lines up to and with the first `go`, or all where there is none
abbrev pub prelude : Bool → List (List ℕ) → List (List ℕ)
prelude several [] = []
prelude several (line ∷ lines) = line ∷ (if is_go (request_of several line) then [] else prelude several lines)
