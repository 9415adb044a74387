-- Laws of a desk's lines.
use Rattle.std.specs.Prelude.{◌≡◌, ◌↔◌, ℕ, Bool, false, List, [], ◌++◌, length, map}
use Rattle.std.specs.List.{list_any}
use Rattle.histories.specs.History.{IsLegal, IsOfSeatsBelow, Permits, StartsWith, calls_of, moves_of}
use Rattle.run_model.specs.declared.register.Register.{Register}
use Rattle.run_model.specs.Desk.{DeskReply, DeskState}
use Rattle.run_model.specs.DeskRuns.{Calls, IsDesk, is_want, moves_by}
use Rattle.run_model.specs.Register.{answer_to, after}
use Rattle.mib_model.specs.declared.database.Database.{Database}
use Rattle.run_model.specs.RegisterHistories.{IsRegisterHistory, MayEnter, RegisterHistory}

-- what two lists of lines do in a row: a state between them, and what each does on its own
pub record InParts (several : Bool) (old : DeskState) (front lines : List (List ℕ)) (calls : Calls) (replies : List DeskReply) (new : DeskState) : Type 0 where
  pub middle : DeskState
  pub first_calls : Calls
  pub more_calls : Calls
  pub first_replies : List DeskReply
  pub more_replies : List DeskReply
  pub first : IsDesk several old front first_calls first_replies middle
  pub more : IsDesk several middle lines more_calls more_replies new
  pub in_calls : first_calls ++ more_calls ≡ calls
  pub in_replies : first_replies ++ more_replies ≡ replies

-- a desk goes by parts: what lines do in a row is what the first do, and then what the others do
abbrev pub DeskGoesByParts : Type 0
DeskGoesByParts =
    (several : Bool) (old : DeskState) (front lines : List (List ℕ)) (calls : Calls) (replies : List DeskReply) (new : DeskState) →
    IsDesk several old (front ++ lines) calls replies new ↔ InParts several old front lines calls replies new

-- without WANT lines and the answers to their entries decide the entries, the replies and the state
abbrev pub LinesDecide : Type 0
LinesDecide =
    (several : Bool) (old : DeskState) (lines : List (List ℕ)) (calls others : Calls) (replies told : List DeskReply) (new end : DeskState) →
    list_any is_want replies ≡ false → list_any is_want told ≡ false → map (λ call. call.1) calls ≡ map (λ call. call.1) others →
    IsDesk several old lines calls replies new → IsDesk several old lines others told end → (calls ≡ others) × (replies ≡ told) × (new ≡ end)

-- entries that are made one right behind the other from a state of the register on: each answer is the register's
abbrev pub AreAlone : Register → Calls → Type 0
AreAlone register calls = IsLegal answer_to after register (moves_by calls)

-- where nothing comes between its entries and none of its replies is WANT, the lines of a desk decide the entries, the answers, the replies
-- and the state
abbrev pub LinesAloneDecide : Type 0
LinesAloneDecide =
    (several : Bool) (register : Register) (old : DeskState) (lines : List (List ℕ)) (calls others : Calls) (replies told : List DeskReply) (new end : DeskState) →
    list_any is_want replies ≡ false → list_any is_want told ≡ false → AreAlone register calls → AreAlone register others →
    IsDesk several old lines calls replies new → IsDesk several old lines others told end → (calls ≡ others) × (replies ≡ told) × (new ≡ end)

-- a history of an intake and a desk in which the desk makes all its entries, answered so, before the first stamp
pub record IsDeskFirst (history : RegisterHistory) (calls : Calls) : Type 0 where
  pub seats : IsOfSeatsBelow 2 history
  pub permitted : Permits MayEnter history
  pub all : calls_of 1 history ≡ calls
  pub front : RegisterHistory
  pub starts : StartsWith history front
  pub no_stamp : moves_of 0 front ≡ []
  pub before : StartsWith (moves_of 1 front) (moves_by calls)

-- such a history has the moves of the desk, and behind them those of the intake
abbrev pub DeskGoesFirst : Type 0
DeskGoesFirst = (history : RegisterHistory) (calls : Calls) → IsDeskFirst history calls → history ≡ moves_by calls ++ moves_of 0 history

-- the entries of the desk and the number of packets decide such a history of the register
abbrev pub DeskFirstDecides : Type 0
DeskFirstDecides =
    (first : Database) (history other : RegisterHistory) (calls : Calls) → IsRegisterHistory first history → IsRegisterHistory first other →
    IsDeskFirst history calls → IsDeskFirst other calls → length (moves_of 0 history) ≡ length (moves_of 0 other) → history ≡ other
