-- What holds of a turn between any two atomic steps, and what each step tells. [This project's own.]
-- The four words are the tickets drawn, the ticket that is served, the number of entries, and the number of callers. The one slot is the state's.
use Rattle.std.specs.Prelude.{◌≡◌, ◌≢◌, ◌⊎◌, ℕ, true, false, ◌+◌, ◌<◌, ◌≤◌, List, [], ◌∷◌, length, Some}
use Rattle.std.specs.List.{AllByRecursion, sum_by}
use mathlib.Core.Option.{Option, some, none}
use lib.ListN.{get_elem?}
use Rattle.atomic_table.specs.Table.{State, Me, rest}
use Rattle.histories.specs.declared.history.Move.{Move}
use Rattle.histories.specs.History.{moves_of, IsLegal, IsOfSeatsBelow, Permits, StartsWith, state_after}
use Rattle.turn_cell.specs.declared.slot.Slot.{Slot}
use Rattle.turn_cell.specs.declared.slot.Slot.TheVariants.{Home, Noted}
use Rattle.turn_cell.specs.declared.view.Origin.{Origin}
use Rattle.turn_cell.specs.declared.view.View.{View}
use Rattle.turn_cell.specs.Standings.{bit, has_ticket, has_turn, has_entered, ticket_of}
use Rattle.turn_cell.specs.Views.{times, least, AreListed, origin_of, turned, entered, idle, spent}

module _ {C E A : Type 0} where
  -- one seat's view fits the words and the history
  pub record Fits (start : Origin C) (tickets serving : ℕ) (log : List (Move E A)) (v : View C E A) : Type 0 where
    -- a view knows the origin, or its seat was joined to another and nothing is left of it
    pub known : (v.origin ≡ Some start) ⊎ (v ≡ spent)
    -- a ticket lies from the one that is served to those that are drawn, and its seat holds a number
    pub ticket : has_ticket v.standing ≡ true → (serving ≤ ticket_of v.standing) × (ticket_of v.standing < tickets) × (1 ≤ length v.holdings)
    -- who has the turn has the ticket that is served, and has seen the whole history
    pub turn : has_turn v.standing ≡ true → (ticket_of v.standing ≡ serving) × (v.seen ≡ log)
    -- what it has seen is how the history begins, and all that is listed stands there
    pub seen : StartsWith log v.seen
    pub within : AreListed v.seen v.holdings
    -- the history's moves under its numbers are those that it lists
    pub all : AreListed log v.holdings
    pub fronts : AllByRecursion (StartsWith v.seen) v.fronts
    -- there is room for the entry of its turn
    pub room : has_ticket v.standing ≡ true → has_entered v.standing ≡ false → length (moves_of (least v.holdings) log) < 4294967296

  -- each number below the callers is held once, and no other
  pub record AreShared (callers : ℕ) (views : List (View C E A)) : Type 0 where
    pub held : sum_by (λ (v : View C E A). length v.holdings) views ≡ callers
    pub once : (n : ℕ) → n < callers → sum_by (λ (v : View C E A). times n v.holdings) views ≡ 1
    pub never : (n : ℕ) → callers ≤ n → sum_by (λ (v : View C E A). times n v.holdings) views ≡ 0

module _ {C E A : Type 0} (reply : C → E → A) (after : C → E → C) (may : ℕ → E → Type 0) where
  -- the history from the origin: legal, of callers that there are, and by what each may make, 2^32 moves of one at most
  pub record IsSound (start : Origin C) (log : List (Move E A)) : Type 0 where
    pub few : start.callers ≤ 255
    pub legal : IsLegal reply after start.state log
    pub permitted : Permits may log
    pub seats : IsOfSeatsBelow start.callers log
    pub short : (n : ℕ) → length (moves_of n log) ≤ 4294967296

module _ {S N C E A : Type 0} (mean : S → C) (reply : C → E → A) (after : C → E → C) (may : ℕ → E → Type 0) where
  -- nobody has the turn: there are as many entries as turns passed, and the state after them is at home
  abbrev pub Free : C → ℕ → List (Move E A) → List (Option (Slot S N)) → List (View C E A) → Type 0
  Free opening serving log homes views =
      ((i : ℕ) (v : View C E A) → get_elem? views i ≡ some v → has_turn v.standing ≡ false)
      × (length log ≡ serving)
      × ((x : S) × (homes ≡ some (Home x) ∷ []) × (mean x ≡ state_after after opening log))

  -- a seat has the turn: there is one entry more where it has made its own, and the slot is out
  abbrev pub Busy : ℕ → List (Move E A) → List (Option (Slot S N)) → List (View C E A) → Type 0
  Busy serving log homes views =
      (i : ℕ) × (v : View C E A) × (get_elem? views i ≡ some v) × (has_turn v.standing ≡ true)
      × (length log ≡ serving + bit (has_entered v.standing)) × (homes ≡ none ∷ [])

  -- the rule
  pub record Kept (start : Origin C) (s : State (Slot S N) (View C E A)) : Type 0 where
    pub tickets : ℕ
    pub serving : ℕ
    -- the history, which exists here alone
    pub log : List (Move E A)
    pub words : s.words ≡ tickets ∷ serving ∷ length log ∷ start.callers ∷ []
    pub sound : IsSound reply after may start log
    pub shared : AreShared start.callers s.views
    -- the tickets drawn are the turns passed and those that seats have, which differ
    pub waiting : sum_by (λ (v : View C E A). bit (has_ticket v.standing)) s.views + serving ≡ tickets
    pub apart : (i j : ℕ) (u v : View C E A) → get_elem? s.views i ≡ some u → get_elem? s.views j ≡ some v → has_ticket u.standing ≡ true →
        has_ticket v.standing ≡ true → ticket_of u.standing ≡ ticket_of v.standing → i ≡ j
    pub each : (i : ℕ) (v : View C E A) → get_elem? s.views i ≡ some v → Fits start tickets serving log v
    pub desk : Free start.state serving log s.homes s.views ⊎ Busy serving log s.homes s.views

  -- the seat got the turn and took the state, which is the one after all that was entered
  abbrev pub Seizes : Me (Slot S N) (View C E A) → Me (Slot S N) (View C E A) → Type 0
  Seizes m n =
      (x : S) × (log : List (Move E A))
      × (n ≡ (turned m.0 log, (0, Home x) ∷ m.1))
      × StartsWith log m.0.seen × AreListed log m.0.holdings × Permits may log
      × ((opening : C) (callers : ℕ) → m.0.origin ≡ Some (origin_of opening callers) → (mean x ≡ state_after after opening log)
      × IsLegal reply after opening log × IsOfSeatsBelow callers log)

  -- where another ticket is served, nothing changed
  abbrev pub Looks : Me (Slot S N) (View C E A) → ℕ → Me (Slot S N) (View C E A) → Type 0
  Looks m found n = (found ≡ ticket_of m.0.standing → Seizes m n) × (found ≢ ticket_of m.0.standing → n ≡ m)

module _ {S N C E A : Type 0} (reply : C → E → A) (after : C → E → C) where
  -- the entry of the note follows all that was seen, and has the machine's reply
  abbrev pub Makes : (N → E) → Me (Slot S N) (View C E A) → Me (Slot S N) (View C E A) → Type 0
  Makes event m n = (note : N) (opening : C) (callers : ℕ) → m.1 ≡ (0, Noted note) ∷ rest m.1 → m.0.origin ≡ Some (origin_of opening callers)
      → n ≡ (entered m.0 (event note) (reply (state_after after opening m.0.seen) (event note)), m.1)

module _ {P C E A : Type 0} where
  -- the seat has seen each front of its join, and now has none; what it has seen of its numbers is what it lists
  abbrev pub Settles : Me P (View C E A) → Me P (View C E A) → Type 0
  Settles m n = (n ≡ (idle m.0, m.1)) × AllByRecursion (StartsWith m.0.seen) m.0.fronts × AreListed m.0.seen m.0.holdings
