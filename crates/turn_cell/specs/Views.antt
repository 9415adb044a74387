-- What a seat knows, and what each kind of step makes of it. [This project's own.]
use Rattle.std.specs.Prelude.{◌≡◌, ℕ, zero, suc, Bool, not, ◌&&◌, cond, ◌==◌, nat_le, min, max, List, [], ◌∷◌, ◌++◌, length, map, Option, Some, None}
use Rattle.std.specs.List.{AllByRecursion, count_by, filter}
use Rattle.histories.specs.declared.history.Move.{Move}
use Rattle.histories.specs.History.{move, moves_of}
use Rattle.turn_cell.specs.declared.view.Holding.{Holding}
use Rattle.turn_cell.specs.declared.view.Origin.{Origin}
use Rattle.turn_cell.specs.declared.view.Standing.{Standing}
use Rattle.turn_cell.specs.declared.view.Standing.TheVariants.{Idle, Waiting, InTurn, Entered}
use Rattle.turn_cell.specs.declared.view.View.{View}
use Rattle.turn_cell.specs.Standings.{ticket_of}

module _ {E A : Type 0} where
  -- a number that is held, with the moves that were made under it
  abbrev pub holding : ℕ → List (Move E A) → Holding E A
  holding number moves = record { number = number; moves = moves }

  -- the numbers below n, the greatest first, each without a move
  abbrev pub holdings_below : ℕ → List (Holding E A)
  holdings_below zero = []
  holdings_below (suc n) = holding n [] ∷ holdings_below n

  -- how often a number is held
  abbrev pub times : ℕ → List (Holding E A) → ℕ
  times n hs = count_by (λ h. h.number == n) hs

  -- the least number that is held, or 0 where there is none
  abbrev pub least : List (Holding E A) → ℕ
  least [] = 0
  least (h ∷ []) = h.number
  least (h ∷ k ∷ ks) = min h.number (least (k ∷ ks))

  -- the greatest number that is held, or 0 where there is none
  abbrev pub greatest : List (Holding E A) → ℕ
  greatest [] = 0
  greatest (h ∷ hs) = max h.number (greatest hs)

  -- the moves that are listed under a number
  abbrev pub listed : ℕ → List (Holding E A) → List (Move E A)
  listed n [] = []
  listed n (h ∷ hs) = cond (h.number == n) h.moves (listed n hs)

  -- each number's moves in the history are those that are listed under it
  abbrev pub AreListed : List (Move E A) → List (Holding E A) → Type 0
  AreListed history hs = AllByRecursion (λ h. moves_of h.number history ≡ h.moves) hs

  -- the lists after one more move
  abbrev pub with_move : Move E A → List (Holding E A) → List (Holding E A)
  with_move m hs = map (λ h. holding h.number (cond (h.number == m.seat) (h.moves ++ m ∷ []) h.moves)) hs

  -- a holding that is not the least, and under which nothing was entered
  abbrev pub is_spare : List (Holding E A) → Holding E A → Bool
  is_spare hs h = not (h.number == least hs) && (length h.moves == 0)

  -- what a split hands on: of the spare holdings the greatest
  abbrev pub is_handed : List (Holding E A) → Holding E A → Bool
  is_handed hs h = is_spare hs h && (h.number == greatest (filter (is_spare hs) hs))

  -- the one that is handed to the other side of a split: the greatest of those that can be spared
  abbrev pub handed : List (Holding E A) → List (Holding E A)
  handed hs = filter (is_handed hs) hs

  -- what a split leaves
  abbrev pub kept : List (Holding E A) → List (Holding E A)
  kept hs = filter (λ h. not (is_handed hs h)) hs

  -- the longer of two histories, and of two as long the first
  abbrev pub longer : List (Move E A) → List (Move E A) → List (Move E A)
  longer one other = cond (nat_le (length other) (length one)) one other

-- what a history begins with, of its first state and the number of callers
unfoldable pub origin_of : {C : Type 0} → C → ℕ → Origin C
origin_of state callers = record { state = state; callers = callers }

module _ {C E A : Type 0} where
  -- what a seat knows: where it comes from, what it holds, whether it is in a turn, and what it has seen
  abbrev pub view : Option (Origin C) → List (Holding E A) → Standing → List (Move E A) → View C E A
  view start holdings standing seen = record { origin = start; holdings = holdings; standing = standing; seen = seen; fronts = [] }

  -- the first seat
  abbrev pub newcomer : Origin C → View C E A
  newcomer start = view (Some start) (holdings_below start.callers) Idle []

  -- it has drawn a ticket
  abbrev pub drawn : View C E A → ℕ → View C E A
  drawn v ticket = view v.origin v.holdings (Waiting ticket) v.seen

  -- it has the turn, and has seen the history so far
  abbrev pub turned : View C E A → List (Move E A) → View C E A
  turned v history = view v.origin v.holdings (InTurn (ticket_of v.standing)) history

  -- it has made its entry
  abbrev pub entered : View C E A → E → A → View C E A
  entered v event answer =
      let m : Move E A = move (least v.holdings) event answer in
      view v.origin (with_move m v.holdings) (Entered (ticket_of v.standing)) (v.seen ++ m ∷ [])

  -- it has no ticket
  abbrev pub idle : View C E A → View C E A
  idle v = view v.origin v.holdings Idle v.seen

  -- the two seats after a split
  abbrev pub split_left : View C E A → View C E A
  split_left v = view v.origin (kept v.holdings) Idle v.seen

  -- what the new seat of a split knows
  abbrev pub split_right : View C E A → View C E A
  split_right v = view v.origin (handed v.holdings) Idle v.seen

  -- a seat that another was joined to, and what is left of the other
  abbrev pub joined : View C E A → View C E A → View C E A
  joined v w = record { origin = v.origin; holdings = v.holdings ++ w.holdings; standing = Idle; seen = longer v.seen w.seen; fronts = v.seen ∷ w.seen ∷ [] }

  -- what is left of a seat that was joined with another
  abbrev pub spent : View C E A
  spent = view None [] Idle []
