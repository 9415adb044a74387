-- Histories of a machine: lists of moves, oldest first. [This project's own words.]
use Rattle.std.specs.Prelude.{◌≡◌, ℕ, ◌<◌, ◌==◌, List, [], ◌∷◌, ◌++◌, map}
use Rattle.std.specs.List.{filter}
use Rattle.histories.specs.declared.history.Move.{Move}

module _ {E R : Type 0} where
  -- the move of a seat that entered this and had this reply
  abbrev pub move : ℕ → E → R → Move E R
  move seat entry reply = record { seat = seat; entry = entry; reply = reply }

  -- the moves of one seat, in their order
  abbrev pub moves_of : ℕ → List (Move E R) → List (Move E R)
  moves_of seat history = filter (λ m. m.seat == seat) history

  -- the entries of one seat, each with its reply
  abbrev pub calls_of : ℕ → List (Move E R) → List (E × R)
  calls_of seat history = map (λ m. (m.entry, m.reply)) (moves_of seat history)

  -- the history begins with these moves
  abbrev pub StartsWith : List (Move E R) → List (Move E R) → Type 0
  StartsWith history front = (rest : List (Move E R)) × (history ≡ front ++ rest)

  -- each entry is one that its seat may make
  abbrev pub Permits : (ℕ → E → Type 0) → List (Move E R) → Type 0
  Permits may [] = Unit {0}
  Permits may (m ∷ ms) = may m.seat m.entry × Permits may ms

  -- each move is of a seat below this number
  abbrev pub IsOfSeatsBelow : ℕ → List (Move E R) → Type 0
  IsOfSeatsBelow seats [] = Unit {0}
  IsOfSeatsBelow seats (m ∷ ms) = (m.seat < seats) × IsOfSeatsBelow seats ms

module _ {S E R : Type 0} where
  -- the state after the history
  abbrev pub state_after : (S → E → S) → S → List (Move E R) → S
  state_after after state [] = state
  state_after after state (m ∷ ms) = state_after after (after state m.entry) ms

  -- each reply is the machine's at its place
  abbrev pub IsLegal : (S → E → R) → (S → E → S) → S → List (Move E R) → Type 0
  IsLegal reply after state [] = Unit {0}
  IsLegal reply after state (m ∷ ms) = (m.reply ≡ reply state m.entry) × IsLegal reply after (after state m.entry) ms
