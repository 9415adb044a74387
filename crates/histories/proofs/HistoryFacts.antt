-- Lemmas on histories.
use Rattle.std.proofs.Common.{◌≡◌, ℕ, List, [], ◌∷◌, ◌++◌, refl}
use Rattle.histories.specs.declared.history.Move.{Move}
use Rattle.histories.specs.History.{IsLegal, Permits, IsOfSeatsBelow, state_after}

module _ {S E R : Type 0} (after : S → E → S) where
  pub state_after-append : (state : S) (front rest : List (Move E R)) → state_after after state (front ++ rest) ≡ state_after after (state_after after state front) rest
  state_after-append state [] rest = refl
  state_after-append state (m ∷ ms) rest = state_after-append (after state m.entry) ms rest

  module _ (reply : S → E → R) where
    pub IsLegal-front : (state : S) (front rest : List (Move E R)) → IsLegal reply after state (front ++ rest) → IsLegal reply after state front
    IsLegal-front state [] rest legal = tt
    IsLegal-front state (m ∷ ms) rest legal = (legal.0, IsLegal-front (after state m.entry) ms rest legal.1)

    pub IsLegal-rest : (state : S) (front rest : List (Move E R)) → IsLegal reply after state (front ++ rest) → IsLegal reply after (state_after after state front) rest
    IsLegal-rest state [] rest legal = legal
    IsLegal-rest state (m ∷ ms) rest legal = IsLegal-rest (after state m.entry) ms rest legal.1

    pub IsLegal-append : (state : S) (front rest : List (Move E R)) → IsLegal reply after state front → IsLegal reply after (state_after after state front) rest → IsLegal reply after state (front ++ rest)
    IsLegal-append state [] rest legal then = then
    IsLegal-append state (m ∷ ms) rest legal then = (legal.0, IsLegal-append (after state m.entry) ms rest legal.1 then)

module _ {E R : Type 0} where
  pub Permits-front : (may : ℕ → E → Type 0) (front rest : List (Move E R)) → Permits may (front ++ rest) → Permits may front
  Permits-front may [] rest all = tt
  Permits-front may (m ∷ ms) rest all = (all.0, Permits-front may ms rest all.1)

  pub Permits-rest : (may : ℕ → E → Type 0) (front rest : List (Move E R)) → Permits may (front ++ rest) → Permits may rest
  Permits-rest may [] rest all = all
  Permits-rest may (m ∷ ms) rest all = Permits-rest may ms rest all.1

  pub Permits-append : (may : ℕ → E → Type 0) (front rest : List (Move E R)) → Permits may front → Permits may rest → Permits may (front ++ rest)
  Permits-append may [] rest all then = then
  Permits-append may (m ∷ ms) rest all then = (all.0, Permits-append may ms rest all.1 then)

  pub IsOfSeatsBelow-front : (seats : ℕ) (front rest : List (Move E R)) → IsOfSeatsBelow seats (front ++ rest) → IsOfSeatsBelow seats front
  IsOfSeatsBelow-front seats [] rest all = tt
  IsOfSeatsBelow-front seats (m ∷ ms) rest all = (all.0, IsOfSeatsBelow-front seats ms rest all.1)

  pub IsOfSeatsBelow-rest : (seats : ℕ) (front rest : List (Move E R)) → IsOfSeatsBelow seats (front ++ rest) → IsOfSeatsBelow seats rest
  IsOfSeatsBelow-rest seats [] rest all = all
  IsOfSeatsBelow-rest seats (m ∷ ms) rest all = IsOfSeatsBelow-rest seats ms rest all.1

  pub IsOfSeatsBelow-append : (seats : ℕ) (front rest : List (Move E R)) → IsOfSeatsBelow seats front → IsOfSeatsBelow seats rest → IsOfSeatsBelow seats (front ++ rest)
  IsOfSeatsBelow-append seats [] rest all then = then
  IsOfSeatsBelow-append seats (m ∷ ms) rest all then = (all.0, IsOfSeatsBelow-append seats ms rest all.1 then)
