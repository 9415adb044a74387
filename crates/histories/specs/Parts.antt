-- What holds of a history by its parts. [This project's own words.]
use Rattle.std.specs.Prelude.{◌≡◌, ◌↔◌, ℕ, Bool, true, List, [], ◌∷◌, ◌++◌}
use Rattle.histories.specs.declared.history.Move.{Move}
use Rattle.histories.specs.History.{IsLegal, Permits, move, state_after}

module _ {S E R : Type 0} where
  -- a history is legal where its front is, and the rest is from the state after the front
  abbrev pub IsLegalInParts : (S → E → R) → (S → E → S) → S → List (Move E R) → List (Move E R) → Type 0
  IsLegalInParts reply after state front rest =
      IsLegal reply after state (front ++ rest) ↔ (IsLegal reply after state front × IsLegal reply after (state_after after state front) rest)

  -- a history with one more move of a seat, whose reply is the machine's
  abbrev pub with_move : (S → E → R) → (S → E → S) → S → List (Move E R) → ℕ → E → List (Move E R)
  with_move reply after state front seat entry = front ++ move seat entry (reply (state_after after state front) entry) ∷ []

module _ {E R : Type 0} where
  -- a history makes entries that its seats may make where both parts do
  abbrev pub PermitsInParts : (ℕ → E → Bool) → List (Move E R) → List (Move E R) → Type 0
  PermitsInParts may front rest =
      Permits (λ seat entry. may seat entry ≡ true) (front ++ rest)
      ↔ (Permits (λ seat entry. may seat entry ≡ true) front × Permits (λ seat entry. may seat entry ≡ true) rest)
