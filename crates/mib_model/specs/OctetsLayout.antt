-- How the octets of `Octets` lie in their room of fixed size: in front, and zeros behind them. No definition of the product.
use Rattle.std.specs.Prelude.{◌≡◌, ℕ, ◌-◌, ◌≤◌, List, ◌++◌, length, take, replicate}
use Rattle.std.proofs.Common.{ap, sym, ◌∙◌, arith, length-append, length-take}
use Rattle.std.proofs.lemmas.List.{length-replicate}

-- octets, and zeros up to the size of the room
abbrev pub padded : ℕ → List ℕ → List ℕ
padded size octets = octets ++ replicate (size - length octets) 0

-- the room holds so many octets, and zeros behind them
pub record IsPadded (size : ℕ) (room : List ℕ) (used : ℕ) : Type 0 where
  pub fits : used ≤ size
  pub zeros : padded size (take used room) ≡ room

-- the number of octets is the one that is kept
pub length-padded : (size : ℕ) (room : List ℕ) (used : ℕ) → IsPadded size room used → length (take used room) ≡ used
length-padded size room used h =
    let whole = ap length (sym h.zeros) ∙ length-append (take used room) (replicate (size - length (take used room)) 0) in
    omega (arith, h.fits, whole, length-take used room, length-replicate {A = ℕ} (size - length (take used room)) 0)
