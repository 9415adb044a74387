-- What names and texts are hashed by: their octets.
use Rattle.std.specs.Prelude.{◌≡◌, ℕ, IsTrue, List, [], ◌∷◌}
use Rattle.std.proofs.Common.{ap}
use Rattle.std.proofs.lemmas.Slice.Eq.{bytes_eq-Decides}
use Rattle.std.specs.Str.{bytes_eq}

-- the octets, as one write
abbrev pub hashed : List ℕ → List (List ℕ)
hashed octets = octets ∷ []

-- equal octets are hashed alike
pub hashed_alike : (x y : List ℕ) → IsTrue (bytes_eq x y) → hashed x ≡ hashed y
hashed_alike x y same = ap hashed ((bytes_eq-Decides x y).0 same)
