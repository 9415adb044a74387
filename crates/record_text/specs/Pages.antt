-- What a page holds. [This profile.]
use Rattle.std.specs.Prelude.{ℕ, List}

-- the octets that are written, and how many there may be before more are made ready
pub record Written : Type 0 where
  pub octets : List ℕ
  pub limit : ℕ
