-- What a contract sees of a region. [This project's own.]
use Rattle.std.specs.Prelude.{ℕ}

-- how many pieces it has, how many values each has, and how many pieces are out
pub record Stock : Type 0 where
  pub pieces : ℕ
  pub size : ℕ
  pub out : ℕ
