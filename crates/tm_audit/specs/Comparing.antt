-- How far a text was compared with octets that come piece by piece. [This profile.]
use Rattle.std.specs.Prelude.{ℕ, ◌+◌, Bool, List, drop, take, Option, Some, if◌then◌else◌}
use Rattle.std.specs.List.{count_by}
use Rattle.mib_model.specs.Lines.{is_feed}
use Rattle.tm_audit.specs.TextLines.{parting}

-- a text, as many octets of it as are the ones expected, and whether the next one isn't
pub record Compared : Type 0 where
  pub text : List ℕ
  pub at : ℕ
  pub is_apart : Bool

-- the number of the line that the text has come to
abbrev pub line_of : Compared → ℕ
line_of c = 1 + count_by is_feed (take c.at c.text)

-- the line in which the text parts from all octets that were expected, with these behind them
abbrev pub parting_with : Compared → List ℕ → Option ℕ
parting_with c more = if c.is_apart then Some (line_of c) else parting (line_of c) more (drop c.at c.text)
