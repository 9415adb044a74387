-- Rows that are walked several times, on a stack. [This profile.]
use Rattle.std.specs.Prelude.{ℕ, ◌<◌, List, [], ◌++◌, length, fold}
use Rattle.std.specs.List.{repeat}
use Rattle.mib_model.specs.declared.rows.VpdRow.{VpdRow}
use Rattle.row_searches.specs.Nesting.{AreNested}
use Rattle.row_walk.specs.declared.to_walk.Rounds.{Rounds}

-- the rows of rounds, the last rounds first
abbrev pub rows_to_walk : List Rounds → List VpdRow
rows_to_walk rounds = fold (λ behind r. repeat r.times r.rows.now ++ behind) [] rounds

-- there are rows, and they are walked; their groups are nested
pub record IsRounds (r : Rounds) : Type 0 where
  pub some : 0 < length r.rows.now
  pub again : 0 < r.times
  pub nested : AreNested r.rows.now
