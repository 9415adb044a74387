-- What a piece holds after a write. [This project's own.]
use Rattle.std.specs.Prelude.{List, ◌++◌, length, take, drop}

-- the piece once its values were left as `last` behind a `&mut`; `last` itself where that is as long as the piece
abbrev pub with_values : {T : Type 0} → List T → List T → List T
with_values old last = take (length old) (last ++ drop (length last) old)
