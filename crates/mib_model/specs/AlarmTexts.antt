-- The printed lines of alarms and of their ends. [This profile.]
use Rattle.std.specs.Prelude.{ℕ, List, [], ◌++◌, codes, Option, Some, None}
use Rattle.mib_model.specs.declared.check.Class.{Class}
use Rattle.mib_model.specs.declared.check.Class.TheVariants as class
use Rattle.mib_model.specs.declared.check.Change.{Change}
use Rattle.mib_model.specs.declared.check.Change.TheVariants as change

-- a class that is told of
abbrev pub class_text : Class → List ℕ
class_text class.Nominal = []
class_text class.Hard = codes "HARD"
class_text class.Status = codes "STATUS"
class_text class.Delta = codes "DELTA"
class_text class.Soft = codes "SOFT"

-- what is told of a name
abbrev pub change_text : List ℕ → Change → List ℕ
change_text name (change.Alarm c) = codes "  ALARM " ++ name ++ codes " " ++ class_text c ++ codes "\n"
change_text name (change.Clear c) = codes "  CLEAR " ++ name ++ codes " " ++ class_text c ++ codes "\n"

-- the line of a change, where there is one
abbrev pub change_text_of : List ℕ → Option Change → List ℕ
change_text_of name None = []
change_text_of name (Some c) = change_text name c
