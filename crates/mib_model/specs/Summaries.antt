-- What a check of a database prints. [This profile.]
use Rattle.std.specs.Prelude.{ℕ, List, ◌++◌, codes, decimal, length}
use Rattle.std.specs.List.{flat_map}
use Rattle.mib_model.specs.declared.kind.Kind.{Kind}
use Rattle.mib_model.specs.Database.{Database}
use Rattle.mib_model.specs.Drafts.{rows_of}
use Rattle.mib_model.specs.Kinds.{kinds, kind_name}
use Rattle.mib_model.specs.Plans.{plans}

-- a table's name and how many rows it has
abbrev pub count_line : Database → Kind → List ℕ
count_line db table = kind_name table ++ codes " " ++ decimal (length (rows_of db table)) ++ codes "\n"

-- a line for each table in their order, and then the number of plans
unfoldable pub summary : Database → List ℕ
summary db = flat_map (count_line db) kinds ++ codes "PLANS " ++ decimal (length (plans db)) ++ codes "\n"
