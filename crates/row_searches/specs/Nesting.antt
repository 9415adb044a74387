-- Rows of structures whose groups are nested. [SCOS-2000 Database Import ICD, vpd, groups.]
use Rattle.std.specs.Prelude.{ℕ, zero, suc, ◌≤◌, ⊤, List, [], ◌∷◌}
use Rattle.mib_model.specs.declared.rows.VpdRow.{VpdRow}

-- the groups of the first rows, so many of them, end among these
abbrev pub Holds : ℕ → List VpdRow → Type 0
Holds zero rows = ⊤
Holds (suc n) [] = ⊥
Holds (suc n) (row ∷ rows) = (row.grpsize ≤ n) × Holds n rows

-- the group of each row ends among the rows behind it, and groups within it end in it
abbrev pub AreNested : List VpdRow → Type 0
AreNested [] = ⊤
AreNested (row ∷ rows) = Holds row.grpsize rows × AreNested rows
