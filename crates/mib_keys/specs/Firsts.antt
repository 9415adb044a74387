-- The first flaw of tables, looked for row by row. [This profile.]
use Rattle.std.specs.Prelude.{◌+◌, ◌-◌, min, ℕ, List, [], ◌∷◌, Option, Some, None, option_map, position}
use Rattle.std.specs.Option.{option_or}
use Rattle.mib_model.specs.declared.database.Database.{Database}
use Rattle.mib_model.specs.declared.fault.MibCode.TheVariants.{Twice}
use Rattle.mib_model.specs.declared.fault.MibFault.{MibFault}
use Rattle.mib_model.specs.declared.kind.Kind.{Kind}
use Rattle.mib_model.specs.declared.rows.Row.{Row}
use Rattle.mib_model.specs.Drafts.{rows_of}
use Rattle.mib_model.specs.Flaws.{fault_of}
use Rattle.mib_model.specs.RowTexts.{kind_in}
use Rattle.mib_keys.specs.Alike.{is_like}
use Rattle.row_flaws.specs.Indexes.{cut}
use Rattle.row_flaws.specs.Rows.{row_flaw}

-- the lesser of two places that may be there
abbrev pub least : Option ℕ → Option ℕ → Option ℕ
least None b = b
least (Some a) None = Some a
least (Some a) (Some b) = Some (min a b)

-- a row that repeats the row at a place
abbrev pub twice_at : Kind → ℕ → ℕ → MibFault
twice_at table n i = fault_of table n (record { code = Twice; column = 0; first = i + 1 })

-- the first flaw of the row of this number: an earlier row like it, or what the other rules of its table find
abbrev pub flaw_at : Database → ℕ → Row → Option MibFault
flaw_at db n r = option_or (option_map (twice_at (kind_in r) n) (cut (n - 1) (position (is_like r) (rows_of db (kind_in r))))) (row_flaw db n r)

-- the first flaw of rows from a number on
abbrev pub first_in : {R : Type 0} → (ℕ → R → Option MibFault) → ℕ → List R → Option MibFault
first_in flaw n [] = None
first_in flaw n (r ∷ rs) = option_or (flaw n r) (first_in flaw (n + 1) rs)

-- the first flaw of some tables
abbrev pub first_over : (Kind → Option MibFault) → List Kind → Option MibFault
first_over flaw [] = None
first_over flaw (k ∷ ks) = option_or (flaw k) (first_over flaw ks)
