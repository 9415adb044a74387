-- What may be unsound in a row whose fields are all read, and how the flaws of a table are listed. [This profile.]
use Rattle.std.specs.Prelude.{ℕ, ◌+◌, ◌-◌, Bool, List, take, Option, Some, None, option_map, position, filter_map, not, if◌then◌else◌}
use Rattle.std.specs.List.{find, flat_map, enumerate_from}
use Rattle.mib_model.specs.declared.fault.MibCode.{MibCode}
use Rattle.mib_model.specs.declared.fault.MibCode.TheVariants.{Twice, NoRef}
use Rattle.mib_model.specs.declared.fault.MibFault.{MibFault}
use Rattle.mib_model.specs.declared.kind.Kind.{Kind}
use Rattle.mib_model.specs.declared.rows.Row.{Row}
use Rattle.mib_model.specs.Keys.{key_in, same_key}

-- what is wrong with a row: a code, and a column or an earlier row where the code has one
pub record Flaw : Type 0 where
  pub code : MibCode
  pub column : ℕ
  pub first : ℕ

-- a rule: from the rows before a row, and the row, what is wrong with it
abbrev pub Rule : Type 0 → Type 0
Rule R = List R → R → Option Flaw

-- a code, where something holds of the row
abbrev pub flaw_if : MibCode → Bool → Option Flaw
flaw_if code holds = if holds then Some (record { code = code; column = 0; first = 0 }) else None

-- the rule that no row before is like the row; the flaw tells the first that is
abbrev pub twice_by : {R : Type 0} → (R → R → Bool) → Rule R
twice_by alike earlier row = option_map (λ i. record { code = Twice; column = 0; first = i + 1 }) (position (alike row) earlier)

-- the rule that no row before has the row's key
abbrev pub twice : {R : Type 0} → (R → Row) → Rule R
twice as_row = twice_by (λ x y. same_key (key_in (as_row x)) (key_in (as_row y)))

-- references, each with its column and whether its row is there
abbrev pub References : Type 0
References = List (ℕ × Bool)

-- the first reference whose row isn't there
abbrev pub missing : References → Option Flaw
missing references = option_map (λ r. record { code = NoRef; column = r.0; first = 0 }) (find (λ r. not r.1) references)

-- a flaw of the row of this number
abbrev pub fault_of : Kind → ℕ → Flaw → MibFault
fault_of table number flaw = record { table = table; row = number; column = flaw.column; first = flaw.first; code = flaw.code }

-- the flaws of a row by rules, in the order of the rules
abbrev pub row_flaws : {R : Type 0} → Kind → List (Rule R) → List R → ℕ × R → List MibFault
row_flaws table rules rows numbered =
    filter_map (λ rule. option_map (fault_of table numbered.0) (rule (take (numbered.0 - 1) rows) numbered.1)) rules

-- the flaws of a table, row by row
unfoldable pub table_flaws : {R : Type 0} → Kind → List (Rule R) → List R → List MibFault
table_flaws table rules rows = flat_map (row_flaws table rules rows) (enumerate_from 1 rows)
