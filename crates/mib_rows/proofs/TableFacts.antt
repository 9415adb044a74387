-- The rows of a text, line by line.
use Rattle.std.proofs.Common.{◌≡◌, ◌≤◌, ◌+◌, ℕ, suc, Bool, true, false, map, List, [], ◌∷◌, ◌++◌, Result, Ok, Err, length, refl, sym, ap, ◌∙◌, append_assoc, arith}
use Rattle.std.specs.Prelude.{nat_lt, if◌then◌else◌}
use Rattle.std.proofs.lemmas.Bool.Decides.{nat_tests}
use Rattle.std.proofs.lemmas.List.{append-nil}
use Rattle.mib_model.specs.declared.fault.MibCode.TheVariants.{LineLong, Rows}
use Rattle.mib_model.specs.declared.fault.MibFault.{MibFault}
use Rattle.mib_model.specs.declared.limits.TheConstants.{ROW_MOST, ROWS_MOST, TABLE_MOST}
use Rattle.mib_model.specs.Attempts.{◌>>=◌}
use Rattle.mib_model.specs.declared.kind.Kind.{Kind}
use Rattle.mib_model.specs.declared.line_fault.LineFault.{LineFault}
use Rattle.mib_model.specs.declared.rows.Row.{Row}
use Rattle.mib_model.specs.Attempts.{made_into}
use Rattle.mib_model.specs.Lines.{fields, lines}
use Rattle.mib_model.specs.Reading.{in_row, is_marked, line_at, row_at, rows_from, table_of, whole_fault}
use Rattle.mib_model.specs.RowTexts.{row_of}
use Rattle.mib_rows.specs.declared.read_fault.ReadFault.{ReadFault}
use Rattle.mib_rows.specs.declared.read_fault.ReadFault.TheVariants as faults
use Rattle.mib_rows.specs.Answers.{Fails, Gives}
use Rattle.mib_rows.specs.Left.{in_front}

-- rows that were read before, and those that are still read
abbrev pub behind : {Made : Type 0} → List Made → Result (List Made) MibFault → Result (List Made) MibFault
behind rows read = read >>= λ more. Ok (rows ++ more)

behind-first : {Made : Type 0} (rows : List Made) (row : Made) (read : Result (List Made) MibFault) → behind rows (read >>= λ more. Ok (row ∷ more)) ≡ behind (rows ++ row ∷ []) read
behind-first rows row (Ok more) = ap Ok (sym (append_assoc rows (row ∷ []) more))
behind-first rows row (Err fault) = refl

-- an empty line is no row
pub passes_over : {Made : Type 0} (read : ℕ → List ℕ → Result Made MibFault) (rows : List Made) (number : ℕ) (total : Result (List Made) MibFault) (line : List ℕ) (more : List (List ℕ))
    → false ≡ nat_lt 0 (length line) → behind rows (rows_from read (number + 1) (in_front line more)) ≡ total → behind rows (rows_from read (number + 1) more) ≡ total
passes_over read rows number total [] more empty so_far = so_far
passes_over read rows number total (c ∷ line) more empty so_far = absurd (some_left (length line) empty)
  where
    some_left : (n : ℕ) → false ≡ nat_lt 0 (suc n) → ⊥
    some_left n none = grind (arith, nat_tests)

-- a line that reads as a row
pub goes_on : {Made : Type 0} (read : ℕ → List ℕ → Result Made MibFault) (rows : List Made) (number : ℕ) (total : Result (List Made) MibFault) (line : List ℕ) (more : List (List ℕ)) (row : Made)
    → true ≡ nat_lt 0 (length line) → read (number + 1) line ≡ Ok row → behind rows (rows_from read (number + 1) (in_front line more)) ≡ total
    → behind (rows ++ row ∷ []) (rows_from read (number + 1 + 1) more) ≡ total
unfolding rows_from
goes_on read rows number total [] more row filled reads so_far = cc filled
goes_on read rows number total (c ∷ line) more row filled reads so_far = sym (behind-first rows row (rows_from read (number + 1 + 1) more)) ∙ (rw reads at so_far)

-- a line with a fault
pub ends : {Made : Type 0} (read : ℕ → List ℕ → Result Made MibFault) (rows : List Made) (number : ℕ) (total : Result (List Made) MibFault) (line : List ℕ) (more : List (List ℕ)) (fault : ReadFault)
    → true ≡ nat_lt 0 (length line) → Fails fault (read (number + 1) line) → behind rows (rows_from read (number + 1) (in_front line more)) ≡ total → Fails fault total
unfolding rows_from
ends read rows number total line more faults.Memory filled fails so_far = tt
ends read rows number total [] more (faults.Mib fault) filled fails so_far = cc filled
ends read rows number total (c ∷ line) more (faults.Mib fault) filled fails so_far = sym (rw fails at so_far)

-- where no line is left
pub is_done : {Made : Type 0} (read : ℕ → List ℕ → Result Made MibFault) (rows : List Made) (number : ℕ) (total : Result (List Made) MibFault) (left : List (List ℕ))
    → left ≡ [] → behind rows (rows_from read (number + 1) left) ≡ total → total ≡ Ok rows
unfolding rows_from
is_done read rows number total left none so_far = sym (rw none at so_far) ∙ ap Ok (append-nil rows)

-- rows of one table, read as such, are the rows that the definitions give
module _ {R : Type 0} (as_row : R → Row) (table : Kind) (reads : List (List ℕ) → Result R LineFault) (is_row : (f : List (List ℕ)) → row_of table f ≡ made_into as_row (reads f)) where
  in_row-made : (number : ℕ) (read : Result R LineFault) → in_row table number (made_into as_row read) ≡ made_into as_row (in_row table number read)
  in_row-made number (Ok r) = refl
  in_row-made number (Err fault) = refl

  row_at-made : (number : ℕ) (line : List ℕ) → row_at table number line ≡ made_into as_row (line_at reads table number line)
  unfolding row_at
  row_at-made number line = go (nat_lt ROW_MOST (length line)) (nat_lt ROWS_MOST number) where
    go : (long more : Bool) → (if long then whole_fault table number LineLong else if more then whole_fault table number Rows else in_row table number (row_of table (fields line)))
        ≡ made_into as_row (if long then whole_fault table number LineLong else if more then whole_fault table number Rows else in_row table number (reads (fields line)))
    go true more = refl
    go false true = refl
    go false false = ap (in_row table number) (is_row (fields line)) ∙ in_row-made number (reads (fields line))

  more-made : (first : Result R MibFault) (rest : Result (List Row) MibFault) (own : Result (List R) MibFault) → rest ≡ made_into (map as_row) own
      → (made_into as_row first >>= λ r. rest >>= λ rs. Ok (r ∷ rs)) ≡ made_into (map as_row) (first >>= λ r. own >>= λ rs. Ok (r ∷ rs))
  more-made (Ok r) rest (Ok rs) is = rw is refl
  more-made (Ok r) rest (Err fault) is = rw is refl
  more-made (Err fault) rest own is = refl

  rows-made : (number : ℕ) (lines : List (List ℕ)) → rows_from (row_at table) number lines ≡ made_into (map as_row) (rows_from (line_at reads table) number lines)
  unfolding rows_from
  rows-made number [] = refl
  rows-made number (line ∷ more) =
      ap (λ first. first >>= λ r. rows_from (row_at table) (number + 1) more >>= λ rs. Ok (r ∷ rs)) (row_at-made number line)
      ∙ more-made (line_at reads table number line) (rows_from (row_at table) (number + 1) more) (rows_from (line_at reads table) (number + 1) more) (rows-made (number + 1) more)

  -- an answer with the rows of one table
  rows-given : {V : Type 0} (items : V → List R) (text : List (List ℕ)) (answer : Result V ReadFault) → Gives items answer (rows_from (line_at reads table) 1 text)
      → Gives (λ rows. map as_row (items rows)) answer (rows_from (row_at table) 1 text)
  rows-given items text (Ok rows) gives = rows-made 1 text ∙ ap (made_into (map as_row)) gives
  rows-given items text (Err faults.Memory) gives = tt
  rows-given items text (Err (faults.Mib fault)) gives = rows-made 1 text ∙ ap (made_into (map as_row)) gives

  pub table-given : {V : Type 0} (items : V → List R) (text : List ℕ) (answer : Result V ReadFault) → length text ≤ TABLE_MOST → false ≡ is_marked text
      → Gives items answer (rows_from (line_at reads table) 1 (lines text)) → Gives (λ rows. map as_row (items rows)) answer (table_of table text)
  unfolding table_of
  table-given items text answer small plain gives =
      let fits : nat_lt TABLE_MOST (length text) ≡ false = grind (arith, nat_tests, small) in
      rw (fits, sym plain) (rows-given items (lines text) answer gives)
