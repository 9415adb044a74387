-- The types of packets' rows that are read are octets.
use Rattle.std.proofs.Common.{◌≡◌, ℕ, ◌+◌, ◌<◌, Bool, true, false, cond, List, [], ◌∷◌, length, Option, Some, None, Result, Ok, Err, filter_map, refl, subst, arith}
use Rattle.std.specs.Prelude.{◌==◌, nat_lt}
use Rattle.std.specs.List.{AllByRecursion, find}
use Rattle.mib_model.specs.declared.database.Database.{Database}
use Rattle.mib_model.specs.declared.fault.MibFault.{MibFault}
use Rattle.mib_model.specs.declared.kind.Kind.{Kind}
use Rattle.mib_model.specs.declared.kind.Kind.TheVariants as kind
use Rattle.mib_model.specs.declared.line_fault.LineFault.{LineFault}
use Rattle.mib_model.specs.declared.limits.TheConstants.{ROW_MOST, ROWS_MOST, TABLE_MOST}
use Rattle.mib_model.specs.declared.fault.MibCode.TheVariants.{Mark, LineLong, Rows, Big}
use Rattle.mib_model.specs.declared.rows.PidRow.{PidRow}
use Rattle.mib_model.specs.declared.rows.Row.{Row}
use Rattle.mib_model.specs.declared.rows.Row.TheVariants as row
use Rattle.mib_model.specs.Attempts.{◌>>=◌}
use Rattle.mib_model.specs.DatabaseTexts.{database_read, first_fault, rows_in}
use Rattle.mib_model.specs.Fitting.{FitsRow}
use Rattle.mib_model.specs.Kinds.{kinds}
use Rattle.mib_model.specs.Lines.{fields, lines}
use Rattle.mib_model.specs.Reading.{in_row, is_marked, row_at, row_read, rows_from, table_of, whole_fault}
use Rattle.mib_model.specs.RowTexts.{row_of}
use Rattle.mib_model.specs.TypedRows.{as_pid, database_by}
use Rattle.row_laws.proofs.RowFitFacts.{read_fits}
use Rattle.build_laws.specs.Laws.{HasOctets}

abbrev HasTypes : PidRow → Type 0
HasTypes r = (r.service < 256) × (r.subtype < 256)

-- what a row has if it is one of packets
abbrev PidHas : Row → Type 0
PidHas r = (p : PidRow) → as_pid r ≡ Some p → HasTypes p

types-of : (r : Row) → FitsRow r → PidHas r
unfolding FitsRow
types-of (row.Pid r) fit p is =
    let same : r ≡ p = cc is in
    subst HasTypes same (omega (arith, fit.0.1), omega (arith, fit.1.0.1))
types-of (row.Pcf r) fit p is = absurd (cc is)
types-of (row.Pic r) fit p is = absurd (cc is)
types-of (row.Tpcf r) fit p is = absurd (cc is)
types-of (row.Plf r) fit p is = absurd (cc is)
types-of (row.Vpd r) fit p is = absurd (cc is)
types-of (row.Cur r) fit p is = absurd (cc is)
types-of (row.Caf r) fit p is = absurd (cc is)
types-of (row.Cap r) fit p is = absurd (cc is)
types-of (row.Txf r) fit p is = absurd (cc is)
types-of (row.Txp r) fit p is = absurd (cc is)
types-of (row.Mcf r) fit p is = absurd (cc is)
types-of (row.Lgf r) fit p is = absurd (cc is)
types-of (row.Ocf r) fit p is = absurd (cc is)
types-of (row.Ocp r) fit p is = absurd (cc is)

-- ---- rows of a table's text

at-number : (table : Kind) (number : ℕ) (o : Result Row LineFault) (r : Row) → in_row table number o ≡ Ok r → in_row table 0 o ≡ Ok r
at-number table number (Ok x) r is = is
at-number table number (Err why) r is = absurd (cc is)

passed : {A : Type 0} (b : Bool) (table : Kind) (number : ℕ) (code : _) (r : Result A MibFault) (x : A) → cond b (whole_fault table number code) r ≡ Ok x → r ≡ Ok x
passed true table number code r x is = absurd (cc is)
passed false table number code r x is = is

row-has : (table : Kind) (number : ℕ) (line : List ℕ) (r : Row) → row_at table number line ≡ Ok r → PidHas r
unfolding row_at row_read
row-has table number line r is =
    let short = passed (nat_lt ROW_MOST (length line)) table number LineLong _ r is in
    let few = passed (nat_lt ROWS_MOST number) table number Rows _ r short in
    types-of r (read_fits table line r (at-number table number (row_of table (fields line)) r few)).0

made-rows : (r : Row) (o : Result (List Row) MibFault) (rows : List Row) → PidHas r → ((rs : List Row) → o ≡ Ok rs → AllByRecursion PidHas rs)
    → (o >>= λ rest. Ok (r ∷ rest)) ≡ Ok rows → AllByRecursion PidHas rows
made-rows r (Err why) rows has rest is = absurd (cc is)
made-rows r (Ok rs) rows has rest is = let same : r ∷ rs ≡ rows = cc is in subst (λ (l : List Row). AllByRecursion PidHas l) same (has, rest rs refl)

first-rows : (first : Result Row MibFault) (o : Result (List Row) MibFault) (rows : List Row) → ((r : Row) → first ≡ Ok r → PidHas r) → ((rs : List Row) → o ≡ Ok rs → AllByRecursion PidHas rs)
    → (first >>= λ r. o >>= λ rest. Ok (r ∷ rest)) ≡ Ok rows → AllByRecursion PidHas rows
first-rows (Err why) o rows has rest is = absurd (cc is)
first-rows (Ok r) o rows has rest is = made-rows r o rows (has r refl) rest is

rows-have : (table : Kind) (number : ℕ) (texts : List (List ℕ)) (rows : List Row) → rows_from (row_at table) number texts ≡ Ok rows → AllByRecursion PidHas rows
unfolding rows_from
rows-have table number [] rows is = let none : [] ≡ rows = cc is in subst (λ (l : List Row). AllByRecursion PidHas l) none tt
rows-have table number (line ∷ more) rows is =
    first-rows (row_at table number line) (rows_from (row_at table) (number + 1) more) rows (row-has table number line) (λ rs. rows-have table (number + 1) more rs) is

table-has : (table : Kind) (text : List ℕ) (rows : List Row) → table_of table text ≡ Ok rows → AllByRecursion PidHas rows
unfolding table_of
table-has table text rows is =
    let small = passed (nat_lt TABLE_MOST (length text)) table 0 Big _ rows is in
    let bare = passed (is_marked text) table 0 Mark _ rows small in
    rows-have table 1 (lines text) rows bare

in-has : (o : Result (List Row) MibFault) → ((rows : List Row) → o ≡ Ok rows → AllByRecursion PidHas rows) → AllByRecursion PidHas (rows_in o)
in-has (Ok rows) has = has rows refl
in-has (Err why) has = tt

-- ---- rows of packets

pids-have : (rows : List Row) → AllByRecursion PidHas rows → AllByRecursion HasTypes (filter_map as_pid rows)
pids-have [] all = tt
pids-have (r ∷ rs) all = go (as_pid r) all.0 (pids-have rs all.1) where
  go : (o : Option PidRow) → ((p : PidRow) → o ≡ Some p → HasTypes p) → AllByRecursion HasTypes (filter_map as_pid rs) → AllByRecursion HasTypes (Rattle.std.specs.List.cons_option o (filter_map as_pid rs))
  go None has rest = rest
  go (Some p) has rest = (has p refl, rest)

found-has : (test : PidRow → Bool) (rows : List PidRow) (p : PidRow) → AllByRecursion HasTypes rows → find test rows ≡ Some p → HasTypes p
found-has test [] p all is = absurd (cc is)
found-has test (r ∷ rs) p all is = go (test r) is (found-has test rs p all.1) where
  go : (b : Bool) → cond b (Some r) (find test rs) ≡ Some p → (find test rs ≡ Some p → HasTypes p) → HasTypes p
  go true is others = let same : r ≡ p = cc is in subst HasTypes same all.0
  go false is others = others is

abbrev read_or : (Kind → List ℕ) → Option MibFault → Result Database MibFault
read_or texts o = elim o [ None ↦ Ok (database_by (λ k. rows_in (table_of k (texts k)))) | Some fault ↦ Err fault ]

by-fault : (texts : Kind → List ℕ) (db : Database) (spid : ℕ) (p : PidRow) → find (λ r. r.spid == spid) db.pid ≡ Some p → (o : Option MibFault) → read_or texts o ≡ Ok db → HasTypes p
by-fault texts db spid p found (Some fault) reads = absurd (cc reads)
by-fault texts db spid p found None reads =
    let same : database_by (λ k. rows_in (table_of k (texts k))) ≡ db = cc reads in
    let all = pids-have (rows_in (table_of kind.Pid (texts kind.Pid))) (in-has (table_of kind.Pid (texts kind.Pid)) (table-has kind.Pid (texts kind.Pid))) in
    found-has (λ r. r.spid == spid) db.pid p (subst (λ (d : Database). AllByRecursion HasTypes d.pid) same all) found

pub read-has : (texts : Kind → List ℕ) (db : Database) → database_read texts ≡ Ok db → (spid : ℕ) → HasOctets db spid
unfolding database_read
read-has texts db reads spid p found = by-fault texts db spid p found (first_fault (λ k. table_of k (texts k)) kinds) reads
