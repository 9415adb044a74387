-- A line that is written is read again as its row.
use Rattle.std.proofs.Common.{◌≡◌, ℕ, suc, ◌+◌, ◌-◌, ◌≤◌, ◌<◌, false, List, [], ◌∷◌, ◌++◌, length, replicate, Option, Some, Ok, slice_get, refl, sym, ap, subst, ◌∙◌, append_assoc, arith, length-append}
use Rattle.std.specs.Prelude.{unwrap_or, nat_lt}
use Rattle.std.proofs.lemmas.Bool.Decides.{nat_tests}
use Rattle.std.proofs.lemmas.List.{length-replicate, append-nil}
use Rattle.mib_model.specs.Columns.{Column, number_in, Cells, cell_of}
use Rattle.mib_model.specs.ColumnRows.{row_by, last_must, made_by}
use Rattle.mib_model.specs.Fitting.{FitsCells}
use Rattle.mib_model.specs.Lines.{fields, field_at}
use Rattle.mib_model.specs.Writing.{cell_text, line_onto, line_by}
use Rattle.mib_rows.proofs.PlainFacts.{IsWhole, fields-tab, fields-last, fields-tabs}
use Rattle.mib_rows.proofs.AgainFacts.{AreColumns, value-again, value_whole}

-- the numbers of the columns rise from a number on
abbrev pub Rise : ℕ → List Column → Type 0
Rise at [] = Unit {0}
Rise at (column ∷ columns) = (at < number_in column) × Rise (number_in column) columns

-- a line from a column on: the tabs up to each column, and its text
abbrev pub line_from : ℕ → (columns : List Column) → Cells columns → List ℕ
line_from at [] values = []
line_from at (column ∷ columns) values = replicate (number_in column - at) 9 ++ cell_text column values.0 ++ line_from (number_in column) columns values.1

-- the fields behind a column: empty ones up to each column, and its text
abbrev pub fields_from : ℕ → (columns : List Column) → Cells columns → List (List ℕ)
fields_from at [] values = []
fields_from at (column ∷ columns) values = replicate (number_in column - at - 1) [] ++ cell_text column values.0 ∷ fields_from (number_in column) columns values.1

line_onto-is : (line : List ℕ) (at : ℕ) (columns : List Column) (values : Cells columns) → line_onto line at columns values ≡ line ++ line_from at columns values
line_onto-is line at [] values = sym (append-nil line)
line_onto-is line at (column ∷ columns) values =
    let tabs = replicate (number_in column - at) 9 in
    let text = cell_text column values.0 in
    line_onto-is (line ++ tabs ++ text) (number_in column) columns values.1 ∙ simp append_assoc

tabs_first : (d k : ℕ) (text rest : List ℕ) → d ≡ suc k → replicate d 9 ++ text ++ rest ≡ 9 ∷ (replicate k 9 ++ (text ++ rest))
tabs_first d k text rest e = subst (λ (m : ℕ). replicate m 9 ++ text ++ rest ≡ 9 ∷ (replicate k 9 ++ (text ++ rest))) (sym e) (append_assoc (9 ∷ replicate k 9) text rest)

fields-line : (text : List ℕ) (at : ℕ) (columns : List Column) (values : Cells columns) → IsWhole text → Rise at columns → AreColumns columns → FitsCells columns values
    → fields (text ++ line_from at columns values) ≡ text ∷ fields_from at columns values
fields-line text at [] values free rise are fits = ap fields (append-nil text) ∙ fields-last text free
fields-line text at (column ∷ columns) values free rise are fits =
    let k = number_in column - at - 1 in
    let here = cell_text column values.0 in
    let rest = here ++ line_from (number_in column) columns values.1 in
    let gap : number_in column - at ≡ suc k = omega (arith, rise.0) in
    let tabs : replicate (number_in column - at) 9 ++ here ++ line_from (number_in column) columns values.1 ≡ 9 ∷ (replicate k 9 ++ rest) = tabs_first (number_in column - at) k here (line_from (number_in column) columns values.1) gap in
    let more = fields-line here (number_in column) columns values.1 (value_whole column values.0 are.0 fits.0) rise.1 are.1 fits.1 in
    ap (λ (t : List ℕ). fields (text ++ t)) tabs ∙ fields-tab text (replicate k 9 ++ rest) free
    ∙ ap (λ (parts : List (List ℕ)). text ∷ parts) (fields-tabs k rest ∙ ap (λ (parts : List (List ℕ)). replicate k [] ++ parts) more)

get_behind : (front : List (List ℕ)) (text : List ℕ) (rest : List (List ℕ)) → slice_get (front ++ text ∷ rest) (length front) ≡ Some text
get_behind [] text rest = refl
get_behind (x ∷ front) text rest = get_behind front text rest

field_at-behind : (front : List (List ℕ)) (text : List ℕ) (rest : List (List ℕ)) → field_at (front ++ text ∷ rest) (length front + 1) ≡ text
field_at-behind front text rest =
    let place : length front + 1 - 1 ≡ length front = omega arith in
    ap (λ (k : ℕ). unwrap_or (slice_get (front ++ text ∷ rest) k) []) place ∙ ap (λ (o : Option (List ℕ)). unwrap_or o []) (get_behind front text rest)

row-behind : {Made : Type 0} (columns : List Column) (make : Cells columns → Made) (values : Cells columns) (front : List (List ℕ)) → Rise (length front) columns → AreColumns columns → FitsCells columns values
    → row_by columns make (front ++ fields_from (length front) columns values) ≡ Ok (make values)
row-behind [] make values front rise are fits = refl
row-behind (column ∷ columns) make values front rise are fits =
    let gap : List (List ℕ) = replicate (number_in column - length front - 1) [] in
    let text = cell_text column values.0 in
    let rest = fields_from (number_in column) columns values.1 in
    let place : length (front ++ gap) + 1 ≡ number_in column = omega (arith, length-append front gap, length-replicate {A = List ℕ} (number_in column - length front - 1) [], rise.0) in
    let past : length ((front ++ gap) ++ text ∷ []) ≡ number_in column = omega (arith, length-append (front ++ gap) (text ∷ []), place) in
    let all : front ++ (gap ++ text ∷ rest) ≡ (front ++ gap) ++ text ∷ rest = sym (append_assoc front gap (text ∷ rest)) in
    let found : field_at ((front ++ gap) ++ text ∷ rest) (number_in column) ≡ text = subst (λ (k : ℕ). field_at ((front ++ gap) ++ text ∷ rest) k ≡ text) place (field_at-behind (front ++ gap) text rest) in
    let here : cell_of column (field_at ((front ++ gap) ++ text ∷ rest) (number_in column)) ≡ Ok values.0 = ap (cell_of column) found ∙ value-again column values.0 are.0 fits.0 in
    let there = row-behind columns (λ vs. make (values.0, vs)) values.1 ((front ++ gap) ++ text ∷ []) (subst (λ (k : ℕ). Rise k columns) (sym past) rise.1) are.1 fits.1 in
    let on : row_by columns (λ vs. make (values.0, vs)) ((front ++ gap) ++ text ∷ rest) ≡ Ok (make values) =
    ap (row_by columns (λ vs. make (values.0, vs))) (sym (append_assoc (front ++ gap) (text ∷ []) rest))
    ∙ subst (λ (k : ℕ). row_by columns (λ vs. make (values.0, vs)) (((front ++ gap) ++ text ∷ []) ++ fields_from k columns values.1) ≡ Ok (make values)) past there in
    rw (all, here) on

abbrev pub IsSome_column : List Column → Type 0
IsSome_column [] = ⊥
IsSome_column (column ∷ columns) = Unit {0}

pub fields-line_by : (columns : List Column) (values : Cells columns) → IsSome_column columns → Rise 0 columns → AreColumns columns → FitsCells columns values
    → fields (line_by columns values) ≡ fields_from 0 columns values
fields-line_by [] values some rise are fits = absurd some
fields-line_by (column ∷ columns) values some rise are fits =
    let tabs : List ℕ = replicate (number_in column - 1) 9 in
    let text = cell_text column values.0 in
    let rest = line_from (number_in column) columns values.1 in
    let line : line_by (column ∷ columns) values ≡ tabs ++ (text ++ rest) = line_onto-is (tabs ++ text) (number_in column) columns values.1 ∙ append_assoc tabs text rest in
    let gap : number_in column - 1 ≡ number_in column - 0 - 1 = omega arith in
    ap fields line ∙ fields-tabs (number_in column - 1) (text ++ rest)
    ∙ ap (λ (parts : List (List ℕ)). replicate (number_in column - 1) [] ++ parts) (fields-line text (number_in column) columns values.1 (value_whole column values.0 are.0 fits.0) rise.1 are.1 fits.1)
    ∙ ap (λ (k : ℕ). replicate k [] ++ text ∷ fields_from (number_in column) columns values.1) gap

-- the number of the last column
abbrev pub last_number : ℕ → List Column → ℕ
last_number at [] = at
last_number at (column ∷ columns) = last_number (number_in column) columns

length-fields_from : (at : ℕ) (columns : List Column) (values : Cells columns) → Rise at columns → at + length (fields_from at columns values) ≡ last_number at columns
length-fields_from at [] values rise = omega arith
length-fields_from at (column ∷ columns) values rise =
    let more = length-fields_from (number_in column) columns values.1 rise.1 in
    let gap : List (List ℕ) = replicate (number_in column - at - 1) [] in
    omega (arith, more, length-append gap (cell_text column values.0 ∷ fields_from (number_in column) columns values.1), length-replicate {A = List ℕ} (number_in column - at - 1) [], rise.0)

-- what the columns of a table must be for this: checked once for each table
pub record IsTable (columns : List Column) : Type 0 where
  pub some : IsSome_column columns
  pub rise : Rise 0 columns
  pub are : AreColumns columns
  pub enough : last_must columns ≤ last_number 0 columns

-- a row is read again from its line
pub made_by-again : {Made : Type 0} (columns : List Column) (make : Cells columns → Made) (values : Cells columns) → IsTable columns → FitsCells columns values
    → made_by columns make (fields (line_by columns values)) ≡ Ok (make values)
made_by-again columns make values table fits =
    let cells = fields-line_by columns values table.some table.rise table.are fits in
    let many = length-fields_from 0 columns values table.rise in
    let enough : nat_lt (length (fields_from 0 columns values)) (last_must columns) ≡ false = grind (arith, nat_tests, table.enough, many) in
    rw (cells, enough) (row-behind columns make values [] table.rise table.are fits)
