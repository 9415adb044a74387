-- What is read of a line fits its columns.
use Rattle.std.proofs.Common.{◌≡◌, ◌≢◌, reverse, ℕ, zero, suc, ◌-◌, ◌≤◌, ◌<◌, Bool, true, false, ◌&&◌, not, cond, List, [], ◌∷◌, ◌++◌, length, Option, Some, None, Ok, Err, codes, decimal, nat_abs, ◌^◌, ℤ, pos, negsuc, ◌≤ℤ◌, refl, sym, ap, subst, ◌∙◌, inl, inr, arith, eqb}
use Rattle.std.specs.Prelude.{unwrap_or, slice_get, Result, ok_or, int_le, nat_lt}
use Rattle.std.specs.Char.{is_ascii_uppercase}
use Rattle.std.specs.List.{list_all, list_any, onto_first}
use Rattle.std.specs.Fmt.{signed_decimal}
use Rattle.std.proofs.lemmas.Bool.{cases_Bool}
use Rattle.std.proofs.lemmas.Bool.Decides.{nat_tests}
use Rattle.std.proofs.lemmas.Int.{ints}
use Rattle.std.proofs.lemmas.Fmt.{decimal_nonempty}
use Rattle.mib_model.specs.declared.line_fault.LineFault.{LineFault}
use Rattle.mib_model.specs.declared.rows.Bound.{Bound}
use Rattle.mib_model.specs.declared.rows.Bound.TheVariants as bound
use Rattle.mib_model.specs.declared.number.Dec.{Dec}
use Rattle.mib_model.specs.declared.number.DecFault.{DecFault}
use Rattle.mib_model.specs.Attempts.{◌>>=◌, made_into}
use Rattle.mib_model.specs.Forms.{Form, Named, Natural, Integer, Letter, Capital, Decimal, AnyText, Bounding, Content, fault_in, decimal_in, counted, content_of}
use Rattle.mib_model.specs.Columns.{Column, Must, Optional, Filled, number_in, Cell, Cells, or_empty, cell_of}
use Rattle.mib_model.specs.ColumnRows.{row_by, made_by, last_must}
use Rattle.mib_model.specs.Decimals.{dec_of}
use Rattle.mib_model.specs.Fitting.{IsDecimal, FitsForm, FitsCell, FitsCells, FitsText}
use Rattle.mib_model.specs.Lines.{fields, field_at, is_tab, without_front, trimmed}
use Rattle.mib_model.specs.Names.{is_name, is_text, name_of, text_of}
use Rattle.mib_model.specs.Numbers.{number_of, signed_of, size, code_of, letter_by, capital_of}
use Rattle.mib_model.specs.Writing.{content_text, decimal_text}
use Rattle.mib_rows.proofs.PlainFacts.{IsWhole, and_left, and_right, list_all-reverse}
use Rattle.mib_rows.proofs.AgainFacts.{IsForm, IsColumn, AreColumns, within_size}
use Rattle.mib_model.specs.declared.fault.MibCode.TheVariants.{FewFields, BadNumber, BadCode, BadName}
use Rattle.row_laws.proofs.DecimalFacts.{decimal-again}

-- every field of a line is whole
AreWhole : List (List ℕ) → Type 0
AreWhole [] = Unit {0}
AreWhole (text ∷ texts) = IsWhole text × AreWhole texts

onto_whole : (c : ℕ) (texts : List (List ℕ)) → is_tab c ≡ false → AreWhole texts → AreWhole (onto_first c texts)
unfolding AreWhole
onto_whole c [] other are = (record { each = rw other refl }, tt)
onto_whole c (text ∷ texts) other are = (record { each = rw (other, are.0.each) refl }, are.1)

fields_whole : (line : List ℕ) → AreWhole (fields line)
unfolding AreWhole
fields_whole [] = (record { each = refl }, tt)
fields_whole (c ∷ line) = elim (cases_Bool (is_tab c)) [
  | inl tab ↦ rw tab (record { each = refl }, fields_whole line)
  | inr other ↦ rw other (onto_whole c (fields line) other (fields_whole line))
]

whole_at : (texts : List (List ℕ)) (place : ℕ) → AreWhole texts → IsWhole (unwrap_or (slice_get texts place) [])
unfolding AreWhole
whole_at [] place are = record { each = refl }
whole_at (text ∷ texts) zero are = are.0
whole_at (text ∷ texts) (suc place) are = whole_at texts place are.1

pub field_whole : (line : List ℕ) (place : ℕ) → IsWhole (field_at (fields line) place)
field_whole line place = whole_at (fields line) (place - 1) (fields_whole line)

-- what a test lets pass
ok_of_if : {A : Type 0} (test : Bool) (value given : A) (fault : LineFault) → ok_or (cond test (Some value) None) fault ≡ Ok given → (test ≡ true) × (value ≡ given)
ok_of_if true value given fault reads = (refl, cc)
ok_of_if false value given fault reads = absurd (never value given fault reads)
  where
    never : {A : Type 0} (value given : A) (fault : LineFault) → ok_or {T = A} None fault ≡ Ok given → ⊥
    never value given fault reads = cc

pub ok_of : {A : Type 0} (option : Option A) (given : A) (fault : LineFault) → ok_or option fault ≡ Ok given → option ≡ Some given
ok_of None given fault reads = cc
ok_of (Some value) given fault reads = cc

pub made_into-ok : {A B : Type 0} (make : A → B) (read : Result A LineFault) (made : B) → made_into make read ≡ Ok made → (value : A) × (read ≡ Ok value) × (make value ≡ made)
made_into-ok make (Ok value) made reads = (value, refl, cc)
made_into-ok make (Err fault) made reads = cc

decimal_in-ok : (number : ℕ) (read : Result Dec DecFault) (d : Dec) → decimal_in number read ≡ Ok d → read ≡ Ok d
decimal_in-ok number (Ok x) d reads = cc
decimal_in-ok number (Err why) d reads = cc

-- a number that is read stands in its range
le_from : (x y : ℤ) → int_le x y ≡ true → x ≤ℤ y
le_from x y le = search (arith, ints, nat_tests)

abbrev none : Option ℤ
none = None

no_number : (given : ℤ) → none ≡ Some given → ⊥
no_number given reads = cc

in_range_by : (low high z given : ℤ) (inside : Bool) → inside ≡ (int_le low z && int_le z high) → cond inside (Some z) None ≡ Some given → (low ≤ℤ given) × (given ≤ℤ high)
in_range_by low high z given true is reads =
    let same : z ≡ given = cc in
    let a = le_from low z (and_left (int_le low z) (int_le z high) (sym is)) in
    let b = le_from z high (and_right (int_le low z) (int_le z high) (sym is)) in
    (subst (λ (w : ℤ). low ≤ℤ w) same a, subst (λ (w : ℤ). w ≤ℤ high) same b)
in_range_by low high z given false is reads = absurd (no_number given reads)

number_fits : (low high : ℤ) (octets : List ℕ) (signed : Option ℤ) (given : ℤ) → signed ≡ signed_of octets → number_of low high octets ≡ Some given → (low ≤ℤ given) × (given ≤ℤ high)
number_fits low high octets None given is reads = absurd (no_number given (rw (sym is) at reads))
number_fits low high octets (Some z) given is reads = in_range_by low high z given (int_le low z && int_le z high) refl (rw (sym is) at reads)

-- a letter that is read passes
pub letter_is : (passes : ℕ → Bool) (octets : List ℕ) (letter : ℕ) → letter_by passes octets ≡ Some letter → octets ≡ letter ∷ []
letter_is passes [] letter reads = cc
letter_is passes (c ∷ []) letter reads = elim (cases_Bool (passes c)) [
  | inl pass ↦ (let same : c ≡ letter = cc (rw pass at reads) in ap (λ (d : ℕ). d ∷ []) same)
  | inr other ↦ cc (rw other at reads)
]
letter_is passes (c ∷ d ∷ octets) letter reads = cc

letter_fits : (passes : ℕ → Bool) (octets : List ℕ) (letter : ℕ) → letter_by passes octets ≡ Some letter → passes letter ≡ true
letter_fits passes [] letter reads = cc
letter_fits passes (c ∷ []) letter reads = elim (cases_Bool (passes c)) [
  | inl pass ↦ (let same : c ≡ letter = cc (rw pass at reads) in subst (λ (d : ℕ). passes d ≡ true) same pass)
  | inr other ↦ cc (rw other at reads)
]
letter_fits passes (c ∷ d ∷ octets) letter reads = cc

if_ok : (test : Bool) (octets given : List ℕ) → cond test (Some octets) None ≡ Some given → (test ≡ true) × (octets ≡ given)
if_ok true octets given reads = (refl, cc)
if_ok false octets given reads = cc

filled_text : (octets : List ℕ) → 0 < length octets → octets ≢ []
filled_text [] filled none = absurd (omega arith)
filled_text (c ∷ octets) filled none = cc

signed_filled : (z : ℤ) → nat_abs z < 2 ^ 64 → signed_decimal z ≢ []
signed_filled (pos n) small nothing = filled_text (decimal n) (decimal_nonempty n small) nothing
signed_filled (negsuc n) small nothing = cc

append_filled : (xs ys : List ℕ) → xs ≢ [] → (xs ++ ys) ≢ []
append_filled [] ys some none = absurd (some refl)
append_filled (x ∷ xs) ys some none = cc

decimal_filled : (d : Dec) → IsDecimal d → decimal_text d ≢ []
unfolding decimal_text
decimal_filled d fits = append_filled (signed_decimal d.m ++ codes "E") (signed_decimal d.e) (append_filled (signed_decimal d.m) (codes "E") (signed_filled d.m (omega (arith, fits.digits))))

-- what a form reads fits it, and is written as something where it was something
record Reads (form : Form) (octets : List ℕ) (content : Content form) : Type 0 where
  fits : FitsForm form content
  written : octets ≢ [] → content_text form content ≢ []

natural_fits : (low high : ℕ) (z : ℤ) (n : ℕ) → pos low ≤ℤ z → z ≤ℤ pos high → size z ≡ n → (low ≤ n) × (n ≤ high)
natural_fits low high (pos k) n above below is = (omega (arith, ints), omega (arith, ints))
natural_fits low high (negsuc k) n above below is = absurd (omega (arith, ints))

content-fits : (form : Form) (number : ℕ) (octets : List ℕ) (content : Content form) → IsForm form → IsWhole octets → content_of form number octets ≡ Ok content → Reads form octets content
unfolding content_of
content-fits Named number octets content form free reads =
    let p = if_ok (is_name octets) octets content (ok_of (name_of octets) content (fault_in number BadName) reads) in
    record { fits = subst (λ (t : List ℕ). is_name t ≡ true) p.1 p.0; written = λ some none. some (p.1 ∙ none) }
content-fits (Natural low high) number octets content form free reads =
    let p = made_into-ok size (ok_or (number_of (pos low) (pos high) octets) (fault_in number BadNumber)) content reads in
    let q = number_fits (pos low) (pos high) octets (signed_of octets) p.0 refl (ok_of (number_of (pos low) (pos high) octets) p.0 (fault_in number BadNumber) p.1) in
    let fit = natural_fits low high p.0 content q.0 q.1 p.2 in
    record { fits = fit; written = λ some. filled_text (decimal content) (decimal_nonempty content (omega (arith, form, fit.1))) }
content-fits (Integer low high) number octets content form free reads =
    let q = number_fits low high octets (signed_of octets) content refl (ok_of (number_of low high octets) content (fault_in number BadNumber) reads) in
    record { fits = q; written = λ some. signed_filled content (within_size low high content form.0 form.1 q.0 q.1) }
content-fits (Letter letters) number octets content form free reads =
    record { fits = letter_fits (λ letter. list_any (λ one. eqb one letter) letters) octets content (ok_of (code_of letters octets) content (fault_in number BadCode) reads); written = λ some none. cc }
content-fits Capital number octets content form free reads =
    record { fits = letter_fits is_ascii_uppercase octets content (ok_of (capital_of octets) content (fault_in number BadCode) reads); written = λ some none. cc }
content-fits Decimal number octets content form free reads =
    let fit = decimal-again octets content (decimal_in-ok number (dec_of octets) content reads) in
    record { fits = fit; written = λ some. decimal_filled content fit }
content-fits AnyText number octets content form free reads =
    let p = if_ok (is_text octets) octets content (ok_of (text_of octets) content (fault_in number BadName) reads) in
    record { fits = subst FitsText p.1 (record { short = p.0; whole = free.each }); written = λ some none. some (p.1 ∙ none) }
content-fits (Bounding true) number octets content form free reads =
    let q = made_into-ok bound.Words (ok_or (text_of octets) (fault_in number BadName)) content reads in
    let p = if_ok (is_text octets) octets q.0 (ok_of (text_of octets) q.0 (fault_in number BadName) q.1) in
    let fit : FitsText q.0 = subst FitsText p.1 (record { short = p.0; whole = free.each }) in
    subst (λ (b : Bound). Reads (Bounding true) octets b) q.2 (record { fits = fit; written = λ some none. some (p.1 ∙ none) })
content-fits (Bounding false) number octets content form free reads =
    let q = made_into-ok bound.Number (decimal_in number (dec_of octets)) content reads in
    let fit = decimal-again octets q.0 (decimal_in-ok number (dec_of octets) q.0 q.1) in
    subst (λ (b : Bound). Reads (Bounding false) octets b) q.2 (record { fits = fit; written = λ some. decimal_filled q.0 fit })

without_front_whole : (octets : List ℕ) → list_all (λ c. not (is_tab c)) octets ≡ true → list_all (λ c. not (is_tab c)) (without_front octets) ≡ true
without_front_whole [] each = refl
without_front_whole (c ∷ octets) each = elim (cases_Bool (eqb c 32)) [
  | inl space ↦ rw space (without_front_whole octets (and_right (not (is_tab c)) (list_all (λ d. not (is_tab d)) octets) each))
  | inr other ↦ rw other each
]

trimmed_whole : (octets : List ℕ) → IsWhole octets → IsWhole (trimmed octets)
unfolding trimmed
trimmed_whole octets free =
    let front = without_front_whole octets free.each in
    let back = without_front_whole (reverse (without_front octets)) (list_all-reverse (λ c. not (is_tab c)) (without_front octets) front) in
    record { each = list_all-reverse (λ c. not (is_tab c)) (without_front (reverse (without_front octets))) back }

counted_whole : (form : Form) (octets : List ℕ) → IsWhole octets → IsWhole (counted form octets)
counted_whole AnyText octets free = free
counted_whole (Bounding true) octets free = free
counted_whole (Bounding false) octets free = trimmed_whole octets free
counted_whole Named octets free = trimmed_whole octets free
counted_whole (Natural low high) octets free = trimmed_whole octets free
counted_whole (Integer low high) octets free = trimmed_whole octets free
counted_whole (Letter letters) octets free = trimmed_whole octets free
counted_whole Capital octets free = trimmed_whole octets free
counted_whole Decimal octets free = trimmed_whole octets free

ok_is : {A : Type 0} (read : Result A LineFault) (x y : A) → read ≡ Ok x → read ≡ Ok y → x ≡ y
ok_is read x y first second = cc

abbrev none_of : {A : Type 0} → Option A
none_of = None

no_content : {A : Type 0} (content : A) → none_of ≡ Some content → ⊥
no_content content same = cc

optional_fits : (number : ℕ) (form : Form) (octets : List ℕ) (value : Option (Content form)) → IsForm form → IsWhole octets
    → or_empty octets None (made_into Some (content_of form number octets)) ≡ Ok value → FitsCell (Optional number form) value
optional_fits number form [] None is free reads = tt
optional_fits number form [] (Some content) is free reads =
    let same : none_of {A = Content form} ≡ Some content = ok_is {A = Option (Content form)} (Ok None) None (Some content) refl reads in
    absurd (no_content {A = Content form} content same)
optional_fits number form (c ∷ octets) None is free reads = tt
optional_fits number form (c ∷ octets) (Some content) is free reads =
    let q = made_into-ok {B = Option (Content form)} Some (content_of form number (c ∷ octets)) (Some content) reads in
    let p = content-fits form number (c ∷ octets) q.0 is free q.1 in
    let same : q.0 ≡ content = same_some {A = Content form} q.0 content q.2 in
    subst (λ (v : Content form). FitsForm form v × (content_text form v ≢ [])) same (p.fits, p.written (λ none. cc))
  where
    same_some : {A : Type 0} (x y : A) → Some x ≡ Some y → x ≡ y
    same_some x y same = cc

filled_fits : (number : ℕ) (form : Form) (empty : Content form) (octets : List ℕ) (value : Content form) → IsForm form → FitsForm form empty → IsWhole octets
    → or_empty octets empty (content_of form number octets) ≡ Ok value → FitsCell (Filled number form empty) value
filled_fits number form empty [] value is default free reads =
    let same : empty ≡ value = ok_is {A = Content form} (Ok empty) empty value refl reads in
    subst (λ (v : Content form). FitsForm form v × (content_text form v ≡ [] → v ≡ empty)) same (default, λ none. refl)
filled_fits number form empty (c ∷ octets) value is default free reads =
    let p = content-fits form number (c ∷ octets) value is free reads in
    (p.fits, λ none. absurd (p.written (λ e. cc) none))

abbrev pub DefaultFits : Column → Type 0
DefaultFits (Must number form) = Unit {0}
DefaultFits (Optional number form) = Unit {0}
DefaultFits (Filled number form empty) = FitsForm form empty

-- the defaults of the columns fit
abbrev pub DefaultsFit : List Column → Type 0
DefaultsFit [] = Unit {0}
DefaultsFit (column ∷ columns) = DefaultFits column × DefaultsFit columns

value-fits : (column : Column) (field : List ℕ) (value : Cell column) → IsColumn column → DefaultFits column → IsWhole field → cell_of column field ≡ Ok value → FitsCell column value
unfolding cell_of
value-fits (Must number form) field value is default free reads = (content-fits form number (counted form field) value is.0 (counted_whole form field free) reads).fits
value-fits (Optional number form) field value is default free reads = optional_fits number form (counted form field) value is (counted_whole form field free) reads
value-fits (Filled number form empty) field value is default free reads = filled_fits number form empty (counted form field) value is default (counted_whole form field free) reads

-- a row that is read is made of values that fit
abbrev err_of : {A : Type 0} → LineFault → Result A LineFault
err_of fault = Err fault

-- each value is what its field is in its column
abbrev pub AreRead : List (List ℕ) → (columns : List Column) → Cells columns → Type 0
AreRead row [] values = Unit {0}
AreRead row (column ∷ columns) values = (cell_of column (field_at row (number_in column)) ≡ Ok values.0) × AreRead row columns values.1

-- the values of a line that is read as something
pub record IsMadeOf {Made : Type 0} (columns : List Column) (make : Cells columns → Made) (line : List ℕ) (made : Made) : Type 0 where
  pub values : Cells columns
  pub is : make values ≡ made
  pub fit : FitsCells columns values
  pub are_read : AreRead (fields line) columns values

-- one more column in front
row_by-step : {Made : Type 0} (column : Column) (columns : List Column) (make : Cells (column ∷ columns) → Made) (line : List ℕ) (made : Made) (read : Result (Cell column) LineFault)
    → IsColumn column → DefaultFits column → read ≡ cell_of column (field_at (fields line) (number_in column))
    → ((value : Cell column) → row_by columns (λ vs. make (value, vs)) (fields line) ≡ Ok made → IsMadeOf columns (λ vs. make (value, vs)) line made)
    → (read >>= λ value. row_by columns (λ vs. make (value, vs)) (fields line)) ≡ Ok made
    → IsMadeOf (column ∷ columns) make line made
row_by-step column columns make line made (Ok value) is default read rest reads =
    let more = rest value reads in
    let fit = value-fits column (field_at (fields line) (number_in column)) value is default (field_whole line (number_in column)) (sym read) in
    record { values = (value, more.values); is = more.is; fit = (fit, more.fit); are_read = (sym read, more.are_read) }
row_by-step column columns make line made (Err fault) is default read rest reads = absurd (not_ok fault made reads)
  where
    not_ok : {A : Type 0} (fault : LineFault) (made : A) → err_of fault ≡ Ok made → ⊥
    not_ok fault made reads = cc

row_by-fits : {Made : Type 0} (columns : List Column) (make : Cells columns → Made) (line : List ℕ) (made : Made) → AreColumns columns → DefaultsFit columns
    → row_by columns make (fields line) ≡ Ok made → IsMadeOf columns make line made
row_by-fits [] make line made are defaults reads = record { values = tt; is = ok_is (Ok (make tt)) (make tt) made refl reads; fit = tt; are_read = tt }
row_by-fits (column ∷ columns) make line made are defaults reads =
    row_by-step column columns make line made (cell_of column (field_at (fields line) (number_in column))) are.0 defaults.0 refl
    (λ value more. row_by-fits columns (λ vs. make (value, vs)) line made are.1 defaults.1 more) reads

made_by-step : {Made : Type 0} (few : Bool) (read : Result Made LineFault) (made : Made) → cond few (err_of (fault_in 0 FewFields)) read ≡ Ok made → read ≡ Ok made
made_by-step true read made reads = cc
made_by-step false read made reads = reads

-- the same of a whole line
pub made_by-fits : {Made : Type 0} (columns : List Column) (make : Cells columns → Made) (line : List ℕ) (made : Made) → AreColumns columns → DefaultsFit columns
    → made_by columns make (fields line) ≡ Ok made → IsMadeOf columns make line made
made_by-fits columns make line made are defaults reads =
    row_by-fits columns make line made are defaults (made_by-step (nat_lt (length (fields line)) (last_must columns)) (row_by columns make (fields line)) made reads)
