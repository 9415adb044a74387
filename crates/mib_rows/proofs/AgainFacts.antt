-- What is written in the columns of a table is read again.
use Rattle.std.proofs.Common.{◌≡◌, ◌≢◌, ℕ, ◌<◌, ◌^◌, true, false, List, [], ◌∷◌, ◌++◌, Some, None, Ok, ℤ, pos, negsuc, nat_abs, ◌≤ℤ◌, codes, refl, sym, ap, subst, inl, inr, arith, eqb}
use Rattle.std.specs.Char.{is_ascii_uppercase}
use Rattle.std.specs.List.{list_all, list_any}
use Rattle.std.specs.Fmt.{signed_decimal}
use Rattle.std.proofs.lemmas.Bool.{cases_Bool}
use Rattle.std.proofs.lemmas.Bool.Decides.{nat_tests}
use Rattle.std.proofs.lemmas.Int.{ints}
use Rattle.mib_model.specs.declared.rows.Bound.TheVariants as bound
use Rattle.mib_model.specs.declared.number.Dec.{Dec}
use Rattle.mib_model.specs.Forms.{Form, Named, Natural, Integer, Letter, Capital, Decimal, AnyText, Bounding, Content, counted, content_of}
use Rattle.mib_model.specs.Columns.{Column, Must, Optional, Filled, Cell, cell_of}
use Rattle.mib_model.specs.Fitting.{IsDecimal, FitsForm, FitsCell}
use Rattle.mib_model.specs.Lines.{trimmed}
use Rattle.mib_model.specs.Names.{is_visible}
use Rattle.mib_model.specs.Writing.{decimal_text, content_text, cell_text}
use Rattle.mib_rows.proofs.PlainFacts.{IsPlain, IsWhole, whole, and_left, and_right, trimmed-plain, plain-decimal, plain-signed, plain-append}
use Rattle.mib_rows.proofs.NumberFacts.{number-again}

-- the forms that tables have: ranges of at most 20 digits, and letters that are visible
abbrev pub IsForm : Form → Type 0
IsForm (Natural low high) = high < 2 ^ 64
IsForm (Integer low high) = (nat_abs low < 2 ^ 64) × (nat_abs high < 2 ^ 64)
IsForm (Letter letters) = list_all is_visible letters ≡ true
IsForm other = Unit {0}

-- a form that a column may have that must be there
abbrev pub IsMust : Form → Type 0
IsMust (Bounding false) = ⊥
IsMust other = Unit {0}

abbrev pub IsColumn : Column → Type 0
IsColumn (Must number form) = IsForm form × IsMust form
IsColumn (Optional number form) = IsForm form
IsColumn (Filled number form empty) = IsForm form

abbrev pub AreColumns : List Column → Type 0
AreColumns [] = Unit {0}
AreColumns (column ∷ columns) = IsColumn column × AreColumns columns

pub one_plain : (c : ℕ) → is_visible c ≡ true → IsPlain (c ∷ [])
one_plain c visible = record { each = rw visible refl }

pub among_visible : (letters : List ℕ) (c : ℕ) → list_all is_visible letters ≡ true → list_any (λ one. eqb one c) letters ≡ true → is_visible c ≡ true
among_visible [] c each some = absurd cc
among_visible (one ∷ letters) c each some = elim (cases_Bool (eqb one c)) [
  | inl same ↦ subst (λ (d : ℕ). is_visible d ≡ true) (same_number one c same) (and_left (is_visible one) (list_all is_visible letters) each)
  | inr other ↦ among_visible letters c (and_right (is_visible one) (list_all is_visible letters) each) (rw other at some)
] where
  same_number : (a b : ℕ) → eqb a b ≡ true → a ≡ b
  same_number a b same = grind (arith, nat_tests)

capital_visible : (c : ℕ) → is_ascii_uppercase c ≡ true → is_visible c ≡ true
capital_visible c capital = grind (arith, nat_tests)

pub within_size : (low high z : ℤ) → nat_abs low < 2 ^ 64 → nat_abs high < 2 ^ 64 → low ≤ℤ z → z ≤ℤ high → nat_abs z < 2 ^ 64
within_size low (pos h) (pos n) least most above below = omega (arith, ints)
within_size low (negsuc h) (pos n) least most above below = absurd (omega (arith, ints))
within_size (pos l) high (negsuc n) least most above below = absurd (omega (arith, ints))
within_size (negsuc l) high (negsuc n) least most above below = omega (arith, ints)

decimal_plain : (d : Dec) → IsDecimal d → IsPlain (decimal_text d)
unfolding decimal_text
decimal_plain d fits = plain-append (signed_decimal d.m ++ codes "E") (signed_decimal d.e) (plain-append (signed_decimal d.m) (codes "E") (plain-signed d.m (omega (arith, fits.digits))) (record { each = refl })) (plain-signed d.e (omega (arith, fits.exponent)))

-- the text of a form's content, but for texts, is plain
abbrev pub IsPlainForm : Form → Type 0
IsPlainForm AnyText = ⊥
IsPlainForm (Bounding true) = ⊥
IsPlainForm other = Unit {0}

content_plain : (form : Form) (content : Content form) → IsForm form → IsPlainForm form → FitsForm form content → IsPlain (content_text form content)
content_plain Named octets form plain fits = record { each = and_right _ _ fits }
content_plain (Natural low high) number form plain fits = plain-decimal number (omega (arith, fits.1, form))
content_plain (Integer low high) number form plain fits = plain-signed number (within_size low high number form.0 form.1 fits.0 fits.1)
content_plain (Letter letters) letter form plain fits = one_plain letter (among_visible letters letter form fits)
content_plain Capital letter form plain fits = one_plain letter (capital_visible letter fits)
content_plain Decimal d form plain fits = decimal_plain d fits
content_plain AnyText octets form plain fits = absurd plain
content_plain (Bounding true) b form plain fits = absurd plain
content_plain (Bounding false) bound.Empty form plain fits = record { each = refl }
content_plain (Bounding false) (bound.Number d) form plain fits = decimal_plain d fits
content_plain (Bounding false) (bound.Words octets) form plain fits = absurd fits

content_whole : (form : Form) (content : Content form) → IsForm form → FitsForm form content → IsWhole (content_text form content)
content_whole AnyText octets form fits = record { each = fits.whole }
content_whole (Bounding true) (bound.Words octets) form fits = record { each = fits.whole }
content_whole (Bounding true) bound.Empty form fits = absurd fits
content_whole (Bounding true) (bound.Number d) form fits = absurd fits
content_whole Named content form fits = whole _ (content_plain Named content form tt fits)
content_whole (Natural low high) content form fits = whole _ (content_plain (Natural low high) content form tt fits)
content_whole (Integer low high) content form fits = whole _ (content_plain (Integer low high) content form tt fits)
content_whole (Letter letters) content form fits = whole _ (content_plain (Letter letters) content form tt fits)
content_whole Capital content form fits = whole _ (content_plain Capital content form tt fits)
content_whole Decimal content form fits = whole _ (content_plain Decimal content form tt fits)
content_whole (Bounding false) content form fits = whole _ (content_plain (Bounding false) content form tt fits)

counted-again : (form : Form) (content : Content form) → IsForm form → FitsForm form content → counted form (content_text form content) ≡ content_text form content
counted-again AnyText octets form fits = refl
counted-again (Bounding true) b form fits = refl
counted-again Named content form fits = trimmed-plain _ (content_plain Named content form tt fits)
counted-again (Natural low high) content form fits = trimmed-plain _ (content_plain (Natural low high) content form tt fits)
counted-again (Integer low high) content form fits = trimmed-plain _ (content_plain (Integer low high) content form tt fits)
counted-again (Letter letters) content form fits = trimmed-plain _ (content_plain (Letter letters) content form tt fits)
counted-again Capital content form fits = trimmed-plain _ (content_plain Capital content form tt fits)
counted-again Decimal content form fits = trimmed-plain _ (content_plain Decimal content form tt fits)
counted-again (Bounding false) content form fits = trimmed-plain _ (content_plain (Bounding false) content form tt fits)

-- a content that its form reads: an empty bound is none
abbrev pub IsRead : (form : Form) → Content form → Type 0
IsRead Named content = Unit {0}
IsRead (Natural low high) content = Unit {0}
IsRead (Integer low high) content = Unit {0}
IsRead (Letter letters) content = Unit {0}
IsRead Capital content = Unit {0}
IsRead Decimal content = Unit {0}
IsRead AnyText content = Unit {0}
IsRead (Bounding true) content = Unit {0}
IsRead (Bounding false) bound.Empty = ⊥
IsRead (Bounding false) (bound.Number d) = Unit {0}
IsRead (Bounding false) (bound.Words octets) = Unit {0}

read_if_some : (form : Form) (content : Content form) → content_text form content ≢ [] → IsRead form content
read_if_some Named content some = tt
read_if_some (Natural low high) content some = tt
read_if_some (Integer low high) content some = tt
read_if_some (Letter letters) content some = tt
read_if_some Capital content some = tt
read_if_some Decimal content some = tt
read_if_some AnyText content some = tt
read_if_some (Bounding true) content some = tt
read_if_some (Bounding false) bound.Empty some = absurd (some refl)
read_if_some (Bounding false) (bound.Number d) some = tt
read_if_some (Bounding false) (bound.Words octets) some = tt

read_if_must : (form : Form) (content : Content form) → IsMust form → IsRead form content
read_if_must Named content must = tt
read_if_must (Natural low high) content must = tt
read_if_must (Integer low high) content must = tt
read_if_must (Letter letters) content must = tt
read_if_must Capital content must = tt
read_if_must Decimal content must = tt
read_if_must AnyText content must = tt
read_if_must (Bounding true) content must = tt
read_if_must (Bounding false) content must = absurd must

-- the text of a content is read as it
content-again : (form : Form) (number : ℕ) (content : Content form) → IsForm form → FitsForm form content → IsRead form content → content_of form number (content_text form content) ≡ Ok content
unfolding content_of
content-again Named number octets form fits read = rw fits refl
content-again (Natural low high) number n form fits read =
    let above : pos low ≤ℤ pos n = omega (arith, ints, fits.0) in
    let below : pos n ≤ℤ pos high = omega (arith, ints, fits.1) in
    rw (number-again (pos low) (pos high) (pos n) (omega (arith, fits.1, form)) above below) refl
content-again (Integer low high) number z form fits read = rw (number-again low high z (within_size low high z form.0 form.1 fits.0 fits.1) fits.0 fits.1) refl
content-again (Letter letters) number letter form fits read = rw fits refl
content-again Capital number letter form fits read = rw fits refl
content-again Decimal number d form fits read = rw fits.read refl
content-again AnyText number octets form fits read = rw fits.short refl
content-again (Bounding true) number (bound.Words octets) form fits read = rw fits.short refl
content-again (Bounding true) number bound.Empty form fits read = absurd fits
content-again (Bounding true) number (bound.Number d) form fits read = absurd fits
content-again (Bounding false) number bound.Empty form fits read = absurd read
content-again (Bounding false) number (bound.Number d) form fits read = rw fits.read refl
content-again (Bounding false) number (bound.Words octets) form fits read = absurd fits

filled-again : (number : ℕ) (form : Form) (empty content : Content form) (text : List ℕ) → counted form text ≡ text → (text ≡ [] → content ≡ empty)
    → (text ≢ [] → content_of form number text ≡ Ok content) → cell_of (Filled number form empty) text ≡ Ok content
unfolding cell_of
filled-again number form empty content [] same default read = rw same (ap Ok (sym (default refl)))
filled-again number form empty content (c ∷ text) same default read = rw same (read (λ none. cc))

optional-again : (number : ℕ) (form : Form) (content : Content form) (text : List ℕ) → counted form text ≡ text → text ≢ []
    → content_of form number text ≡ Ok content → cell_of (Optional number form) text ≡ Ok (Some content)
unfolding cell_of
optional-again number form content [] same some read = absurd (some refl)
optional-again number form content (c ∷ text) same some read = rw (same, read) refl

nothing : (form : Form) → counted form [] ≡ []
unfolding trimmed
nothing AnyText = refl
nothing (Bounding true) = refl
nothing (Bounding false) = refl
nothing Named = refl
nothing (Natural low high) = refl
nothing (Integer low high) = refl
nothing (Letter letters) = refl
nothing Capital = refl
nothing Decimal = refl

pub value-again : (column : Column) (value : Cell column) → IsColumn column → FitsCell column value → cell_of column (cell_text column value) ≡ Ok value
unfolding cell_of
value-again (Must number form) content is fits = rw (counted-again form content is.0 fits) (content-again form number content is.0 fits (read_if_must form content is.1))
value-again (Optional number form) None is fits = rw (nothing form) refl
value-again (Optional number form) (Some content) is fits = optional-again number form content (content_text form content) (counted-again form content is fits.0) fits.1
    (content-again form number content is fits.0 (read_if_some form content fits.1))
value-again (Filled number form empty) content is fits = filled-again number form empty content (content_text form content) (counted-again form content is fits.0) fits.1
    (λ some. content-again form number content is fits.0 (read_if_some form content some))

pub value_whole : (column : Column) (value : Cell column) → IsColumn column → FitsCell column value → IsWhole (cell_text column value)
value_whole (Must number form) content is fits = content_whole form content is.0 fits
value_whole (Optional number form) None is fits = record { each = refl }
value_whole (Optional number form) (Some content) is fits = content_whole form content is fits.0
value_whole (Filled number form empty) content is fits = content_whole form content is fits.0
