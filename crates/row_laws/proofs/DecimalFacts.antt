-- A decimal that is read is read again from its own text.
use Rattle.std.proofs.Common.{◌≡◌, ℕ, zero, suc, ◌+◌, ◌-◌, ◌*◌, ◌/◌, ◌%◌, ◌≤◌, ◌<◌, ◌^◌, Bool, true, false, ◌&&◌, ◌||◌, not, cond, List, [], ◌∷◌, ◌++◌, length, take, Result, Ok, Err, codes, decimal, ℤ, pos, negsuc, nat_abs, ◌+ℤ◌, ◌-ℤ◌, refl, sym, ap, subst, ◌∙◌, inl, inr, ◌⊎◌, append_assoc, arith, lit<}
use Rattle.std.specs.Prelude.{fold, int_lt, nat_lt, nat_le}
use Rattle.std.proofs.Math.Nat.{pow-le-pow_right}
use Rattle.std.proofs.lemmas.Bool.{ltb-false}
use Rattle.std.specs.Fmt.{signed_decimal}
use Rattle.std.specs.Char.{is_ascii_digit}
use Rattle.std.specs.List.{list_all, list_any, suffix_len, before_first, after_first, position_or_len}
use Rattle.std.proofs.lemmas.Bool.{cases_Bool}
use Rattle.std.proofs.lemmas.Bool.Decides.{nat_tests}
use Rattle.std.proofs.lemmas.Int.{ints}
use Rattle.std.proofs.lemmas.List.{append-nil}
use Rattle.std.proofs.lemmas.List.Folds.{list_all-append}
use Rattle.std.proofs.lemmas.List.Sums.{fold-append}
use Rattle.std.proofs.lemmas.Fmt.{decimal_digit, decimal_by_steps, decimal_nonempty, length-decimal-le}
use Rattle.mib_model.specs.declared.number.Dec.{Dec}
use Rattle.mib_model.specs.declared.number.DecFault.{DecFault}
use Rattle.mib_model.specs.declared.number.DecFault.TheVariants.{Form, Digits, Exponent}
use Rattle.mib_model.specs.Forms.{zero_decimal}
use Rattle.mib_model.specs.Decimals.{is_minus, is_sign, is_point, is_exponent_mark, is_zero_digit, unsigned_part, has_minus, with_sign, mantissa, exponent_part, whole_digits, fraction_digits, has_exponent_form, exponent_value, has_decimal_form, without_leading, without_trailing, scaled, scaled_from, dec_of}
use Rattle.mib_model.specs.Digits.{digits_value, are_digits}
use Rattle.mib_model.specs.Fitting.{IsDecimal}
use Rattle.mib_model.specs.Writing.{decimal_text}
use Rattle.dec_num.proofs.DigitFacts.{power-more}
use Rattle.dec_num.proofs.ScaledFacts.{from_parts, from_scaled}
use Rattle.dec_num.proofs.ZeroFacts.{without_leading-zero, without_leading-other, without_trailing-behind, without_trailing-front}
use Rattle.mib_rows.proofs.PlainFacts.{spelled, and_left, and_right}

pub zero_decimal_fits : IsDecimal zero_decimal
unfolding dec_of decimal_text
zero_decimal_fits = record { digits = omega arith; exponent = omega arith; read = rw (decimal_digit 0 (lit< tt)) refl }

abbrev err_of : DecFault → Result Dec DecFault
err_of fault = Err fault

not_ok : (fault : DecFault) (d : Dec) → err_of fault ≡ Ok d → ⊥
not_ok fault d reads = cc

abbrev ok_of_decimal : Dec → Result Dec DecFault
ok_of_decimal d = Ok d

ok_same : (x y : Dec) → ok_of_decimal x ≡ Ok y → x ≡ y
ok_same x y reads = cc

or_left : (a b : Bool) → (a || b) ≡ false → a ≡ false
or_left true b neither = cc
or_left false b neither = refl

or_right : (a b : Bool) → (a || b) ≡ false → b ≡ false
or_right true b neither = absurd (clash neither)
  where
    clash : true ≡ false → ⊥
    clash same = cc
or_right false b neither = neither

-- ---- what is read

-- digits whose last is no zero
pub record EndsFilled (digits : List ℕ) : Type 0 where
  pub front : List ℕ
  pub last : ℕ
  pub is : digits ≡ front ++ last ∷ []
  pub filled : is_zero_digit last ≡ false

ends-more : (x : ℕ) (digits : List ℕ) → EndsFilled digits → EndsFilled (x ∷ digits)
ends-more x digits ends = record { front = x ∷ ends.front; last = ends.last; is = ap (λ (xs : List ℕ). x ∷ xs) ends.is; filled = ends.filled }

one_other : (x : ℕ) → is_zero_digit x ≡ false → without_trailing (x ∷ []) ≡ x ∷ []
one_other x other = rw other refl

-- what is left at the end is nothing, or ends with a digit that is no zero
trailing_ends : (digits : List ℕ) → (without_trailing digits ≡ []) ⊎ EndsFilled (without_trailing digits)
trailing_ends [] = inl refl
trailing_ends (x ∷ digits) = by_rest (without_trailing digits) refl (trailing_ends digits)
  where
    one_zero : (x : ℕ) → is_zero_digit x ≡ true → without_trailing (x ∷ []) ≡ []
    one_zero x zeros = rw zeros refl

    alone : (x : ℕ) → (without_trailing (x ∷ []) ≡ []) ⊎ EndsFilled (without_trailing (x ∷ []))
    alone x = elim (cases_Bool (is_zero_digit x)) [
      | inl zeros ↦ inl (one_zero x zeros)
      | inr other ↦ inr (record { front = []; last = x; is = one_other x other; filled = other })
    ]

    by_rest : (rest : List ℕ) → without_trailing digits ≡ rest → (without_trailing digits ≡ []) ⊎ EndsFilled (without_trailing digits)
        → (without_trailing (x ∷ digits) ≡ []) ⊎ EndsFilled (without_trailing (x ∷ digits))
    by_rest [] none ends = subst (λ (t : List ℕ). (t ≡ []) ⊎ EndsFilled t) (sym (without_trailing-behind (x ∷ []) digits none)) (alone x)
    by_rest (d ∷ ds) some (inl none) = absurd (clash d ds (sym some ∙ none))
      where
        clash : (d : ℕ) (ds : List ℕ) → d ∷ ds ≡ [] → ⊥
        clash d ds same = cc
    by_rest (d ∷ ds) some (inr ends) =
        inr (subst EndsFilled (ap (λ (xs : List ℕ). x ∷ xs) some ∙ sym (without_trailing-front (x ∷ []) digits d ds some)) (ends-more x (without_trailing digits) ends))

-- digits without zeros at the front begin with another, and are digits
leading_first : (digits : List ℕ) (d : ℕ) (ds : List ℕ) → without_leading digits ≡ d ∷ ds → is_zero_digit d ≡ false
leading_first [] d ds is = cc
leading_first (x ∷ digits) d ds is = elim (cases_Bool (is_zero_digit x)) [
  | inl zeros ↦ leading_first digits d ds (sym (without_leading-zero x digits zeros) ∙ is)
  | inr other ↦ (let same : x ≡ d = cc (without_leading-other x digits other) in subst (λ (c : ℕ). is_zero_digit c ≡ false) same other)
]

leading_digits : (digits : List ℕ) → list_all is_ascii_digit digits ≡ true → list_all is_ascii_digit (without_leading digits) ≡ true
leading_digits [] each = refl
leading_digits (x ∷ digits) each = elim (cases_Bool (is_zero_digit x)) [
  | inl zeros ↦ rw (without_leading-zero x digits zeros) (leading_digits digits (and_right (is_ascii_digit x) (list_all is_ascii_digit digits) each))
  | inr other ↦ rw (without_leading-other x digits other) each
]

taken_digits : (n : ℕ) (digits : List ℕ) → list_all is_ascii_digit digits ≡ true → list_all is_ascii_digit (take n digits) ≡ true
taken_digits zero [] each = refl
taken_digits (suc n) [] each = refl
taken_digits zero (x ∷ digits) each = refl
taken_digits (suc n) (x ∷ digits) each = rw (and_left (is_ascii_digit x) (list_all is_ascii_digit digits) each, taken_digits n digits (and_right (is_ascii_digit x) (list_all is_ascii_digit digits) each)) refl

-- where the first digit is no zero, the last of what is left at the end is none
filled_ends : (digits : List ℕ) (d : ℕ) (ds : List ℕ) → digits ≡ d ∷ ds → is_zero_digit d ≡ false → EndsFilled (without_trailing digits)
filled_ends [] d ds is other = absurd (clash d ds is)
  where
    clash : (d : ℕ) (ds : List ℕ) → [] ≡ d ∷ ds → ⊥
    clash d ds same = cc
filled_ends (x ∷ digits) d ds is other = by (trailing_ends (x ∷ digits)) (trailing_ends digits)
  where
    by : (without_trailing (x ∷ digits) ≡ []) ⊎ EndsFilled (without_trailing (x ∷ digits)) → (without_trailing digits ≡ []) ⊎ EndsFilled (without_trailing digits) → EndsFilled (without_trailing (x ∷ digits))
    by (inr ends) rest = ends
    by (inl none) (inl empty) = absurd (never (sym none ∙ without_trailing-behind (x ∷ []) digits empty ∙ one_other x (subst (λ (c : ℕ). is_zero_digit c ≡ false) same other)))
      where
        same : d ≡ x
        same = cc

        never : [] ≡ x ∷ [] → ⊥
        never clash = cc
    by (inl none) (inr ends) = more (without_trailing digits) refl ends
      where
        never : (rest : List ℕ) → [] ≡ x ∷ rest → ⊥
        never rest clash = cc

        empty_ends : (front : List ℕ) (last : ℕ) → [] ≡ front ++ last ∷ [] → ⊥
        empty_ends [] last clash = cc
        empty_ends (c ∷ front) last clash = cc

        more : (rest : List ℕ) → rest ≡ without_trailing digits → EndsFilled rest → EndsFilled (without_trailing (x ∷ digits))
        more [] is ends = absurd (empty_ends ends.front ends.last ends.is)
        more (c ∷ cs) is ends = absurd (never (c ∷ cs) (sym none ∙ without_trailing-front (x ∷ []) digits c cs (sym is)))

-- digits spell a number of as many digits
below_power : (digits : List ℕ) (start k : ℕ) → start < 10 ^ k → list_all is_ascii_digit digits ≡ true → fold (λ value digit. 10 * value + (digit - 48)) start digits < 10 ^ (k + length digits)
below_power [] start k small each = subst (λ (n : ℕ). start < 10 ^ n) (add-zero-sym k) small
  where
    add-zero-sym : (k : ℕ) → k ≡ k + 0
    add-zero-sym k = omega arith
below_power (x ∷ digits) start k small each =
    let digit = digit_small x (and_left (is_ascii_digit x) (list_all is_ascii_digit digits) each) in
    let more = below_power digits (10 * start + (x - 48)) (k + 1) (power-more start (x - 48) k small digit) (and_right (is_ascii_digit x) (list_all is_ascii_digit digits) each) in
    subst (λ (n : ℕ). fold (λ value digit. 10 * value + (digit - 48)) (10 * start + (x - 48)) digits < 10 ^ n) (one_more k (length digits)) more
  where
    digit_small : (c : ℕ) → is_ascii_digit c ≡ true → c - 48 < 10
    digit_small c digit = grind (arith, nat_tests)

    one_more : (k n : ℕ) → k + 1 + n ≡ k + suc n
    one_more k n = omega arith

-- a decimal with digits: up to 17, the last of which is no zero
pub record IsSignificant (d : Dec) : Type 0 where
  pub digits : nat_abs d.m < 10 ^ 17
  pub ends : 0 < nat_abs d.m % 10
  pub exponent : nat_abs d.e ≤ 30

last_value : (digits : List ℕ) → EndsFilled digits → list_all is_ascii_digit digits ≡ true → 0 < digits_value digits % 10
last_value digits ends each =
    let parts : list_all is_ascii_digit (ends.front ++ ends.last ∷ []) ≡ true = subst (λ (t : List ℕ). list_all is_ascii_digit t ≡ true) ends.is each in
    let tail = and_right (list_all is_ascii_digit ends.front) (list_all is_ascii_digit (ends.last ∷ [])) (sym (list_all-append is_ascii_digit ends.front (ends.last ∷ [])) ∙ parts) in
    let last = and_left (is_ascii_digit ends.last) true tail in
    let value : digits_value digits ≡ 10 * digits_value ends.front + (ends.last - 48) = ap digits_value ends.is ∙ fold-append (λ value digit. 10 * value + (digit - 48)) 0 ends.front (ends.last ∷ []) in
    let small = digit_some ends.last last ends.filled in
    omega (arith, value, small.0, small.1)
  where
    digit_some : (c : ℕ) → is_ascii_digit c ≡ true → is_zero_digit c ≡ false → (0 < c - 48) × (c - 48 < 10)
    digit_some c digit other = (grind (arith, nat_tests), grind (arith, nat_tests))

two_tests : (few far : Bool) (value given : Dec) → cond few (err_of Digits) (cond far (err_of Exponent) (Ok value)) ≡ Ok given → (few ≡ false) × (far ≡ false) × (value ≡ given)
two_tests true far value given reads = absurd (not_ok Digits given reads)
two_tests false true value given reads = absurd (not_ok Exponent given reads)
two_tests false false value given reads = (refl, refl, cc)

nat_abs-with_sign : (minus : Bool) (n : ℕ) → nat_abs (with_sign minus n) ≡ n
nat_abs-with_sign false n = refl
nat_abs-with_sign true zero = refl
nat_abs-with_sign true (suc n) = refl

near : (e : ℤ) → (int_lt e (negsuc 29) || int_lt (pos 30) e) ≡ false → nat_abs e ≤ 30
near (pos n) far = grind (arith, ints, nat_tests)
near (negsuc n) far = grind (arith, ints, nat_tests)

scaled-significant : (minus : Bool) (digits : List ℕ) (e : ℤ) (d : Dec) → EndsFilled digits → list_all is_ascii_digit digits ≡ true → scaled minus digits e ≡ Ok d → IsSignificant d
scaled-significant minus digits e d ends each reads =
    let p = two_tests (nat_lt 17 (length digits)) (int_lt e (negsuc 29) || int_lt (pos 30) e) (record { m = with_sign minus (digits_value digits); e = e }) d reads in
    let short : length digits ≤ 17 = ltb-false 17 (length digits) p.0 in
    let below = below_power digits 0 0 (lit< tt) each in
    let few : 0 + length digits ≤ 17 = omega (arith, short) in
    let most : 10 ^ (0 + length digits) ≤ 10 ^ 17 = pow-le-pow_right (lit< tt) few in
    let size = nat_abs-with_sign minus (digits_value digits) in
    subst IsSignificant p.2 (record {
      digits = omega (arith, below, most, size);
      ends = subst (λ (n : ℕ). 0 < n % 10) (sym size) (last_value digits ends each);
      exponent = near e p.1;
    })

scaled_from-significant : (minus : Bool) (digits : List ℕ) (e : ℤ) (d : Dec) → ((c : ℕ) (cs : List ℕ) → digits ≡ c ∷ cs → is_zero_digit c ≡ false) → list_all is_ascii_digit digits ≡ true
    → scaled_from minus digits e ≡ Ok d → (zero_decimal ≡ d) ⊎ IsSignificant d
scaled_from-significant minus [] e d first each reads = inl (ok_same zero_decimal d reads)
scaled_from-significant minus (c ∷ cs) e d first each reads =
    inr (scaled-significant minus (without_trailing (c ∷ cs)) (e +ℤ pos (suffix_len is_zero_digit (c ∷ cs))) d (filled_ends (c ∷ cs) c cs refl (first c cs refl))
    (taken_digits (length (c ∷ cs) - suffix_len is_zero_digit (c ∷ cs)) (c ∷ cs) each) reads)

one_test : (wrong : Bool) (read : Result Dec DecFault) (d : Dec) → cond (not wrong) (err_of Form) read ≡ Ok d → (wrong ≡ true) × (read ≡ Ok d)
one_test false read d reads = absurd (not_ok Form d reads)
one_test true read d reads = (refl, reads)

-- a decimal that is read is 0 or has digits
dec_of-significant : (text : List ℕ) (d : Dec) → dec_of text ≡ Ok d → (zero_decimal ≡ d) ⊎ IsSignificant d
unfolding dec_of
dec_of-significant text d reads =
    let digits = whole_digits text ++ fraction_digits text in
    let read = scaled_from (has_minus text) (without_leading digits) (exponent_value text -ℤ pos (length (fraction_digits text))) in
    let p = one_test (has_decimal_form text) read d reads in
    let form = and_left (nat_le 1 (length digits) && list_all is_ascii_digit digits) (has_exponent_form text) p.0 in
    let each = and_right (nat_le 1 (length digits)) (list_all is_ascii_digit digits) form in
    scaled_from-significant (has_minus text) (without_leading digits) (exponent_value text -ℤ pos (length (fraction_digits text))) d (leading_first digits) (leading_digits digits each) p.1

-- ---- what is written

next_place : (n : ℕ) → 1 + n ≡ suc n
next_place n = omega arith

-- what stands before and behind the first octet that passes
before-cut : (p : ℕ → Bool) (xs : List ℕ) (c : ℕ) (ys : List ℕ) → list_any p xs ≡ false → p c ≡ true → before_first p (xs ++ c ∷ ys) ≡ xs
before-cut p [] c ys away mark = rw mark refl
before-cut p (x ∷ xs) c ys away mark =
    let here = or_left (p x) (list_any p xs) away in
    let there = before-cut p xs c ys (or_right (p x) (list_any p xs) away) mark in
    rw (here, next_place (position_or_len p (xs ++ c ∷ ys))) (ap (λ (t : List ℕ). x ∷ t) there)

after-cut : (p : ℕ → Bool) (xs : List ℕ) (c : ℕ) (ys : List ℕ) → list_any p xs ≡ false → p c ≡ true → after_first p (xs ++ c ∷ ys) ≡ ys
after-cut p [] c ys away mark = rw mark refl
after-cut p (x ∷ xs) c ys away mark =
    let here = or_left (p x) (list_any p xs) away in
    let there = after-cut p xs c ys (or_right (p x) (list_any p xs) away) mark in
    let place : 1 + position_or_len p (xs ++ c ∷ ys) + 1 ≡ suc (position_or_len p (xs ++ c ∷ ys) + 1) = omega arith in
    rw (here, place) there

before-none : (p : ℕ → Bool) (xs : List ℕ) → list_any p xs ≡ false → before_first p xs ≡ xs
before-none p [] away = refl
before-none p (x ∷ xs) away = rw (or_left (p x) (list_any p xs) away, next_place (position_or_len p xs)) (ap (λ (t : List ℕ). x ∷ t) (before-none p xs (or_right (p x) (list_any p xs) away)))

after-none : (p : ℕ → Bool) (xs : List ℕ) → list_any p xs ≡ false → after_first p xs ≡ []
after-none p [] away = refl
after-none p (x ∷ xs) away =
    let place : 1 + position_or_len p xs + 1 ≡ suc (position_or_len p xs + 1) = omega arith in
    rw (or_left (p x) (list_any p xs) away, place) (after-none p xs (or_right (p x) (list_any p xs) away))

no_digit : (p : ℕ → Bool) → ((c : ℕ) → is_ascii_digit c ≡ true → p c ≡ false) → (digits : List ℕ) → list_all is_ascii_digit digits ≡ true → list_any p digits ≡ false
no_digit p other [] each = refl
no_digit p other (c ∷ digits) each = rw (other c (and_left (is_ascii_digit c) (list_all is_ascii_digit digits) each), no_digit p other digits (and_right (is_ascii_digit c) (list_all is_ascii_digit digits) each)) refl

digit_is_no_mark : (c : ℕ) → is_ascii_digit c ≡ true → is_exponent_mark c ≡ false
digit_is_no_mark c digit = grind (arith, nat_tests)

digit_is_no_point : (c : ℕ) → is_ascii_digit c ≡ true → is_point c ≡ false
digit_is_no_point c digit = grind (arith, nat_tests)

digit_is_no_sign : (c : ℕ) → is_ascii_digit c ≡ true → (is_sign c ≡ false) × (is_minus c ≡ false)
digit_is_no_sign c digit = (grind (arith, nat_tests), grind (arith, nat_tests))

-- digits behind a sign
abbrev is_negative : ℤ → Bool
is_negative (pos n) = false
is_negative (negsuc n) = true

unsigned_digits : (digits rest : List ℕ) → list_all is_ascii_digit digits ≡ true → 0 < length digits → (unsigned_part (digits ++ rest) ≡ digits ++ rest) × (has_minus (digits ++ rest) ≡ false)
unsigned_digits [] rest each some = absurd (omega arith)
unsigned_digits (c ∷ digits) rest each some =
    let unsigned = digit_is_no_sign c (and_left (is_ascii_digit c) (list_all is_ascii_digit digits) each) in
    (rw unsigned.0 refl, rw unsigned.1 refl)

signed_parts : (z : ℤ) (rest : List ℕ) → nat_abs z < 2 ^ 64 → (unsigned_part (signed_decimal z ++ rest) ≡ decimal (nat_abs z) ++ rest) × (has_minus (signed_decimal z ++ rest) ≡ is_negative z)
signed_parts (pos n) rest small = unsigned_digits (decimal n) rest (spelled n small).each (decimal_nonempty n small)
signed_parts (negsuc n) rest small = (refl, refl)

with_sign-again : (z : ℤ) → with_sign (is_negative z) (nat_abs z) ≡ z
with_sign-again (pos n) = refl
with_sign-again (negsuc n) = refl

-- the digits of a number that ends with no zero
record IsFilled (n : ℕ) (digits : List ℕ) : Type 0 where
  first : ℕ
  rest : List ℕ
  begins : digits ≡ first ∷ rest
  some : 0 < n → is_zero_digit first ≡ false
  ends : 0 < n % 10 → EndsFilled digits

digit_filled : (n : ℕ) → 0 < n → n < 10 → is_zero_digit (48 + n) ≡ false
digit_filled n some small = grind (arith, nat_tests)

filled_one : (n : ℕ) → n < 10 → IsFilled n ((48 + n) ∷ [])
filled_one n small = record {
  first = 48 + n;
  rest = [];
  begins = refl;
  some = λ some. digit_filled n some small;
  ends = λ last. record { front = []; last = 48 + n; is = refl; filled = digit_filled n (omega (arith, last)) small };
}

filled_more : (n : ℕ) (digits : List ℕ) → 10 ≤ n → IsFilled (n / 10) digits → IsFilled n (digits ++ (48 + n % 10) ∷ [])
filled_more n digits large so_far = record {
  first = so_far.first;
  rest = so_far.rest ++ (48 + n % 10) ∷ [];
  begins = ap (λ (t : List ℕ). t ++ (48 + n % 10) ∷ []) so_far.begins;
  some = λ some. so_far.some (omega arith);
  ends = λ last. record { front = digits; last = 48 + n % 10; is = refl; filled = digit_filled (n % 10) last (omega arith) };
}

filled : (n : ℕ) → n < 2 ^ 64 → IsFilled n (decimal n)
filled n small = decimal_by_steps IsFilled filled_one filled_more n small

leading-filled : (digits : List ℕ) (c : ℕ) (rest : List ℕ) → digits ≡ c ∷ rest → is_zero_digit c ≡ false → without_leading digits ≡ digits
leading-filled digits c rest is other = ap without_leading is ∙ without_leading-other c rest other ∙ sym is

trailing-filled : (digits : List ℕ) → EndsFilled digits → without_trailing digits ≡ digits
trailing-filled digits ends = ap without_trailing ends.is ∙ without_trailing-front ends.front (ends.last ∷ []) ends.last [] (one_other ends.last ends.filled) ∙ sym ends.is

near-again : (e : ℤ) → nat_abs e ≤ 30 → (int_lt e (negsuc 29) || int_lt (pos 30) e) ≡ false
near-again (pos n) small = grind (arith, ints, nat_tests)
near-again (negsuc n) small = grind (arith, ints, nat_tests)

exponent-form : (text behind : List ℕ) → exponent_part text ≡ behind → are_digits 1 9 (unsigned_part behind) ≡ true → has_exponent_form text ≡ true
exponent-form text behind is digits = rw (is, digits) (or_true (not (list_any is_exponent_mark text)))
  where
    or_true : (b : Bool) → (b || true) ≡ true
    or_true true = refl
    or_true false = refl

exponent-digits : (n : ℕ) → n ≤ 30 → are_digits 1 9 (decimal n) ≡ true
exponent-digits n small =
    let least : nat_le 1 (length (decimal n)) ≡ true = grind (arith, nat_tests, decimal_nonempty n (omega arith)) in
    let most : nat_le (length (decimal n)) 9 ≡ true = grind (arith, nat_tests, length-decimal-le 9 n (omega arith) (omega arith) (omega arith)) in
    rw (least, most, (spelled n (omega arith)).each) refl

-- the digits and the exponent of a decimal's text
text-parts : (m e : ℤ) (text : List ℕ) → nat_abs m < 2 ^ 64 → nat_abs e ≤ 30 → text ≡ signed_decimal m ++ 69 ∷ signed_decimal e
    → (whole_digits text ≡ decimal (nat_abs m)) × (fraction_digits text ≡ []) × (has_minus text ≡ is_negative m) × (has_exponent_form text ≡ true) × (exponent_value text ≡ e)
text-parts m e text small near is =
    let digits = decimal (nat_abs m) in
    let each = (spelled (nat_abs m) small).each in
    let signs = signed_parts m (69 ∷ signed_decimal e) small in
    let unsigned : unsigned_part text ≡ digits ++ 69 ∷ signed_decimal e = ap unsigned_part is ∙ signs.0 in
    let unmarked = no_digit is_exponent_mark digit_is_no_mark digits each in
    let unpointed = no_digit is_point digit_is_no_point digits each in
    let before : mantissa text ≡ digits = ap (before_first is_exponent_mark) unsigned ∙ before-cut is_exponent_mark digits 69 (signed_decimal e) unmarked refl in
    let behind : exponent_part text ≡ signed_decimal e = ap (after_first is_exponent_mark) unsigned ∙ after-cut is_exponent_mark digits 69 (signed_decimal e) unmarked refl in
    let power = signed_parts e [] (omega (arith, near)) in
    let power-digits : unsigned_part (signed_decimal e) ≡ decimal (nat_abs e) = ap unsigned_part (sym (append-nil (signed_decimal e))) ∙ power.0 ∙ append-nil (decimal (nat_abs e)) in
    let power-minus : has_minus (signed_decimal e) ≡ is_negative e = ap has_minus (sym (append-nil (signed_decimal e))) ∙ power.1 in
    let value : digits_value (decimal (nat_abs e)) ≡ nat_abs e = (spelled (nat_abs e) (omega (arith, near))).value in (
      ap (before_first is_point) before ∙ before-none is_point digits unpointed,
      ap (after_first is_point) before ∙ after-none is_point digits unpointed,
      ap has_minus is ∙ signs.1,
      exponent-form text (signed_decimal e) behind (rw power-digits (exponent-digits (nat_abs e) near)),
      rw (behind, power-minus, power-digits, value) (with_sign-again e),
    )

digits_test : (digits : List ℕ) → 0 < length digits → list_all is_ascii_digit digits ≡ true → true ≡ (nat_le 1 (length (digits ++ [])) && list_all is_ascii_digit (digits ++ []))
digits_test digits some each =
    let least : nat_le 1 (length digits) ≡ true = grind (arith, nat_tests) in
    rw (append-nil digits, least, each) refl

plus_nothing : (e : ℤ) → e ≡ e +ℤ pos 0
plus_nothing e = omega (arith, ints)

less_nothing : (e : ℤ) → e ≡ e -ℤ pos 0
less_nothing e = omega (arith, ints)

significant-again : (d : Dec) → IsSignificant d → dec_of (decimal_text d) ≡ Ok d
unfolding decimal_text
significant-again d is =
    let n = nat_abs d.m in
    let digits = decimal n in
    let small : n < 2 ^ 64 = omega (arith, is.digits) in
    let some : 0 < n = omega (arith, is.ends) in
    let fill = filled n small in
    let text = decimal_text d in
    let spells : text ≡ signed_decimal d.m ++ 69 ∷ signed_decimal d.e = append_assoc (signed_decimal d.m) (codes "E") (signed_decimal d.e) in
    let p = text-parts d.m d.e text small is.exponent spells in
    let leading : digits ≡ without_leading (digits ++ []) = sym (ap without_leading (append-nil digits) ∙ leading-filled digits fill.first fill.rest fill.begins (fill.some some)) in
    let trailing : digits ≡ without_trailing digits = sym (trailing-filled digits (fill.ends is.ends)) in
    let short = length-decimal-le 17 n (omega arith) is.digits small in
    let many : nat_lt 17 (length digits) ≡ false = grind (arith, nat_tests, short) in
    let filled_digits : 0 < length digits = decimal_nonempty n small in
    let each = (spelled n small).each in
    let test : true ≡ (nat_le 1 (length (digits ++ [])) && list_all is_ascii_digit (digits ++ [])) = digits_test digits filled_digits each in
    let none : 0 ≡ length digits - length digits = omega arith in
    let same : d.e ≡ d.e +ℤ pos 0 = plus_nothing d.e in
    let lower : d.e ≡ d.e -ℤ pos 0 = less_nothing d.e in
    let whole = from_parts text digits [] digits (is_negative d.m) d.e d.e (sym p.0) (sym p.1) (sym p.2) test leading (p.3, sym p.4) lower in
    let scaled_is = from_scaled (is_negative d.m) digits digits 0 d.e d.e trailing filled_digits none same in
    let reads : scaled (is_negative d.m) digits d.e ≡ Ok d = rw (many, near-again d.e is.exponent, (spelled n small).value, with_sign-again d.m) refl in
    sym whole ∙ sym scaled_is ∙ reads

pub decimal-again : (octets : List ℕ) (d : Dec) → dec_of octets ≡ Ok d → IsDecimal d
decimal-again octets d reads = by (dec_of-significant octets d reads)
  where
    by : (zero_decimal ≡ d) ⊎ IsSignificant d → IsDecimal d
    by (inl none) = subst IsDecimal none zero_decimal_fits
    by (inr is) = record { digits = is.digits; exponent = is.exponent; read = significant-again d is }
