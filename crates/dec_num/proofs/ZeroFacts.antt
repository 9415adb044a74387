-- Zeros at the front and at the end of digits.
use Rattle.std.proofs.Common.{◌≡◌, ℕ, suc, cond, length-take, ◌+◌, ◌-◌, ◌≤◌, true, false, List, [], ◌∷◌, ◌++◌, length, take, reverse, refl, sym, ap, ◌∙◌, inl, inr, arith, eqb, eq-eqb, length-append}
use Rattle.std.specs.List.{prefix_len, suffix_len}
use Rattle.std.proofs.lemmas.Bool.{cases_Bool, ne_eqb}
use Rattle.std.proofs.lemmas.Bool.Decides.{nat_tests}
use Rattle.std.proofs.lemmas.List.{append-nil, reverse-append, length-reverse, take-append-le}
use Rattle.std.proofs.Math.Seq.{take-append-add}
use Rattle.std.proofs.lemmas.List.Folds.{prefix_len-append}
use Rattle.std.proofs.lemmas.List.Sums.{suffix_len-le-length}
use Rattle.mib_model.specs.Decimals.{is_zero_digit, without_leading, without_trailing}

pub without_leading-zero : (c : ℕ) (rest : List ℕ) → is_zero_digit c ≡ true → without_leading (c ∷ rest) ≡ without_leading rest
without_leading-zero c rest zero =
    let next : 1 + prefix_len is_zero_digit rest ≡ suc (prefix_len is_zero_digit rest) = omega arith in
    rw zero (rw next refl)

pub without_leading-other : (c : ℕ) (rest : List ℕ) → is_zero_digit c ≡ false → without_leading (c ∷ rest) ≡ c ∷ rest
without_leading-other c rest other = rw other refl

-- zeros alone at the front leave what is left of the second part
pub without_leading-behind : (whole fraction : List ℕ) → without_leading whole ≡ [] → without_leading (whole ++ fraction) ≡ without_leading fraction
without_leading-behind [] fraction zeros = refl
without_leading-behind (c ∷ whole) fraction zeros = elim (cases_Bool (is_zero_digit c)) [
  | inl zero ↦ without_leading-zero c (whole ++ fraction) zero ∙ without_leading-behind whole fraction (sym (without_leading-zero c whole zero) ∙ zeros)
  | inr other ↦ cc (without_leading-other c whole other)
]

pub without_leading-front : (whole fraction : List ℕ) (d : ℕ) (ds : List ℕ) → without_leading whole ≡ d ∷ ds → without_leading (whole ++ fraction) ≡ (d ∷ ds) ++ fraction
without_leading-front [] fraction d ds some = cc
without_leading-front (c ∷ whole) fraction d ds some = elim (cases_Bool (is_zero_digit c)) [
  | inl zero ↦ without_leading-zero c (whole ++ fraction) zero ∙ without_leading-front whole fraction d ds (sym (without_leading-zero c whole zero) ∙ some)
  | inr other ↦ without_leading-other c (whole ++ fraction) other ∙ ap (λ (xs : List ℕ). xs ++ fraction) (sym (without_leading-other c whole other) ∙ some)
]

zeros-behind : (whole fraction : List ℕ) → suffix_len is_zero_digit (whole ++ fraction) ≡ cond (eqb (suffix_len is_zero_digit fraction) (length fraction)) (length fraction + suffix_len is_zero_digit whole) (suffix_len is_zero_digit fraction)
zeros-behind whole fraction = rw (reverse-append whole fraction, prefix_len-append is_zero_digit (reverse fraction) (reverse whole), length-reverse fraction) refl

all_zeros : (digits : List ℕ) → without_trailing digits ≡ [] → suffix_len is_zero_digit digits ≡ length digits
all_zeros digits none = omega (arith, ap length none, length-take (length digits - suffix_len is_zero_digit digits) digits, suffix_len-le-length is_zero_digit digits)

not_all_zeros : (digits : List ℕ) (d : ℕ) (ds : List ℕ) → without_trailing digits ≡ d ∷ ds → eqb (suffix_len is_zero_digit digits) (length digits) ≡ false
not_all_zeros digits d ds some = ne_eqb (suffix_len is_zero_digit digits) (length digits) (λ same. absurd (omega (arith, ap length some, length-take (length digits - suffix_len is_zero_digit digits) digits, same)))

-- zeros alone at the end leave what is left of the first part
pub without_trailing-behind : (whole fraction : List ℕ) → without_trailing fraction ≡ [] → without_trailing (whole ++ fraction) ≡ without_trailing whole
without_trailing-behind whole fraction none =
    let all = all_zeros fraction none in
    let zeros : suffix_len is_zero_digit (whole ++ fraction) ≡ length fraction + suffix_len is_zero_digit whole = zeros-behind whole fraction ∙ rw (eq-eqb (suffix_len is_zero_digit fraction) (length fraction) all) refl in
    let left : length (whole ++ fraction) - suffix_len is_zero_digit (whole ++ fraction) ≡ length whole - suffix_len is_zero_digit whole = omega (arith, zeros, length-append whole fraction) in
    let short : length whole - suffix_len is_zero_digit whole ≤ length whole = omega arith in
    ap (λ (n : ℕ). take n (whole ++ fraction)) left ∙ take-append-le (length whole - suffix_len is_zero_digit whole) whole fraction short

pub without_trailing-front : (whole fraction : List ℕ) (d : ℕ) (ds : List ℕ) → without_trailing fraction ≡ d ∷ ds → without_trailing (whole ++ fraction) ≡ whole ++ d ∷ ds
without_trailing-front whole fraction d ds some =
    let zeros : suffix_len is_zero_digit (whole ++ fraction) ≡ suffix_len is_zero_digit fraction = zeros-behind whole fraction ∙ rw (not_all_zeros fraction d ds some) refl in
    let left : length (whole ++ fraction) - suffix_len is_zero_digit (whole ++ fraction) ≡ length whole + (length fraction - suffix_len is_zero_digit fraction) = omega (arith, zeros, length-append whole fraction, suffix_len-le-length is_zero_digit fraction) in
    ap (λ (n : ℕ). take n (whole ++ fraction)) left ∙ take-append-add whole fraction (length fraction - suffix_len is_zero_digit fraction) ∙ ap (λ (xs : List ℕ). whole ++ xs) some

not_zero : (n : ℕ) → true ≡ eqb (suc n) 0 → ⊥
not_zero n empty = grind (arith, nat_tests)

-- what is left of two parts, by whether nothing is left of the one that is stripped first
pub leading-empty : (whole fraction rest tail : List ℕ) → true ≡ eqb (length rest) 0 → rest ≡ without_leading whole → tail ≡ without_leading fraction
    → rest ++ tail ≡ without_leading (whole ++ fraction)
leading-empty whole fraction [] tail empty stripped left = left ∙ sym (without_leading-behind whole fraction (sym stripped))
leading-empty whole fraction (d ∷ ds) tail empty stripped left = absurd (not_zero (length ds) empty)

pub leading-some : (whole fraction rest : List ℕ) → false ≡ eqb (length rest) 0 → rest ≡ without_leading whole → rest ++ fraction ≡ without_leading (whole ++ fraction)
leading-some whole fraction [] some stripped = absurd cc
leading-some whole fraction (d ∷ ds) some stripped = sym (without_leading-front whole fraction d ds (sym stripped))

pub trailing-empty : (whole fraction rest front : List ℕ) → true ≡ eqb (length rest) 0 → rest ≡ without_trailing fraction → front ≡ without_trailing whole
    → front ++ rest ≡ without_trailing (whole ++ fraction)
trailing-empty whole fraction [] front empty stripped left = append-nil front ∙ left ∙ sym (without_trailing-behind whole fraction (sym stripped))
trailing-empty whole fraction (d ∷ ds) front empty stripped left = absurd (not_zero (length ds) empty)

pub trailing-some : (whole fraction rest : List ℕ) → false ≡ eqb (length rest) 0 → rest ≡ without_trailing fraction → whole ++ rest ≡ without_trailing (whole ++ fraction)
trailing-some whole fraction [] some stripped = absurd cc
trailing-some whole fraction (d ∷ ds) some stripped = sym (without_trailing-front whole fraction d ds (sym stripped))
