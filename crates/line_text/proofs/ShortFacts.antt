-- The digits of small numbers, and those of greater ones by fours.
use Rattle.std.proofs.Common.{◌≡◌, ℕ, ◌+◌, ◌/◌, ◌%◌, ◌^◌, ◌<◌, ◌≤◌, List, [], ◌∷◌, ◌++◌, length, get_or, take, refl, sym, ap, ◌∙◌, append_assoc, arith}
use Rattle.std.specs.Prelude.{map, decimal}
use Rattle.std.proofs.lemmas.Fmt.{decimal_digit, decimal_step}
use Rattle.std.proofs.lemmas.List.{get_or-map, length-map, take_all}
use Rattle.std.proofs.lemmas.List.FromFn.{map-range_with_len_more, get_or-map-range_with_len, length-map-range_with_len}
use Rattle.line_text.specs.declared.fast.short.Short.{Short}
use Rattle.line_text.specs.ShortTexts.{four_digits, digits_of, texts_of, number_texts, number_texts_below}

pub decimal-one : (n : ℕ) → n < 10 → decimal n ≡ (48 + n % 10) ∷ []
decimal-one n few = let same : n % 10 ≡ n = omega arith in rw same (decimal_digit n few)

pub decimal-two : (n : ℕ) → 10 ≤ n → n < 100 → decimal n ≡ (48 + n / 10 % 10) ∷ (48 + n % 10) ∷ []
decimal-two n some few = rw (decimal_step n some (omega arith), decimal-one (n / 10) (omega arith)) refl

pub decimal-three : (n : ℕ) → 100 ≤ n → n < 1000 → decimal n ≡ (48 + n / 100 % 10) ∷ (48 + n / 10 % 10) ∷ (48 + n % 10) ∷ []
decimal-three n some few =
    let tens : n / 10 / 10 ≡ n / 100 = omega arith in
    rw (decimal_step n (omega arith) (omega arith), decimal-two (n / 10) (omega arith) (omega arith), tens) refl

pub decimal-four : (n : ℕ) → 1000 ≤ n → n < 10000 → decimal n ≡ four_digits n
decimal-four n some few =
    let hundreds : n / 10 / 100 ≡ n / 1000 = omega arith in
    let tens : n / 10 / 10 ≡ n / 100 = omega arith in
    let first : n / 1000 % 10 ≡ n / 1000 = omega arith in
    rw (decimal_step n (omega arith) (omega arith), decimal-three (n / 10) (omega arith) (omega arith), hundreds, tens, first) refl

pub ruleset decimals = (decimal-one, decimal-two, decimal-three, decimal-four)

-- the last four digits of a greater number
pub decimal_more : (n : ℕ) → 10000 ≤ n → n < 2 ^ 64 → decimal n ≡ decimal (n / 10000) ++ four_digits (n % 10000)
decimal_more n some fits =
    let a : n / 10 / 10 / 10 / 10 ≡ n / 10000 = omega arith in
    let b : n / 10 / 10 / 10 % 10 ≡ n % 10000 / 1000 = omega arith in
    let c : n / 10 / 10 % 10 ≡ n % 10000 / 100 % 10 = omega arith in
    let d : n / 10 % 10 ≡ n % 10000 / 10 % 10 = omega arith in
    let e : n % 10 ≡ n % 10000 % 10 = omega arith in
    rw (decimal_step n (omega arith) fits, decimal_step (n / 10) (omega arith) (omega arith), decimal_step (n / 10 / 10) (omega arith) (omega arith), decimal_step (n / 10 / 10 / 10) (omega arith) (omega arith)) (simp append_assoc (rw (a, b, c, d, e) refl))

-- the last eight digits of a number of more
pub decimal_eight : (n : ℕ) → 100000000 ≤ n → n < 2 ^ 64
    → decimal n ≡ decimal (n / 100000000) ++ (four_digits (n / 10000 % 10000) ++ four_digits (n % 10000))
decimal_eight n some fits =
    let first : n / 10000 / 10000 ≡ n / 100000000 = omega arith in
    rw (decimal_more n (omega arith) fits, decimal_more (n / 10000) (omega arith) (omega arith), first) (simp append_assoc refl)

-- none
pub no_texts : number_texts_below 0 ≡ []
unfolding number_texts_below
no_texts = refl

-- one number more
pub texts_more : (n : ℕ) → number_texts_below (n + 1) ≡ number_texts_below n ++ number_texts n ∷ []
unfolding number_texts_below
texts_more n = map-range_with_len_more number_texts 0 n n (omega arith)

-- so many texts
pub texts_length : (texts : List Short) (bound : ℕ) → map texts_of texts ≡ number_texts_below bound → length texts ≡ bound
unfolding number_texts_below
texts_length texts bound told = sym (length-map texts texts_of) ∙ (ap length told ∙ length-map-range_with_len number_texts 0 bound)

text_at : (texts : List Short) (bound n : ℕ) (short : Short) → map texts_of texts ≡ number_texts_below bound → n < bound → short ≡ get_or texts n short → texts_of short ≡ number_texts n
unfolding number_texts_below
text_at texts bound n short told below is =
    let inside : n < length texts = omega (arith, texts_length texts bound told) in
    ap texts_of is ∙ (sym (get_or-map texts_of texts n short (number_texts n) inside)
    ∙ (ap (λ (xs : List (List ℕ × List ℕ)). get_or xs n (number_texts n)) told ∙ get_or-map-range_with_len number_texts 0 bound n n (number_texts n) below (omega arith)))

-- the digits and the four digits at a place
pub digits_at : (texts : List Short) (bound n : ℕ) (short : Short) → map texts_of texts ≡ number_texts_below bound → n < bound → short ≡ get_or texts n short → digits_of short ≡ decimal n
digits_at texts bound n short told below is = ap (λ (p : List ℕ × List ℕ). p.0) (text_at texts bound n short told below is)

pub four_at : (texts : List Short) (bound n : ℕ) (short : Short) → map texts_of texts ≡ number_texts_below bound → n < bound → short ≡ get_or texts n short → short.four ≡ four_digits n
four_at texts bound n short told below is = ap (λ (p : List ℕ × List ℕ). p.1) (text_at texts bound n short told below is)

pub ruleset at_a_place = (texts_length, digits_at, four_at)

-- all of them
pub texts_whole : (texts : List Short) (bound : ℕ) → map texts_of texts ≡ number_texts_below bound → take bound texts ≡ texts
texts_whole texts bound told = take_all bound texts (omega (arith, texts_length texts bound told))
