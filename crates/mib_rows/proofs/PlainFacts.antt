-- Octets with no space and no tab: they are one field, and nothing of them is trimmed.
use Rattle.std.proofs.Common.{◌≡◌, ℕ, zero, suc, ◌+◌, ◌-◌, ◌*◌, ◌/◌, ◌%◌, ◌≤◌, ◌<◌, ◌^◌, Bool, true, false, ◌&&◌, List, [], ◌∷◌, ◌++◌, reverse, replicate, refl, ap, ◌∙◌, arith, eqb, not, decimal, ℤ, pos, negsuc, nat_abs}
use Rattle.std.specs.Fmt.{signed_decimal}
use Rattle.std.specs.Char.{is_ascii_digit}
use Rattle.std.specs.List.{list_all, onto_first}
use Rattle.std.proofs.lemmas.Bool.Decides.{nat_tests}
use Rattle.std.proofs.lemmas.List.{reverse-reverse, reverse-append}
use Rattle.std.proofs.lemmas.List.Folds.{list_all-append}
use Rattle.std.proofs.lemmas.List.Sums.{fold-append}
use Rattle.std.proofs.lemmas.Fmt.{decimal_by_steps}
use Rattle.mib_model.specs.Digits.{digits_value}
use Rattle.mib_model.specs.Lines.{fields, is_tab, without_front, trimmed}
use Rattle.mib_model.specs.Names.{is_visible}

pub and_left : (a b : Bool) → (a && b) ≡ true → a ≡ true
and_left true b both = refl
and_left false b both = absurd cc

pub and_right : (a b : Bool) → (a && b) ≡ true → b ≡ true
and_right true b both = both
and_right false b both = absurd cc

-- what holds of each octet by a test holds by a weaker one
pub all_weaker : (p q : ℕ → Bool) → ((c : ℕ) → p c ≡ true → q c ≡ true) → (octets : List ℕ) → list_all p octets ≡ true → list_all q octets ≡ true
all_weaker p q weaker [] each = refl
all_weaker p q weaker (c ∷ octets) each = rw (weaker c (and_left (p c) (list_all p octets) each), all_weaker p q weaker octets (and_right (p c) (list_all p octets) each)) refl

-- visible octets, as names, numbers and letters are
pub record IsPlain (octets : List ℕ) : Type 0 where
  pub each : list_all is_visible octets ≡ true

-- octets without a tab
pub record IsWhole (octets : List ℕ) : Type 0 where
  pub each : list_all (λ c. not (is_tab c)) octets ≡ true

pub whole : (octets : List ℕ) → IsPlain octets → IsWhole octets
whole octets plain = record { each = all_weaker is_visible (λ c. not (is_tab c)) (λ c visible. no_tab c visible) octets plain.each }
  where
    no_tab : (c : ℕ) → is_visible c ≡ true → not (is_tab c) ≡ true
    no_tab c visible = grind (arith, nat_tests)

not_false : (b : Bool) → not b ≡ true → b ≡ false
not_false true h = absurd cc
not_false false h = refl

-- a text, a tab and what follows
pub fields-tab : (text rest : List ℕ) → IsWhole text → fields (text ++ 9 ∷ rest) ≡ text ∷ fields rest
fields-tab [] rest free = refl
fields-tab (c ∷ text) rest free =
    let here = not_false (is_tab c) (and_left (not (is_tab c)) (list_all (λ d. not (is_tab d)) text) free.each) in
    let there = fields-tab text rest (record { each = and_right (not (is_tab c)) (list_all (λ d. not (is_tab d)) text) free.each }) in
    rw here (ap (onto_first c) there)

pub fields-last : (text : List ℕ) → IsWhole text → fields text ≡ text ∷ []
fields-last [] free = refl
fields-last (c ∷ text) free =
    let here = not_false (is_tab c) (and_left (not (is_tab c)) (list_all (λ d. not (is_tab d)) text) free.each) in
    let there = fields-last text (record { each = and_right (not (is_tab c)) (list_all (λ d. not (is_tab d)) text) free.each }) in
    rw here (ap (onto_first c) there)

pub fields-tabs : (n : ℕ) (rest : List ℕ) → fields (replicate n 9 ++ rest) ≡ replicate n [] ++ fields rest
fields-tabs zero rest = refl
fields-tabs (suc n) rest = ap (λ (parts : List (List ℕ)). [] ∷ parts) (fields-tabs n rest)

no_space : (c : ℕ) → is_visible c ≡ true → eqb c 32 ≡ false
no_space c visible = grind (arith, nat_tests)

without_front-plain : (octets : List ℕ) → list_all is_visible octets ≡ true → without_front octets ≡ octets
without_front-plain [] each = refl
without_front-plain (c ∷ octets) each = rw (no_space c (and_left (is_visible c) (list_all is_visible octets) each)) refl

pub list_all-reverse : (p : ℕ → Bool) (octets : List ℕ) → list_all p octets ≡ true → list_all p (reverse octets) ≡ true
list_all-reverse p [] each = refl
list_all-reverse p (c ∷ octets) each =
    let last : reverse (c ∷ octets) ≡ reverse octets ++ c ∷ [] = reverse-append (c ∷ []) octets in
    rw (last, list_all-append p (reverse octets) (c ∷ []), list_all-reverse p octets (and_right (p c) (list_all p octets) each), and_left (p c) (list_all p octets) each) refl

pub trimmed-plain : (octets : List ℕ) → IsPlain octets → trimmed octets ≡ octets
unfolding trimmed
trimmed-plain octets plain = rw (without_front-plain octets plain.each, without_front-plain (reverse octets) (list_all-reverse is_visible octets plain.each)) (reverse-reverse octets)

-- digits that spell a number
pub record IsSpelled (number : ℕ) (digits : List ℕ) : Type 0 where
  pub value : digits_value digits ≡ number
  pub each : list_all is_ascii_digit digits ≡ true

digit_is : (d : ℕ) → d < 10 → is_ascii_digit (48 + d) ≡ true
digit_is d small = grind (arith, nat_tests)

one_digit : (n : ℕ) → n < 10 → IsSpelled n ((48 + n) ∷ [])
one_digit n small = record { value = omega arith; each = rw (digit_is n small) refl }

more_digits : (n : ℕ) (digits : List ℕ) → 10 ≤ n → IsSpelled (n / 10) digits → IsSpelled n (digits ++ (48 + n % 10) ∷ [])
more_digits n digits large so_far = record {
  value = fold-append (λ value digit. 10 * value + (digit - 48)) 0 digits ((48 + n % 10) ∷ []) ∙ omega (arith, so_far.value);
  each = list_all-append is_ascii_digit digits ((48 + n % 10) ∷ []) ∙ rw (so_far.each, digit_is (n % 10) (omega arith)) refl;
}

pub spelled : (n : ℕ) → n < 2 ^ 64 → IsSpelled n (decimal n)
spelled n small = decimal_by_steps IsSpelled one_digit more_digits n small

digit_is_visible : (c : ℕ) → is_ascii_digit c ≡ true → is_visible c ≡ true
digit_is_visible c digit = grind (arith, nat_tests)

pub plain-decimal : (n : ℕ) → n < 2 ^ 64 → IsPlain (decimal n)
plain-decimal n small = record { each = all_weaker is_ascii_digit is_visible digit_is_visible (decimal n) (spelled n small).each }

pub plain-append : (xs ys : List ℕ) → IsPlain xs → IsPlain ys → IsPlain (xs ++ ys)
plain-append xs ys front back = record { each = list_all-append is_visible xs ys ∙ rw (front.each, back.each) refl }

pub plain-signed : (z : ℤ) → nat_abs z < 2 ^ 64 → IsPlain (signed_decimal z)
plain-signed (pos n) small = plain-decimal n small
plain-signed (negsuc n) small = plain-append (45 ∷ []) (decimal (suc n)) (record { each = refl }) (plain-decimal (suc n) small)
