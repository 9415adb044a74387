-- Octets of a packet, and hexadecimal digits one by one.
use Rattle.std.proofs.Common.{◌≡◌, ℕ, zero, suc, ◌+◌, ◌-◌, ◌*◌, ◌/◌, ◌%◌, ◌^◌, ◌<◌, ◌≤◌, List, [], ◌∷◌, ◌++◌, take, drop, length, get_or, refl, sym, ap, subst, ◌∙◌, length-drop, arith}
use Rattle.std.specs.List.{flat_map}
use Rattle.std.proofs.lemmas.List.{take_more, get_or-drop, flat_map_more}
use Rattle.std.proofs.lemmas.List.FromFn.{map-range_with_len_more}
use Rattle.std.proofs.lemmas.Nat.{shr-shr}
use Rattle.bit_field.proofs.BitFacts.{bits-octet}
use Rattle.mib_model.specs.Bits.{bits}
use Rattle.mib_model.specs.RawTexts.{octets_at, hex_text, hex_digit}

-- an octet more
pub octets-more : (packet : List ℕ) (at k : ℕ) → octets_at packet at (k + 1) ≡ octets_at packet at k ++ bits packet (at + 8 * k) 8 ∷ []
octets-more packet at k = map-range_with_len_more (λ (i : ℕ). bits packet (at + 8 * i) 8) 0 k k (omega arith)

-- octets from an octet's first bit on
pub octets-whole : (packet : List ℕ) (i n : ℕ) → i + n ≤ length packet → ((k : ℕ) → get_or packet k 0 < 256) → take n (drop i packet) ≡ octets_at packet (8 * i) n
octets-whole packet i zero inside each = refl
octets-whole packet i (suc n) inside each =
    let next : suc n ≡ n + 1 = omega arith in
    let place : 8 * i + 8 * n ≡ 8 * (i + n) = omega arith in
    let octet : get_or (drop i packet) n 0 ≡ bits packet (8 * i + 8 * n) 8 =
    get_or-drop i packet n 0 ∙ (sym (bits-octet packet (i + n) (each (i + n))) ∙ ap (λ (j : ℕ). bits packet j 8) (sym place)) in
    let step : take (n + 1) (drop i packet) ≡ octets_at packet (8 * i) (n + 1) =
    take_more (drop i packet) n 0 (omega (arith, length-drop i packet)) ∙ (rw (octets-whole packet i n (omega arith) each, octet) (sym (octets-more packet (8 * i) n))) in
    subst (λ (m : ℕ). take m (drop i packet) ≡ octets_at packet (8 * i) m) (sym next) step

-- a number's digits, one more
pub hex-more : (n i digits : ℕ) → i < digits → hex_text (i + 1) (n / 2 ^ (4 * (digits - (i + 1)))) ≡ hex_text i (n / 2 ^ (4 * (digits - i))) ++ hex_digit (n / 2 ^ (4 * (digits - 1 - i)) % 16) ∷ []
hex-more n i digits below =
    let next : i + 1 ≡ suc i = omega arith in
    let same : digits - suc i ≡ digits - 1 - i = omega arith in
    let more : 4 * (digits - 1 - i) + 4 ≡ 4 * (digits - i) = omega arith in
    rw (next, same, shr-shr n (4 * (digits - 1 - i)) 4, more) refl

-- octets that are written, one more
pub spelled-more : (spell : ℕ → List ℕ) (before : List ℕ) (packet : List ℕ) (at k octet : ℕ) → octet ≡ bits packet (at + 8 * k) 8
    → (before ++ flat_map spell (octets_at packet at k)) ++ spell octet ≡ before ++ flat_map spell (octets_at packet at (k + 1))
spelled-more spell before packet at k octet is =
    rw (is, octets-more packet at k) (flat_map_more spell before (octets_at packet at k) (bits packet (at + 8 * k) 8))

-- the last eight digits of a number
pub hex-eight : (n : ℕ)
    → hex_digit (n / 268435456 % 16) ∷ hex_digit (n / 16777216 % 16) ∷ hex_digit (n / 1048576 % 16) ∷ hex_digit (n / 65536 % 16)
    ∷ hex_digit (n / 4096 % 16) ∷ hex_digit (n / 256 % 16) ∷ hex_digit (n / 16 % 16) ∷ hex_digit (n % 16) ∷ [] ≡ hex_text 8 n
hex-eight n =
    let second : n / 256 ≡ n / 16 / 16 = omega arith in
    let third : n / 4096 ≡ n / 16 / 16 / 16 = omega arith in
    let fourth : n / 65536 ≡ n / 16 / 16 / 16 / 16 = omega arith in
    let fifth : n / 1048576 ≡ n / 16 / 16 / 16 / 16 / 16 = omega arith in
    let sixth : n / 16777216 ≡ n / 16 / 16 / 16 / 16 / 16 / 16 = omega arith in
    let seventh : n / 268435456 ≡ n / 16 / 16 / 16 / 16 / 16 / 16 / 16 = omega arith in
    rw (second, third, fourth, fifth, sixth, seventh) refl

-- sixteen digits by eights
pub hex-sixteen : (n : ℕ) → hex_text 16 n ≡ hex_text 8 (n / 4294967296) ++ hex_text 8 n
hex-sixteen n =
    let eighth : n / 4294967296 ≡ n / 16 / 16 / 16 / 16 / 16 / 16 / 16 / 16 = omega arith in
    rw eighth refl
