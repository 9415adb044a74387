-- Bits one behind the other, and the numbers of whole octets.
use Rattle.std.proofs.Common.{◌≡◌, ℕ, zero, suc, ◌+◌, ◌-◌, ◌*◌, ◌/◌, ◌%◌, ◌^◌, ◌<◌, ◌≤◌, Bool, true, false, nat_le, if◌then◌else◌, List, get_or, drop, refl, sym, ap, subst, ◌∙◌, zero-add, add-zero, add-suc, add_assoc, arith}
use Rattle.std.proofs.Math.Numerals.{sub-one}
use Rattle.std.proofs.Math.Pow.{pow_mono}
use Rattle.std.proofs.Math.Nat.{pow-succ', mod-lt, div-eq_of_lt, div-eq_of_lt-le, div-one}
use Rattle.std.proofs.lemmas.Nat.{pow-add, shr-shr, shr_high, shl_below, mod_low, mul-add-lt}
use Rattle.std.proofs.lemmas.Bool.{leb-true, leb-false}
use Rattle.std.proofs.lemmas.List.{get_or-drop}
use Rattle.byteorder.specs.Endian.{big_from, big_number}
use Rattle.mib_model.specs.Bits.{bit, bits}

pub bit-below : (octets : List ℕ) (j : ℕ) → bit octets j < 2
bit-below octets j = mod-lt (get_or octets (j / 8) 0 / 2 ^ (7 - j % 8)) (omega arith)

pub bits-below : (octets : List ℕ) (at width : ℕ) → bits octets at width < 2 ^ width
unfolding bits
bits-below octets at zero = omega arith
bits-below octets at (suc width) = omega (arith, pow-succ' 2 width, bits-below octets at width, bit-below octets (at + width))

-- a field in two parts
pub bits-append : (octets : List ℕ) (at v w : ℕ) → bits octets at (v + w) ≡ bits octets at v * 2 ^ w + bits octets (at + v) w
unfolding bits
bits-append octets at v zero = rw add-zero (omega arith)
bits-append octets at v (suc w) =
    let again = bits-append octets at v w in
    rw (add-suc, pow-succ' 2 w, ← add_assoc at v w) (omega (arith, again))

both_halves : (n : ℕ) → 2 * (n / 2) + n % 2 ≡ n
both_halves n = omega arith

step : (k : ℕ) → suc k ≤ 8 → 8 - k ≡ 7 - k + 1
step k few = omega arith

-- the front of an octet
front_of : (octets : List ℕ) (i k : ℕ) → k ≤ 8 → get_or octets i 0 < 256 → bits octets (8 * i) k ≡ get_or octets i 0 / 2 ^ (8 - k)
unfolding bits
front_of octets i zero few octet = sym (div-eq_of_lt octet)
front_of octets i (suc k) few octet =
    let again = front_of octets i k (omega arith) octet in
    let place : (8 * i + k) / 8 ≡ i = omega arith in
    let behind : (8 * i + k) % 8 ≡ k = omega arith in
    let halves : get_or octets i 0 / 2 ^ (8 - k) ≡ get_or octets i 0 / 2 ^ (7 - k) / 2 =
    ap (λ (n : ℕ). get_or octets i 0 / 2 ^ n) (step k few) ∙ sym (shr-shr (get_or octets i 0) (7 - k) 1) in
    let next : 8 - suc k ≡ 7 - k = omega arith in
    rw (place, behind, again, halves, next) (both_halves (get_or octets i 0 / 2 ^ (7 - k)))

pub bits-octet : (octets : List ℕ) (i : ℕ) → get_or octets i 0 < 256 → bits octets (8 * i) 8 ≡ get_or octets i 0
bits-octet octets i octet = front_of octets i 8 (omega arith) octet ∙ div-one (get_or octets i 0)

pub octets_power : (n : ℕ) → 2 ^ (8 * n) ≡ 256 ^ n
octets_power zero = refl
octets_power (suc n) =
    let more : 8 * suc n ≡ 8 + 8 * n = omega arith in
    ap (λ (k : ℕ). 2 ^ k) more ∙ pow-add 2 8 (8 * n) ∙ rw (octets_power n, pow-succ' 256 n) refl

-- whole octets
pub bits-octets : (octets : List ℕ) (i n : ℕ) → ((k : ℕ) → get_or octets k 0 < 256) → bits octets (8 * i) (8 * n) ≡ big_from i n octets
unfolding bits
bits-octets octets i zero each = refl
bits-octets octets i (suc n) each =
    let more : 8 * suc n ≡ 8 + 8 * n = omega arith in
    let next : 8 * i + 8 ≡ 8 * suc i = omega arith in
    ap (bits octets (8 * i)) more ∙ bits-append octets (8 * i) 8 (8 * n) ∙
    rw (bits-octet octets i (each i), next, bits-octets octets (suc i) n each, octets_power n) refl

-- the number of first octets
pub bits-aligned : (octets : List ℕ) (n : ℕ) → ((k : ℕ) → get_or octets k 0 < 256) → big_number n octets ≡ bits octets 0 (8 * n)
bits-aligned octets n each = sym (bits-octets octets 0 n each)

-- a field behind the first bits of octets
pub bits-inside : (octets : List ℕ) (skip width rest n : ℕ) → skip + width + rest ≡ 8 * n → ((k : ℕ) → get_or octets k 0 < 256)
    → big_number n octets / 2 ^ rest % 2 ^ width ≡ bits octets skip width
bits-inside octets skip width rest n whole each =
    let front : big_number n octets ≡ bits octets 0 (skip + width) * 2 ^ rest + bits octets (0 + (skip + width)) rest =
    sym (bits-octets octets 0 n each) ∙ ap (bits octets 0) (sym whole) ∙ bits-append octets 0 (skip + width) rest in
    let low = bits-below octets (0 + (skip + width)) rest in
    let field : bits octets 0 (skip + width) ≡ bits octets 0 skip * 2 ^ width + bits octets skip width =
    bits-append octets 0 skip width ∙ rw zero-add refl in
    let high = bits-below octets skip width in
    ap (λ (x : ℕ). x / 2 ^ rest % 2 ^ width) front ∙ ap (λ (x : ℕ). x % 2 ^ width) (shr_high (bits octets 0 (skip + width)) rest (bits octets (0 + (skip + width)) rest) low ∙ field) ∙
    mod_low (bits octets 0 skip) width (bits octets skip width) high

-- a window of a number that is moved to the left and then to the right: the bits before it and behind it are gone
window : (high field low skip width rest : ℕ) → field < 2 ^ width → low < 2 ^ rest
    → ((high * 2 ^ width + field) * 2 ^ rest + low) * 2 ^ skip % 2 ^ (skip + width + rest) / 2 ^ (rest + skip) ≡ field
window high field low skip width rest inside behind =
    let whole : ((high * 2 ^ width + field) * 2 ^ rest + low) * 2 ^ skip ≡ high * 2 ^ (skip + width + rest) + (field * 2 ^ (rest + skip) + low * 2 ^ skip) =
    rw (pow-add 2 (skip + width) rest, pow-add 2 skip width, pow-add 2 rest skip) (omega arith) in
    let tail : low * 2 ^ skip < 2 ^ (rest + skip) = shl_below low rest skip behind in
    let order : skip + width + rest ≡ rest + skip + width = omega arith in
    let most : field * 2 ^ (rest + skip) + low * 2 ^ skip < 2 ^ (skip + width + rest) =
    rw (order, pow-add 2 (rest + skip) width) (mul-add-lt field (2 ^ (rest + skip)) (low * 2 ^ skip) (2 ^ width) inside tail) in
    ap (λ (n : ℕ). n % 2 ^ (skip + width + rest) / 2 ^ (rest + skip)) whole
    ∙ (ap (λ (n : ℕ). n / 2 ^ (rest + skip)) (mod_low high (skip + width + rest) (field * 2 ^ (rest + skip) + low * 2 ^ skip) most)
    ∙ shr_high field (rest + skip) (low * 2 ^ skip) tail)

-- a field in eight octets, the bits before it moved out to the left and those behind it to the right
pub bits-moved : (octets : List ℕ) (skip width : ℕ) → skip + width ≤ 64 → ((k : ℕ) → get_or octets k 0 < 256)
    → big_number 8 octets * 2 ^ skip % 2 ^ 64 / 2 ^ (64 - width) ≡ bits octets skip width
bits-moved octets skip width end each =
    let rest : ℕ = 64 - (skip + width) in
    let whole : skip + width + (64 - (skip + width)) ≡ 64 = omega arith in
    let moved : 64 - width ≡ 64 - (skip + width) + skip = omega arith in
    let low : bits octets (0 + (skip + width)) rest < 2 ^ rest = bits-below octets (0 + (skip + width)) rest in
    let field : bits octets 0 (skip + width) ≡ bits octets 0 skip * 2 ^ width + bits octets skip width =
    bits-append octets 0 skip width ∙ rw zero-add refl in
    let front : big_number 8 octets ≡ (bits octets 0 skip * 2 ^ width + bits octets skip width) * 2 ^ rest + bits octets (0 + (skip + width)) rest =
    sym (bits-octets octets 0 8 each) ∙ (ap (bits octets 0) (sym whole) ∙ (bits-append octets 0 (skip + width) rest ∙ ap (λ (n : ℕ). n * 2 ^ rest + bits octets (0 + (skip + width)) rest) field)) in
    ap (λ (n : ℕ). n * 2 ^ skip % 2 ^ 64 / 2 ^ (64 - width)) front
    ∙ (ap (λ (n : ℕ). ((bits octets 0 skip * 2 ^ width + bits octets skip width) * 2 ^ rest + bits octets (0 + (skip + width)) rest) * 2 ^ skip % 2 ^ 64 / 2 ^ n) moved
    ∙ (ap (λ (n : ℕ). ((bits octets 0 skip * 2 ^ width + bits octets skip width) * 2 ^ rest + bits octets (0 + (skip + width)) rest) * 2 ^ skip % 2 ^ n / 2 ^ (rest + skip)) (sym whole)
    ∙ window (bits octets 0 skip) (bits octets skip width) (bits octets (0 + (skip + width)) rest) skip width rest (bits-below octets skip width) low))

-- a field behind dropped octets
pub bits-drop : (octets : List ℕ) (i skip width : ℕ) → bits (drop i octets) skip width ≡ bits octets (8 * i + skip) width
unfolding bits
bits-drop octets i skip zero = refl
bits-drop octets i skip (suc width) =
    let place : (8 * i + skip + width) / 8 ≡ i + (skip + width) / 8 = omega arith in
    let behind : (8 * i + skip + width) % 8 ≡ (skip + width) % 8 = omega arith in
    rw (place, behind, bits-drop octets i skip width, get_or-drop i octets ((skip + width) / 8) 0) refl

-- a field by an octet before it or in it
pub bits-from : (octets : List ℕ) (i skip at width : ℕ) → 8 * i + skip ≡ at → bits (drop i octets) skip width ≡ bits octets at width
bits-from octets i skip at width same = bits-drop octets i skip width ∙ ap (λ (j : ℕ). bits octets j width) same

-- a field by the octet that it begins in
pub bits-place : (octets : List ℕ) (at width : ℕ) → bits (drop (at / 8) octets) (at % 8) width ≡ bits octets at width
bits-place octets at width =
    let same : 8 * (at / 8) + at % 8 ≡ at = omega arith in
    bits-drop octets (at / 8) (at % 8) width ∙ ap (λ (j : ℕ). bits octets j width) same

pub bits-none : (octets : List ℕ) (at width : ℕ) → width ≡ 0 → 0 ≡ bits octets at width
unfolding bits
bits-none octets at width none = rw none refl

-- half the range of a width
pub half-below : (width : ℕ) → 0 < width → width ≤ 64 → 2 ^ (width - 1) ≤ 2 ^ 63
half-below width some few = pow_mono {i = width - 1} {j = 63} (omega arith)

pub half-twice : (width : ℕ) → 0 < width → 2 * 2 ^ (width - 1) ≡ 2 ^ width
half-twice zero some = absurd (omega arith)
half-twice (suc k) some = rw (sub-one, pow-succ' 2 k) refl

-- the first bit of a number at its weight, where it is one or isn't
top-of : (number half : ℕ) → half ≤ 2 ^ 63 → number < 2 * half → (big : Bool) → nat_le half number ≡ big → number / half * half % 2 ^ 64 ≡ (if big then half else 0)
top-of number half few within true is =
    let enough : half ≤ number = leb-true half number is in
    let one : number / half ≡ 1 = div-eq_of_lt-le half (omega (arith, enough)) (omega (arith, within)) in
    rw one (omega (arith, few))
top-of number half few within false is =
    let below : number < half = leb-false half number is in
    let none : number / half ≡ 0 = div-eq_of_lt below in
    rw none (omega arith)

-- the first bit of a number of a width, at its weight
pub first-bit : (number width : ℕ) → 0 < width → width ≤ 64 → number < 2 ^ width → number / 2 ^ (width - 1) * 2 ^ (width - 1) % 2 ^ 64 ≡ (if nat_le (2 ^ (width - 1)) number then 2 ^ (width - 1) else 0)
first-bit number width some few within =
    top-of number (2 ^ (width - 1)) (half-below width some few) (subst (λ (n : ℕ). number < n) (sym (half-twice width some)) within) (nat_le (2 ^ (width - 1)) number) refl

pub ruleset halves = (half-below, half-twice)
