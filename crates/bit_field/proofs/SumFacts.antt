-- Bits as a sum of weights.
use Rattle.std.proofs.Common.{◌≡◌, ℕ, zero, suc, ◌+◌, ◌-◌, ◌*◌, ◌^◌, List, map, sum, refl, sym, ap, ◌∙◌, arith}
use Rattle.std.specs.List.{range_with_len}
use Rattle.std.proofs.lemmas.List.Sums.{sum_by-cons}
use Rattle.mib_model.specs.Bits.{bit, bits}
use Rattle.bit_field.proofs.BitFacts.{bits-append}

-- numbers from one place on, made of those from the place before
map-shifted : (f g : ℕ → ℕ) → ((i : ℕ) → f (i + 1) ≡ g i) → (a n : ℕ) → map f (range_with_len (a + 1) n) ≡ map g (range_with_len a n)
map-shifted f g same a zero = refl
map-shifted f g same a (suc n) = rw (same a, map-shifted f g same (a + 1) n) refl

abbrev weighted : List ℕ → ℕ → ℕ → ℕ → ℕ
weighted octets at width i = bit octets (at + i) * 2 ^ (width - 1 - i)

weighted-next : (octets : List ℕ) (at width i : ℕ) → weighted octets at (suc width) (i + 1) ≡ weighted octets (at + 1) width i
weighted-next octets at width i =
    let place : at + (i + 1) ≡ at + 1 + i = omega arith in
    let weight : suc width - 1 - (i + 1) ≡ width - 1 - i = omega arith in
    rw (place, weight) refl

first_of : (octets : List ℕ) (at width : ℕ) → bits octets at 1 * 2 ^ width ≡ weighted octets at (suc width) 0
unfolding bits
first_of octets at width =
    let weight : suc width - 1 - 0 ≡ width = omega arith in
    rw weight (omega arith)

pub bits-sum : (octets : List ℕ) (at width : ℕ) → bits octets at width ≡ sum (map (weighted octets at width) (range_with_len 0 width))
unfolding bits
bits-sum octets at zero = refl
bits-sum octets at (suc width) =
    let one_more : suc width ≡ 1 + width = omega arith in
    ap (bits octets at) one_more ∙ bits-append octets at 1 width ∙
    rw (first_of octets at width, bits-sum octets (at + 1) width, ← map-shifted (weighted octets at (suc width)) (weighted octets (at + 1) width) (weighted-next octets at width) 0 width)
    (sym (sum_by-cons (λ (x : ℕ). x) (weighted octets at (suc width) 0) (map (weighted octets at (suc width)) (range_with_len (0 + 1) width))))
