-- Octets by their bits.
use Rattle.std.proofs.Common.{◌≡◌, ◌∙◌, ℕ, zero, suc, ◌+◌, ◌-◌, ◌*◌, ◌/◌, ◌%◌, ◌^◌, ◌<◌, Bool, true, false, cond, List, length, get_or, bit_and, min, refl, sym, ap, subst, arith}
use Rattle.std.specs.List.{find, range_with_len}
use Rattle.std.proofs.Math.Nat.{pow-succ', div-one, div-div-eq-div-mul}
use Rattle.std.proofs.lemmas.List.{get_or_past}
use Rattle.std.proofs.lemmas.Bool.{eqb-true, ltb-true, ltb-false}
use Rattle.std.specs.Prelude.{◌==◌, ◌&&◌, nat_lt}
use Rattle.std.proofs.lemmas.List.FromFn.{fill_by_all, get_or-map-range_with_len}
use Rattle.std.proofs.lemmas.Nat.Bits.{bit_at-zero, bit_at_and, same_from_bits_below}
use Rattle.mib_model.specs.Bits.{bit}
use Rattle.bit_writer.specs.declared.write.Write.{Write}
use Rattle.bit_writer.specs.Writes.{bit_left, first_clash, is_set, number_of, octet_left, octets_left}
use Rattle.bit_writer.proofs.FindFacts.{same-find}

pub left-below : (writes : List Write) (j : ℕ) → bit_left writes j < 2
left-below writes j = go (is_set 1 writes j) where
  go : (b : Bool) → cond b 1 0 < 2
  go true = omega arith
  go false = omega arith

module _ (b : ℕ → ℕ) (small : (i : ℕ) → b i < 2) where
  number-below : (n : ℕ) → number_of b n < 2 ^ n
  unfolding number_of
  number-below zero = omega arith
  number-below (suc n) = let again = number-below n in let last = small n in omega (arith, again, last, pow-succ' 2 n)

  -- without its last bit, and the last bit
  halved : (n : ℕ) → number_of b (suc n) / 2 ≡ number_of b n
  unfolding number_of
  halved n = let last = small n in omega (arith, last)

  last-bit : (n : ℕ) → number_of b (suc n) % 2 ≡ b n
  unfolding number_of
  last-bit n = let last = small n in omega (arith, last)

  -- the bit i of a number, before n others
  pub bit-of-number : (i n : ℕ) → number_of b (i + suc n) / 2 ^ n % 2 ≡ b i
  bit-of-number i zero =
      let one : i + 1 ≡ suc i = omega arith in ap (λ (k : ℕ). number_of b k / 2 ^ 0 % 2) one ∙ (ap (λ (k : ℕ). k % 2) (div-one (number_of b (suc i))) ∙ last-bit i)
  bit-of-number i (suc n) =
      let more : i + suc (suc n) ≡ suc (i + suc n) = omega arith in
      ap (λ (k : ℕ). number_of b k / 2 ^ suc n % 2) more
      ∙ (ap (λ (k : ℕ). number_of b (suc (i + suc n)) / k % 2) (pow-succ' 2 n)
      ∙ (ap (λ (k : ℕ). k % 2) (sym (div-div-eq-div-mul (number_of b (suc (i + suc n))) 2 (2 ^ n)))
      ∙ (ap (λ (k : ℕ). k / 2 ^ n % 2) (halved (i + suc n)) ∙ bit-of-number i n)))

module _ (writes : List Write) where
  -- a bit of an octet that writes leave
  octet-bit : (k i : ℕ) → i < 8 → octet_left writes k / 2 ^ (7 - i) % 2 ≡ bit_left writes (8 * k + i)
  octet-bit k i few =
      let eight : i + suc (7 - i) ≡ 8 = omega (arith, few) in
      subst (λ (n : ℕ). number_of (λ i. bit_left writes (8 * k + i)) n / 2 ^ (7 - i) % 2 ≡ bit_left writes (8 * k + i)) eight
      (bit-of-number (λ i. bit_left writes (8 * k + i)) (λ i. left-below writes (8 * k + i)) i (7 - i))

  pub octet-below : (k : ℕ) → octet_left writes k < 256
  octet-below k = number-below (λ i. bit_left writes (8 * k + i)) (λ i. left-below writes (8 * k + i)) 8

  -- octets with the bits that writes leave are those that writes leave
  pub octets-are : (octets : List ℕ) → ((k : ℕ) → get_or octets k 0 < 256) → ((j : ℕ) → bit octets j ≡ bit_left writes j) → octets ≡ octets_left writes (length octets)
  unfolding octets_left
  octets-are octets small bits = fill_by_all (octet_left writes) octets (length octets) 0 refl (λ k inside. same k) where
    turned : (k i : ℕ) → i < 8 → get_or octets k 0 / 2 ^ i % 2 ≡ octet_left writes k / 2 ^ i % 2
    turned k i few =
        let place : (8 * k + (7 - i)) / 8 ≡ k = omega (arith, few) in
        let behind : 7 - (8 * k + (7 - i)) % 8 ≡ i = omega (arith, few) in
        let back : 7 - (7 - i) ≡ i = omega (arith, few) in
        ap (λ (n : ℕ). get_or octets n 0 / 2 ^ i % 2) (sym place)
        ∙ (ap (λ (n : ℕ). get_or octets ((8 * k + (7 - i)) / 8) 0 / 2 ^ n % 2) (sym behind)
        ∙ (bits (8 * k + (7 - i))
        ∙ (sym (octet-bit k (7 - i) (omega arith)) ∙ ap (λ (n : ℕ). octet_left writes k / 2 ^ n % 2) back)))

    same : (k : ℕ) → get_or octets k 0 ≡ octet_left writes k
    same k = same_from_bits_below 8 (get_or octets k 0) (octet_left writes k) (small k) (octet-below k) (λ i few. turned k i few)

  -- and those have these bits
  pub bit-of-left : (n j : ℕ) → j < 8 * n → bit (octets_left writes n) j ≡ bit_left writes j
  unfolding octets_left
  bit-of-left n j inside =
      let place : 8 * (j / 8) + j % 8 ≡ j = omega arith in
      ap (λ (o : ℕ). o / 2 ^ (7 - j % 8) % 2) (get_or-map-range_with_len (octet_left writes) 0 n (j / 8) (j / 8) 0 (omega (arith, inside)) (omega arith))
      ∙ (octet-bit (j / 8) (j % 8) (omega arith) ∙ ap (bit_left writes) place)

-- zeros have no bit that is 1
pub zero-bit : (octets : List ℕ) → ((k : ℕ) → k < length octets → get_or octets k 0 ≡ 0) → (j : ℕ) → bit octets j ≡ 0
zero-bit octets zeros j = ap (λ (o : ℕ). o / 2 ^ (7 - j % 8) % 2) (go (nat_lt (j / 8) (length octets)) refl) ∙ bit_at-zero (7 - j % 8) where
  go : (b : Bool) → nat_lt (j / 8) (length octets) ≡ b → get_or octets (j / 8) 0 ≡ 0
  go true h = zeros (j / 8) (ltb-true (j / 8) (length octets) h)
  go false h = get_or_past octets (j / 8) 0 (ltb-false (j / 8) (length octets) h)

-- octets that have no bit in common
pub no-common : (first second : List ℕ) (k : ℕ) → bit_and (get_or first k 0) (get_or second k 0) ≡ 0 → (j : ℕ) → j / 8 ≡ k → ((bit first j == 1) && (bit second j == 1)) ≡ false
no-common first second k none j here = go (bit first j == 1) (bit second j == 1) refl refl where
  least : min (bit first j) (bit second j) ≡ 0
  least =
      sym (bit_at_and (get_or first (j / 8) 0) (get_or second (j / 8) 0) (7 - j % 8))
      ∙ (ap (λ (n : ℕ). bit_and (get_or first n 0) (get_or second n 0) / 2 ^ (7 - j % 8) % 2) here
      ∙ (ap (λ (o : ℕ). o / 2 ^ (7 - j % 8) % 2) none ∙ bit_at-zero (7 - j % 8)))

  go : (a b : Bool) → (bit first j == 1) ≡ a → (bit second j == 1) ≡ b → (a && b) ≡ false
  go false b h h' = refl
  go true false h h' = refl
  go true true h h' = let one = eqb-true (bit first j) 1 h in let other = eqb-true (bit second j) 1 h' in absurd (omega (arith, least, one, other))

-- the least bit that is 1 both in octets of the bits that are set to 1 and in octets of those that are set to 0
pub clash-is : (writes : List Write) (octets cleared : List ℕ) (n : ℕ) → ((j : ℕ) → bit octets j ≡ bit_left writes j) → ((j : ℕ) → bit cleared j ≡ cond (is_set 0 writes j) 1 0)
    → find (λ j. (bit octets j == 1) && (bit cleared j == 1)) (range_with_len 0 (8 * n)) ≡ first_clash writes n
unfolding first_clash
clash-is writes octets cleared n left zeros = same-find (λ j. (bit octets j == 1) && (bit cleared j == 1)) (λ j. is_set 1 writes j && is_set 0 writes j) (range_with_len 0 (8 * n)) both where
  one : (b : Bool) → (cond b 1 0 == 1) ≡ b
  one true = refl
  one false = refl

  both : (j : ℕ) → ((bit octets j == 1) && (bit cleared j == 1)) ≡ (is_set 1 writes j && is_set 0 writes j)
  both j =
      ap (λ (x : ℕ). (x == 1) && (bit cleared j == 1)) (left j)
      ∙ (ap (λ (x : ℕ). (bit_left writes j == 1) && (x == 1)) (zeros j)
      ∙ (ap (λ (b : Bool). b && (cond (is_set 0 writes j) 1 0 == 1)) (one (is_set 1 writes j)) ∙ ap (λ (b : Bool). is_set 1 writes j && b) (one (is_set 0 writes j))))
