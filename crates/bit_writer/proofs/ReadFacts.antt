-- What is written is read.
use Rattle.std.proofs.Common.{◌≡◌, ◌∙◌, ℕ, zero, suc, ◌+◌, ◌-◌, ◌*◌, ◌/◌, ◌%◌, ◌^◌, ◌<◌, ◌≤◌, Bool, true, false, cond, nat_lt, List, None, refl, sym, ap, arith}
use Rattle.std.specs.Prelude.{◌==◌, ◌&&◌}
use Rattle.std.specs.List.{Contains, list_any}
use Rattle.std.proofs.Math.Nat.{div-one, mod-eq_of_lt, mod-one, mul_comm, pow-succ'}
use Rattle.std.proofs.lemmas.Bool.{eq-eqb, le-leb, lt-ltb}
use Rattle.std.proofs.lemmas.List.Folds.{list_any_at}
use Rattle.std.proofs.lemmas.Nat.{mod-pow-add, pow-add, shr-shr}
use Rattle.mib_model.specs.declared.shape.Order.{Order}
use Rattle.mib_model.specs.declared.shape.Order.TheVariants.{Big, Little}
use Rattle.mib_model.specs.Bits.{bit, bits, field_number, little_bits}
use Rattle.bit_writer.specs.declared.write.Write.{Write}
use Rattle.bit_writer.specs.Laws.{WrittenIsRead}
use Rattle.bit_writer.specs.Writes.{bit_behind, bit_left, bit_there, covers, first_clash, is_set, octets_left, sets}
use Rattle.bit_writer.proofs.FindFacts.{find-none}
use Rattle.bit_writer.proofs.OctetFacts.{bit-of-left}

-- ---- a bit of a write that doesn't clash

list_any-holds : (p : Write → Bool) (ws : List Write) (w : Write) → Contains ws w → p w ≡ true → list_any p ws ≡ true
list_any-holds p ws w (k, inside, is) passes = list_any_at p ws k w inside (ap p is ∙ passes)

module _ (writes : List Write) (n : ℕ) (w : Write) (none : first_clash writes n ≡ None) (among : Contains writes w) (inside : w.at + w.width ≤ 8 * n) where
  covered : (i : ℕ) → i < w.width → covers (w.at + i) w ≡ true
  covered i few =
      ap (λ (b : Bool). b && nat_lt (w.at + i) (w.at + w.width)) (le-leb w.at (w.at + i) (omega arith)) ∙ lt-ltb (w.at + i) (w.at + w.width) (omega (arith, few))

  -- a bit that a write sets is set to that
  is-set-to : (b i : ℕ) → i < w.width → bit_behind w i ≡ b → is_set b writes (w.at + i) ≡ true
  is-set-to b i few is =
      let behind : w.at + i - w.at ≡ i = omega arith in
      list_any-holds (sets b (w.at + i)) writes w among
      (ap (λ (c : Bool). c && (bit_behind w (w.at + i - w.at) == b)) (covered i few) ∙ eq-eqb (bit_behind w (w.at + i - w.at)) b (ap (bit_behind w) behind ∙ is))

  not-both : (j : ℕ) → j < 8 * n → is_set 0 writes j ≡ true → is_set 1 writes j ≡ false
  unfolding first_clash
  not-both j low zero-set = go (is_set 1 writes j) refl where
    go : (b : Bool) → is_set 1 writes j ≡ b → b ≡ false
    go false h = refl
    go true h =
        let apart = find-none (λ k. is_set 1 writes k && is_set 0 writes k) 0 (8 * n) none j (omega arith) (omega (arith, low)) in
        sym (sym apart ∙ (ap (λ (c : Bool). c && is_set 0 writes j) h ∙ zero-set))

  left-as-set : (i : ℕ) → i < w.width → bit_left writes (w.at + i) ≡ bit_behind w i
  left-as-set i few = go (bit_behind w i) refl where
    go : (b : ℕ) → bit_behind w i ≡ b → bit_left writes (w.at + i) ≡ b
    go zero h = ap (λ (c : Bool). cond c 1 0) (not-both (w.at + i) (omega (arith, few, inside)) (is-set-to 0 i few h))
    go (suc zero) h = ap (λ (c : Bool). cond c 1 0) (is-set-to 1 i few h)
    go (suc (suc b)) h = absurd (omega (arith, h))

  pub read-bit : (i : ℕ) → i < w.width → bit (octets_left writes n) (w.at + i) ≡ bit_behind w i
  read-bit i few = bit-of-left writes n (w.at + i) (omega (arith, few, inside)) ∙ left-as-set i few

-- ---- bits that are a number's

-- the first of the bits of a number
first-bits : (octets : List ℕ) (at number width : ℕ) → ((i : ℕ) → i < width → bit octets (at + i) ≡ number / 2 ^ (width - suc i) % 2)
    → (k : ℕ) → k ≤ width → bits octets at k ≡ number / 2 ^ (width - k) % 2 ^ k
unfolding bits
first-bits octets at number width are zero few = sym (mod-one (number / 2 ^ (width - 0)))
first-bits octets at number width are (suc k) few =
    let again = first-bits octets at number width are k (omega (arith, few)) in
    let last = are k (omega (arith, few)) in
    let rest : width - suc k + 1 ≡ width - k = omega (arith, few) in
    let one : k + 1 ≡ suc k = omega arith in
    let front : number / 2 ^ (width - suc k) / 2 ^ 1 ≡ number / 2 ^ (width - k) = shr-shr number (width - suc k) 1 ∙ ap (λ (r : ℕ). number / 2 ^ r) rest in
    let split = mod-pow-add (number / 2 ^ (width - suc k)) k 1 in
    let whole : number / 2 ^ (width - suc k) % 2 ^ suc k ≡ number / 2 ^ (width - k) % 2 ^ k * 2 + number / 2 ^ (width - suc k) % 2 =
    ap (λ (r : ℕ). number / 2 ^ (width - suc k) % 2 ^ r) (sym one) ∙ (split ∙ ap (λ (x : ℕ). x % 2 ^ k * 2 + number / 2 ^ (width - suc k) % 2) front) in
    omega (arith, again, last, whole)

-- a number of so many bits
all-bits : (octets : List ℕ) (at number width : ℕ) → ((i : ℕ) → i < width → bit octets (at + i) ≡ number / 2 ^ (width - suc i) % 2) → bits octets at width ≡ number % 2 ^ width
all-bits octets at number width are =
    let none : width - width ≡ 0 = omega arith in
    first-bits octets at number width are width (omega arith) ∙ ap (λ (x : ℕ). x % 2 ^ width) (ap (λ (r : ℕ). number / 2 ^ r) none ∙ div-one number)

octets-power : (n : ℕ) → 2 ^ (8 * n) ≡ 256 ^ n
octets-power zero = refl
octets-power (suc n) =
    let more : 8 * suc n ≡ 8 * n + 8 = omega arith in
    ap (λ (k : ℕ). 2 ^ k) more ∙ (pow-add 2 (8 * n) 8 ∙ (mul_comm (2 ^ (8 * n)) 256 ∙ (ap (λ (x : ℕ). 256 * x) (octets-power n) ∙ sym (pow-succ' 256 n))))

-- a number of so many octets, the least significant first
all-octets : (octets : List ℕ) (at number n : ℕ) → ((i : ℕ) → i < 8 * n → bit octets (at + i) ≡ number / 2 ^ (8 * (i / 8) + (7 - i % 8)) % 2)
    → (k : ℕ) → k ≤ n → little_bits octets at k ≡ number % 2 ^ (8 * k)
unfolding little_bits
all-octets octets at number n are zero few = sym (mod-one number)
all-octets octets at number n are (suc k) few =
    let again = all-octets octets at number n are k (omega (arith, few)) in
    let octet : bits octets (at + 8 * k) 8 ≡ number / 2 ^ (8 * k) % 2 ^ 8 = all-bits octets (at + 8 * k) (number / 2 ^ (8 * k)) 8 (λ i low. one i low) in
    let more : 8 + 8 * k ≡ 8 * suc k = omega arith in
    let split = mod-pow-add number 8 (8 * k) in
    let power = octets-power k in
    ap (λ (x : ℕ). x + bits octets (at + 8 * k) 8 * 256 ^ k) again
    ∙ (ap (λ (x : ℕ). number % 2 ^ (8 * k) + x * 256 ^ k) octet
    ∙ (ap (λ (x : ℕ). number % 2 ^ (8 * k) + number / 2 ^ (8 * k) % 2 ^ 8 * x) (sym power)
    ∙ (turned (number % 2 ^ (8 * k)) (number / 2 ^ (8 * k) % 2 ^ 8 * 2 ^ (8 * k))
    ∙ (sym split ∙ ap (λ (r : ℕ). number % 2 ^ r) more)))) where
      turned : (x y : ℕ) → x + y ≡ y + x
      turned x y = omega arith

      one : (i : ℕ) → i < 8 → bit octets (at + 8 * k + i) ≡ number / 2 ^ (8 * k) / 2 ^ (8 - suc i) % 2
      one i low =
          let place : at + 8 * k + i ≡ at + (8 * k + i) = omega arith in
          let weight : 8 * ((8 * k + i) / 8) + (7 - (8 * k + i) % 8) ≡ 8 * k + (8 - suc i) = omega (arith, low) in
          ap (bit octets) place
          ∙ (are (8 * k + i) (omega (arith, low, few))
          ∙ (ap (λ (r : ℕ). number / 2 ^ r % 2) weight ∙ ap (λ (x : ℕ). x % 2) (sym (shr-shr number (8 * k) (8 - suc i)))))

-- ---- a field

field-is : (order : Order) (octets : List ℕ) (at width number : ℕ) → ((i : ℕ) → i < width → bit octets (at + i) ≡ number / 2 ^ bit_there order width i % 2) → (order ≡ Little → width ≡ 8 * (width / 8))
    → field_number order octets at width ≡ number % 2 ^ width
field-is Big octets at width number are whole = all-bits octets at number width are
field-is Little octets at width number are whole =
    let eight = whole refl in
    all-octets octets at number (width / 8) (λ i low. are i (omega (arith, low, eight))) (width / 8) (omega arith) ∙ ap (λ (r : ℕ). number % 2 ^ r) (sym eight)

pub written_is_read : WrittenIsRead
written_is_read writes octets w none among room inside =
    field-is w.order (octets_left writes octets) w.at w.width w.number (read-bit writes octets w none among inside) room.whole ∙ mod-eq_of_lt room.number
