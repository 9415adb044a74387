-- The octets of a number that is written, by their bits.
use Rattle.std.proofs.Common.{◌≡◌, ◌∙◌, ℕ, zero, suc, ◌+◌, ◌-◌, ◌*◌, ◌/◌, ◌%◌, ◌^◌, ◌<◌, ◌≤◌, Bool, true, false, cond, nat_le, nat_lt, min, bit_and, refl, sym, ap, arith}
use Rattle.std.specs.Prelude.{◌==◌, ◌&&◌}
use Rattle.std.proofs.Math.Nat.{div-eq_of_lt}
use Rattle.std.proofs.Math.Pow.{pow_mono}
use Rattle.std.proofs.lemmas.Bool.{leb-true, leb-false, ltb-true, ltb-false}
use Rattle.std.proofs.lemmas.Nat.{one_shl, pow_pos, shr-shr, shr_split}
use Rattle.std.proofs.lemmas.Nat.Bits.{bit_at_and, bit_at_cat_high, bit_at_cat_low, bit_at_mask_above, bit_at_mask_below, bit_at_mask_inside, bit_at_ones}
use Rattle.bit_writer.specs.declared.write.Write.{Write}
use Rattle.bit_writer.specs.Writes.{bit_behind, sets}

-- a bit of what is left of a number below a power of two
pub low-bit : (n width place : ℕ) → place < width → n % 2 ^ width / 2 ^ place % 2 ≡ n / 2 ^ place % 2
low-bit n width place low = sym (bit_at_cat_low (n / 2 ^ width) width (n % 2 ^ width) place low) ∙ ap (λ (x : ℕ). x / 2 ^ place % 2) (shr_split n width)

-- a bit of the last octet of a number
pub octet-bit : (n place : ℕ) → place < 8 → bit_and n 255 / 2 ^ place % 2 ≡ n / 2 ^ place % 2
octet-bit n place low = let one = bit_at_ones 8 place low in omega (arith, bit_at_and n 255 place, one)

-- a bit of a number that is moved to the left, and of one that is moved to the right
pub left-bit : (n by place : ℕ) → place < 8 → by ≤ place → bit_and (n * 2 ^ by % 2 ^ 64) 255 / 2 ^ place % 2 ≡ n / 2 ^ (place - by) % 2
left-bit n by place low behind =
    let more : n * 2 ^ by ≡ n * 2 ^ by + 0 = omega arith in
    octet-bit (n * 2 ^ by % 2 ^ 64) place low
    ∙ (low-bit (n * 2 ^ by) 64 place (omega (arith, low))
    ∙ (ap (λ (x : ℕ). x / 2 ^ place % 2) more ∙ bit_at_cat_high n by 0 place (pow_pos by) behind))

pub right-bit : (n by place : ℕ) → place < 8 → bit_and (n / 2 ^ by) 255 / 2 ^ place % 2 ≡ n / 2 ^ (by + place) % 2
right-bit n by place low = octet-bit (n / 2 ^ by) place low ∙ ap (λ (x : ℕ). x % 2) (shr-shr n by place)

-- a number of 64 bits has no others
pub no-bit : (n place : ℕ) → n < 2 ^ 64 → 64 ≤ place → n / 2 ^ place ≡ 0
no-bit n place few far = let more : 2 ^ 64 ≤ 2 ^ place = pow_mono far in div-eq_of_lt (omega (arith, few, more))

-- ---- ones between others

module _ (first last : ℕ) (few : first + last ≤ 8) where
  pub powers : (1 * 2 ^ last % 65536 ≡ 2 ^ last) × (1 * 2 ^ (8 - first) % 65536 ≡ 2 ^ (8 - first))
  powers = (one_shl last 16 (omega (arith, few)), one_shl (8 - first) 16 (omega arith))

  pub least-most : (1 ≤ 2 ^ last) × (2 ^ last ≤ 2 ^ (8 - first)) × (2 ^ (8 - first) ≤ 256)
  least-most =
      let one = pow_pos last in
      let beside : last ≤ 8 - first = omega (arith, few) in
      let more : 2 ^ last ≤ 2 ^ (8 - first) = pow_mono beside in
      let whole : 8 - first ≤ 8 = omega arith in
      let most : 2 ^ (8 - first) ≤ 2 ^ 8 = pow_mono whole in
      (omega (arith, one), more, most)

  pub between-bit : (i : ℕ) → i < 8 → (1 * 2 ^ (8 - first) % 65536 - 1 * 2 ^ last % 65536) / 2 ^ (7 - i) % 2 ≡ cond (nat_le first i && nat_lt i (8 - last)) 1 0
  between-bit i low =
      ap (λ (x : ℕ). (x - 1 * 2 ^ last % 65536) / 2 ^ (7 - i) % 2) powers.1
      ∙ (ap (λ (x : ℕ). (2 ^ (8 - first) - x) / 2 ^ (7 - i) % 2) powers.0 ∙ go (nat_le first i) (nat_lt i (8 - last)) refl refl) where
        go : (b c : Bool) → nat_le first i ≡ b → nat_lt i (8 - last) ≡ c → (2 ^ (8 - first) - 2 ^ last) / 2 ^ (7 - i) % 2 ≡ cond (b && c) 1 0
        go true true h h' =
            let from = leb-true first i h in let to = ltb-true i (8 - last) h' in bit_at_mask_inside last (8 - first) (7 - i) (omega (arith, to)) (omega (arith, from, low))
        go true false h h' = let to = ltb-false i (8 - last) h' in bit_at_mask_below last (8 - first) (7 - i) (omega (arith, to, low))
        go false c h h' = let from = leb-false first i h in bit_at_mask_above last (8 - first) (7 - i) (omega (arith, from))

-- ---- a number whose least significant octet is the first

-- a bit of two of its octets
pair-bit : (number before last by i : ℕ) → last < 256 → i < 8 → bit_and ((256 * before + last) / 2 ^ by) 255 / 2 ^ (7 - i) % 2 ≡ (before * 2 ^ 8 + last) / 2 ^ (by + (7 - i)) % 2
pair-bit number before last by i small low =
    let turned : 256 * before + last ≡ before * 2 ^ 8 + last = omega arith in
    right-bit (256 * before + last) by (7 - i) (omega arith) ∙ ap (λ (x : ℕ). x / 2 ^ (by + (7 - i)) % 2) turned

pub turned-bit : (number at octet before last i : ℕ) → at < 8 * octet + 8 → i < 8 → at ≤ 8 * octet + i → last ≡ number / 2 ^ (8 * (octet - at / 8)) % 256
    → (0 < octet - at / 8 → before ≡ number / 2 ^ (8 * (octet - at / 8 - 1)) % 256)
    → bit_and ((256 * before + last) / 2 ^ (at % 8)) 255 / 2 ^ (7 - i) % 2 ≡ number / 2 ^ (8 * ((8 * octet + i - at) / 8) + (7 - (8 * octet + i - at) % 8)) % 2
turned-bit number at octet before last i begun low from is-last is-before = pair-bit number before last (at % 8) i small low ∙ go (nat_le (at % 8) i) refl where
  small : last < 256
  small = omega (arith, is-last)

  go : (b : Bool) → nat_le (at % 8) i ≡ b → (before * 2 ^ 8 + last) / 2 ^ (at % 8 + (7 - i)) % 2 ≡ number / 2 ^ (8 * ((8 * octet + i - at) / 8) + (7 - (8 * octet + i - at) % 8)) % 2
  go true h =
      let here = leb-true (at % 8) i h in
      let others : (8 * octet + i - at) / 8 ≡ octet - at / 8 = omega (arith, here, low, begun, from) in
      let place : 7 - (8 * octet + i - at) % 8 ≡ at % 8 + (7 - i) = omega (arith, here, low, begun, from) in
      bit_at_cat_low before 8 last (at % 8 + (7 - i)) (omega (arith, here, low))
      ∙ (ap (λ (x : ℕ). x / 2 ^ (at % 8 + (7 - i)) % 2) is-last
      ∙ (low-bit (number / 2 ^ (8 * (octet - at / 8))) 8 (at % 8 + (7 - i)) (omega (arith, here, low))
      ∙ (ap (λ (x : ℕ). x % 2) (shr-shr number (8 * (octet - at / 8)) (at % 8 + (7 - i)))
      ∙ (ap (λ (x : ℕ). number / 2 ^ (8 * (octet - at / 8) + x) % 2) (sym place) ∙ ap (λ (x : ℕ). number / 2 ^ (8 * x + (7 - (8 * octet + i - at) % 8)) % 2) (sym others)))))
  go false h =
      let ahead = leb-false (at % 8) i h in
      let some : 0 < octet - at / 8 = omega (arith, ahead, low, begun, from) in
      let others : (8 * octet + i - at) / 8 ≡ octet - at / 8 - 1 = omega (arith, ahead, low, begun, from) in
      let place : 7 - (8 * octet + i - at) % 8 ≡ at % 8 + (7 - i) - 8 = omega (arith, ahead, low, begun, from) in
      bit_at_cat_high before 8 last (at % 8 + (7 - i)) small (omega (arith, ahead, low))
      ∙ (ap (λ (x : ℕ). x / 2 ^ (at % 8 + (7 - i) - 8) % 2) (is-before some)
      ∙ (low-bit (number / 2 ^ (8 * (octet - at / 8 - 1))) 8 (at % 8 + (7 - i) - 8) (omega (arith, ahead, low))
      ∙ (ap (λ (x : ℕ). x % 2) (shr-shr number (8 * (octet - at / 8 - 1)) (at % 8 + (7 - i) - 8))
      ∙ (ap (λ (x : ℕ). number / 2 ^ (8 * (octet - at / 8 - 1) + x) % 2) (sym place) ∙ ap (λ (x : ℕ). number / 2 ^ (8 * x + (7 - (8 * octet + i - at) % 8)) % 2) (sym others)))))

-- ---- what a write sets

module _ (w : Write) (j e bits covered : ℕ) (is-bit : w.at ≤ j → j < w.at + w.width → bits / 2 ^ e % 2 ≡ bit_behind w (j - w.at))
    (is-covered : covered / 2 ^ e % 2 ≡ cond (nat_le w.at j && nat_lt j (w.at + w.width)) 1 0) where
  lie : false ≡ true → zero ≡ suc zero
  lie both = ap (λ (b : Bool). cond b (suc zero) zero) both

  here : (b c : Bool) → nat_le w.at j ≡ b → nat_lt j (w.at + w.width) ≡ c → (b && c) ≡ true → bits / 2 ^ e % 2 ≡ bit_behind w (j - w.at)
  here true true h h' both = is-bit (leb-true w.at j h) (ltb-true j (w.at + w.width) h')
  here true false h h' both = let none = lie both in absurd (omega (arith, none))
  here false c h h' both = let none = lie both in absurd (omega (arith, none))

  one-of : (x : ℕ) → x < 2 → cond (x == 1) 1 0 ≡ x
  one-of zero few = refl
  one-of (suc zero) few = refl
  one-of (suc (suc x)) few = absurd (omega (arith, few))

  zero-of : (x : ℕ) → x < 2 → cond (x == 0) 1 0 ≡ 1 - x
  zero-of zero few = refl
  zero-of (suc zero) few = refl
  zero-of (suc (suc x)) few = absurd (omega (arith, few))

  pub ones-bit : bit_and bits covered / 2 ^ e % 2 ≡ cond (sets 1 j w) 1 0
  ones-bit = bit_at_and bits covered e ∙ (ap (λ (x : ℕ). min (bits / 2 ^ e % 2) x) is-covered ∙ go (nat_le w.at j && nat_lt j (w.at + w.width)) refl) where
    go : (b : Bool) → (nat_le w.at j && nat_lt j (w.at + w.width)) ≡ b → min (bits / 2 ^ e % 2) (cond b 1 0) ≡ cond (b && (bit_behind w (j - w.at) == 1)) 1 0
    go false h = omega arith
    go true h =
        let is = here (nat_le w.at j) (nat_lt j (w.at + w.width)) refl refl h in let one = one-of (bit_behind w (j - w.at)) (omega arith) in omega (arith, is, one)

  pub zeros-bit : (flipped : ℕ) → flipped / 2 ^ e % 2 ≡ 1 - bits / 2 ^ e % 2 → bit_and flipped covered / 2 ^ e % 2 ≡ cond (sets 0 j w) 1 0
  zeros-bit flipped turned =
      bit_at_and flipped covered e ∙ (ap (λ (x : ℕ). min (flipped / 2 ^ e % 2) x) is-covered ∙ go (nat_le w.at j && nat_lt j (w.at + w.width)) refl) where
        go : (b : Bool) → (nat_le w.at j && nat_lt j (w.at + w.width)) ≡ b → min (flipped / 2 ^ e % 2) (cond b 1 0) ≡ cond (b && (bit_behind w (j - w.at) == 0)) 1 0
        go false h = omega arith
        go true h =
            let is = here (nat_le w.at j) (nat_lt j (w.at + w.width)) refl refl h in
            let none = zero-of (bit_behind w (j - w.at)) (omega arith) in
            omega (arith, is, none, turned)
