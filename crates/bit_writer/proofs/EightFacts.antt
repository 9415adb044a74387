-- A write in eight octets, by its bits.
use borrow.Rule.Slice.PartMut.{mid_of, put_mid}
use Rattle.std.proofs.Common.{◌≡◌, ◌∙◌, ℕ, suc, ◌+◌, ◌-◌, ◌*◌, ◌/◌, ◌%◌, ◌^◌, ◌<◌, ◌≤◌, Bool, true, false, cond, nat_le, nat_lt, max, bit_or, List, length, get_or, drop, take, ◌++◌, refl, sym, ap, arith}
use Rattle.std.specs.Prelude.{◌&&◌}
use Rattle.std.proofs.lemmas.Bool.{leb-true, leb-false, ltb-true, ltb-false, le-leb, lt-leb, lt-ltb, le-ltb}
use Rattle.std.proofs.lemmas.List.{append-nil, drop_all, get_or-append_right, get_or_append_left, get_or-drop, get_or-take, length-drop, length-take-le, take_all}
use Rattle.std.proofs.lemmas.Nat.{or_lt, pow_pos, shr-shr}
use Rattle.std.proofs.lemmas.Nat.Bits.{bit_at-zero, bit_at_cat_high, bit_at_cat_low, bit_at_ones, bit_at_or}
use Rattle.bit_field.proofs.BitFacts.{bits-inside}
use Rattle.byteorder.specs.Endian.{big_bytes, big_number}
use Rattle.byteorder.specs.Numbers.{big_number-reads_back, length-bytes_high_first}
use Rattle.mib_model.specs.Bits.{bit, bits}
use Rattle.mib_model.specs.declared.shape.Order.TheVariants.{Big}
use Rattle.bit_writer.specs.declared.write.Write.{Write}
use Rattle.bit_writer.specs.Writes.{bit_behind, bit_there}
use Rattle.bit_writer.proofs.PartFacts.{low-bit, no-bit}

-- a bit of 64, in which the last bits of a number stand behind the first
pub moved-bit : (n skip width i : ℕ) → 0 < width → skip + width ≤ 64 → i < 64
    → n * 2 ^ (64 - width) % 2 ^ 64 / 2 ^ skip / 2 ^ (63 - i) % 2 ≡ cond (nat_le skip i && nat_lt i (skip + width)) (n / 2 ^ (skip + width - suc i) % 2) 0
moved-bit n skip width i some end low = ap (λ (x : ℕ). x % 2) (shr-shr (n * 2 ^ (64 - width) % 2 ^ 64) skip (63 - i)) ∙ go (nat_le skip i) (nat_lt i (skip + width)) refl refl where
  more : n * 2 ^ (64 - width) ≡ n * 2 ^ (64 - width) + 0
  more = omega arith

  inside : skip ≤ i → n * 2 ^ (64 - width) % 2 ^ 64 / 2 ^ (skip + (63 - i)) % 2 ≡ (n * 2 ^ (64 - width) + 0) / 2 ^ (skip + (63 - i)) % 2
  inside from = low-bit (n * 2 ^ (64 - width)) 64 (skip + (63 - i)) (omega (arith, from, low)) ∙ ap (λ (x : ℕ). x / 2 ^ (skip + (63 - i)) % 2) more

  go : (b c : Bool) → nat_le skip i ≡ b → nat_lt i (skip + width) ≡ c → n * 2 ^ (64 - width) % 2 ^ 64 / 2 ^ (skip + (63 - i)) % 2 ≡ cond (b && c) (n / 2 ^ (skip + width - suc i) % 2) 0
  go true true h h' =
      let from = leb-true skip i h in
      let to = ltb-true i (skip + width) h' in
      let place : skip + (63 - i) - (64 - width) ≡ skip + width - suc i = omega (arith, from, to, end, low) in
      inside from ∙ (bit_at_cat_high n (64 - width) 0 (skip + (63 - i)) (pow_pos (64 - width)) (omega (arith, to, end, low)) ∙ ap (λ (k : ℕ). n / 2 ^ k % 2) place)
  go true false h h' =
      let from = leb-true skip i h in
      let to = ltb-false i (skip + width) h' in
      inside from ∙ (bit_at_cat_low n (64 - width) 0 (skip + (63 - i)) (omega (arith, from, to, end, low, some)) ∙ bit_at-zero (skip + (63 - i)))
  go false c h h' =
      let ahead = leb-false skip i h in
      ap (λ (x : ℕ). x % 2) (no-bit (n * 2 ^ (64 - width) % 2 ^ 64) (skip + (63 - i)) (omega arith) (omega (arith, ahead, low)))

module _ (w : Write) (first skip i : ℕ) (is : 8 * first + skip ≡ w.at) (low : i < 64) where
  same-place : (nat_le skip i && nat_lt i (skip + w.width)) ≡ (nat_le w.at (8 * first + i) && nat_lt (8 * first + i) (w.at + w.width))
  same-place = ap (λ (b : Bool). b && nat_lt i (skip + w.width)) (from (nat_le skip i) refl) ∙ ap (λ (b : Bool). nat_le w.at (8 * first + i) && b) (to (nat_lt i (skip + w.width)) refl) where
    from : (b : Bool) → nat_le skip i ≡ b → nat_le skip i ≡ nat_le w.at (8 * first + i)
    from true h = let known = leb-true skip i h in h ∙ sym (le-leb w.at (8 * first + i) (omega (arith, known, is)))
    from false h = let known = leb-false skip i h in h ∙ sym (lt-leb w.at (8 * first + i) (omega (arith, known, is)))

    to : (b : Bool) → nat_lt i (skip + w.width) ≡ b → nat_lt i (skip + w.width) ≡ nat_lt (8 * first + i) (w.at + w.width)
    to true h = let known = ltb-true i (skip + w.width) h in h ∙ sym (lt-ltb (8 * first + i) (w.at + w.width) (omega (arith, known, is)))
    to false h = let known = ltb-false i (skip + w.width) h in h ∙ sym (le-ltb (8 * first + i) (w.at + w.width) (omega (arith, known, is)))

  -- a bit of its number is the bit that it has there
  pub number-bit : (b : ℕ) → w.order ≡ Big → b ≡ cond (nat_le skip i && nat_lt i (skip + w.width)) (w.number / 2 ^ (skip + w.width - suc i) % 2) 0
      → w.at ≤ 8 * first + i → 8 * first + i < w.at + w.width → b ≡ bit_behind w (8 * first + i - w.at)
  number-bit b big are from to =
      let place : skip + w.width - suc i ≡ w.width - suc (8 * first + i - w.at) = omega (arith, is, from, to) in
      are
      ∙ (ap (λ (c : Bool). cond (c && nat_lt i (skip + w.width)) (w.number / 2 ^ (skip + w.width - suc i) % 2) 0) (le-leb skip i (omega (arith, is, from)))
      ∙ (ap (λ (c : Bool). cond c (w.number / 2 ^ (skip + w.width - suc i) % 2) 0) (lt-ltb i (skip + w.width) (omega (arith, is, to)))
      ∙ (ap (λ (k : ℕ). w.number / 2 ^ k % 2) place ∙ ap (λ (o : _). w.number / 2 ^ bit_there o w.width (8 * first + i - w.at) % 2) (sym big))))

  -- and a bit of ones in its field is 1 where it has that bit
  pub covered-bit : (b : ℕ) → skip + w.width ≤ 64 → b ≡ cond (nat_le skip i && nat_lt i (skip + w.width)) ((2 ^ 64 - 1) / 2 ^ (skip + w.width - suc i) % 2) 0
      → b ≡ cond (nat_le w.at (8 * first + i) && nat_lt (8 * first + i) (w.at + w.width)) 1 0
  covered-bit b end are =
      are
      ∙ (ap (λ (x : ℕ). cond (nat_le skip i && nat_lt i (skip + w.width)) x 0) (bit_at_ones 64 (skip + w.width - suc i) (omega (arith, end)))
      ∙ ap (λ (c : Bool). cond c 1 0) same-place)

-- ---- the number of eight octets

one-bit : (octets : List ℕ) (at : ℕ) → bits octets at (suc 0) ≡ bit octets at
unfolding bits
one-bit octets at = let here : at + 0 ≡ at = omega arith in let same = ap (bit octets) here in omega (arith, same)

-- a bit of them
pub word-bit : (octets : List ℕ) → ((k : ℕ) → get_or octets k 0 < 256) → (j : ℕ) → j < 64 → bit octets j ≡ big_number 8 octets / 2 ^ (63 - j) % 2
word-bit octets each j low =
    let field : big_number 8 octets / 2 ^ (63 - j) % 2 ^ 1 ≡ bits octets j 1 = bits-inside octets j 1 (63 - j) 8 (omega (arith, low)) each in
    sym (field ∙ one-bit octets j)

-- behind them nothing is changed, and in them there are more ones
pub more-in-eight : (octets new : List ℕ) (word ones : ℕ) → ones < 2 ^ 64 → word < 2 ^ 64 → ((k : ℕ) → get_or new k 0 < 256) → ((j : ℕ) → j < 64 → word / 2 ^ (63 - j) % 2 ≡ bit octets j)
    → new ≡ big_bytes 8 (bit_or word ones) ++ drop 8 octets
    → (j : ℕ) → bit new j ≡ cond (nat_lt j 64) (max (bit octets j) (ones / 2 ^ (63 - j) % 2)) (bit octets j)
more-in-eight octets new word ones few small each bits-are are j = go (nat_lt j 64) refl where
  all : ℕ
  all = bit_or word ones

  go : (b : Bool) → nat_lt j 64 ≡ b → bit new j ≡ cond b (max (bit octets j) (ones / 2 ^ (63 - j) % 2)) (bit octets j)
  go true h =
      let low = ltb-true j 64 h in
      word-bit new each j low
      ∙ (ap (λ (l : List ℕ). big_number 8 l / 2 ^ (63 - j) % 2) are
      ∙ (ap (λ (n : ℕ). n / 2 ^ (63 - j) % 2) (big_number-reads_back 8 all (drop 8 octets) (or_lt 64 word ones small few))
      ∙ (bit_at_or word ones (63 - j) ∙ ap (λ (b : ℕ). max b (ones / 2 ^ (63 - j) % 2)) (bits-are j low))))
  go false h =
      let high = ltb-false j 64 h in
      let place : 8 + (j / 8 - 8) ≡ j / 8 = omega (arith, high) in
      ap (λ (o : ℕ). o / 2 ^ (7 - j % 8) % 2)
      (ap (λ (l : List ℕ). get_or l (j / 8) 0) are
      ∙ (get_or-append_right (big_bytes 8 all) (drop 8 octets) 8 (j / 8) 0 (length-bytes_high_first 8 all) (omega (arith, high))
      ∙ (get_or-drop 8 octets (j / 8 - 8) 0 ∙ ap (λ (k : ℕ). get_or octets k 0) place)))

-- the same of the eight octets from one on
pub more-from : (octets new : List ℕ) (first ones : ℕ) → first + 8 ≤ length octets
    → ((j : ℕ) → bit new j ≡ cond (nat_lt j 64) (max (bit (mid_of first (length octets - first) octets) j) (ones / 2 ^ (63 - j) % 2)) (bit (mid_of first (length octets - first) octets) j))
    → (j : ℕ) → bit (put_mid first (length octets - first) octets new) j
    ≡ cond (nat_le (8 * first) j && nat_lt j (8 * first + 64)) (max (bit octets j) (ones / 2 ^ (63 - (j - 8 * first)) % 2)) (bit octets j)
more-from octets new first ones room more j = go (nat_le (8 * first) j) refl where
  rest : ℕ
  rest = length octets - first

  whole : mid_of first rest octets ≡ drop first octets
  whole = take_all rest (drop first octets) (omega (arith, length-drop first octets))

  put : put_mid first rest octets new ≡ take first octets ++ new
  put =
      ap (λ (l : List ℕ). take first octets ++ (new ++ l)) (drop_all rest (drop first octets) (omega (arith, length-drop first octets)))
      ∙ ap (λ (l : List ℕ). take first octets ++ l) (append-nil new)

  front : length (take first octets) ≡ first
  front = length-take-le first octets (omega (arith, room))

  go : (b : Bool) → nat_le (8 * first) j ≡ b
      → bit (put_mid first rest octets new) j ≡ cond (b && nat_lt j (8 * first + 64)) (max (bit octets j) (ones / 2 ^ (63 - (j - 8 * first)) % 2)) (bit octets j)
  go false h =
      let before = leb-false (8 * first) j h in
      ap (λ (o : ℕ). o / 2 ^ (7 - j % 8) % 2)
      (ap (λ (l : List ℕ). get_or l (j / 8) 0) put
      ∙ (get_or_append_left (take first octets) new 0 (j / 8) (omega (arith, front, before)) ∙ get_or-take first octets (j / 8) 0 (omega (arith, before))))
  go true h =
      let from = leb-true (8 * first) j h in
      let k : ℕ = j - 8 * first in
      let octet : j / 8 - first ≡ (j - 8 * first) / 8 = omega (arith, from) in
      let behind : j % 8 ≡ (j - 8 * first) % 8 = omega (arith, from) in
      let back : first + (j - 8 * first) / 8 ≡ j / 8 = omega (arith, from) in
      let old : bit (mid_of first rest octets) (j - 8 * first) ≡ bit octets j =
      ap (λ (l : List ℕ). bit l (j - 8 * first)) whole
      ∙ (ap (λ (o : ℕ). o / 2 ^ (7 - (j - 8 * first) % 8) % 2) (get_or-drop first octets ((j - 8 * first) / 8) 0 ∙ ap (λ (i : ℕ). get_or octets i 0) back)
      ∙ ap (λ (i : ℕ). get_or octets (j / 8) 0 / 2 ^ (7 - i) % 2) (sym behind)) in
      ap (λ (o : ℕ). o / 2 ^ (7 - j % 8) % 2) (ap (λ (l : List ℕ). get_or l (j / 8) 0) put ∙ (get_or-append_right (take first octets) new first (j / 8) 0 front (omega (arith, from)) ∙ ap (λ (i : ℕ). get_or new i 0) octet))
      ∙ (ap (λ (i : ℕ). get_or new ((j - 8 * first) / 8) 0 / 2 ^ (7 - i) % 2) behind
      ∙ (more (j - 8 * first)
      ∙ (ap (λ (b : ℕ). cond (nat_lt (j - 8 * first) 64) (max b (ones / 2 ^ (63 - (j - 8 * first)) % 2)) b) old
      ∙ ap (λ (c : Bool). cond c (max (bit octets j) (ones / 2 ^ (63 - (j - 8 * first)) % 2)) (bit octets j)) (same (nat_lt j (8 * first + 64)) refl)))) where
        same : (b : Bool) → nat_lt j (8 * first + 64) ≡ b → nat_lt (j - 8 * first) 64 ≡ b
        same true h' = let low = ltb-true j (8 * first + 64) h' in let from = leb-true (8 * first) j h in lt-ltb (j - 8 * first) 64 (omega (arith, low, from))
        same false h' = let high = ltb-false j (8 * first + 64) h' in le-ltb (j - 8 * first) 64 (omega (arith, high))
