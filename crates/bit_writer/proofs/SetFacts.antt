-- Bits that are set to 1.
use Rattle.std.proofs.Common.{◌≡◌, ◌≢◌, ◌∙◌, ℕ, ◌+◌, ◌-◌, ◌*◌, ◌/◌, ◌%◌, ◌^◌, ◌<◌, Bool, true, false, cond, nat_le, nat_lt, max, List, length, set, get_or, get_or-set_same, get_or-set_other, bit_or, refl, sym, ap, arith}
use Rattle.std.specs.Prelude.{◌==◌, ◌&&◌, ◌||◌}
use Rattle.std.proofs.lemmas.Bool.{eqb-true, eqb-false, lt-ltb, le-ltb, lt-leb, ltb-true, ltb-false}
use Rattle.std.proofs.lemmas.Nat.Bits.{bit_at_or}
use Rattle.mib_model.specs.Bits.{bit}
use Rattle.bit_writer.specs.declared.write.Write.{Write}
use Rattle.bit_writer.specs.Writes.{bit_behind, sets}

-- octets of which one has more ones
pub more-ones : (octets : List ℕ) (octet ones : ℕ) → octet < length octets → (j : ℕ) → bit (set octets octet (bit_or (get_or octets octet 0) ones)) j
    ≡ cond (j / 8 == octet) (max (bit octets j) (ones / 2 ^ (7 - j % 8) % 2)) (bit octets j)
more-ones octets octet ones inside j = go (j / 8 == octet) refl where
  new : ℕ
  new = bit_or (get_or octets octet 0) ones

  go : (b : Bool) → (j / 8 == octet) ≡ b → bit (set octets octet new) j ≡ cond b (max (bit octets j) (ones / 2 ^ (7 - j % 8) % 2)) (bit octets j)
  go true h =
      let is = eqb-true (j / 8) octet h in
      ap (λ (k : ℕ). get_or (set octets octet new) k 0 / 2 ^ (7 - j % 8) % 2) is
      ∙ (ap (λ (n : ℕ). n / 2 ^ (7 - j % 8) % 2) (get_or-set_same octets octet new 0 inside)
      ∙ (bit_at_or (get_or octets octet 0) ones (7 - j % 8) ∙ ap (λ (k : ℕ). max (get_or octets k 0 / 2 ^ (7 - j % 8) % 2) (ones / 2 ^ (7 - j % 8) % 2)) (sym is)))
  go false h = ap (λ (n : ℕ). n / 2 ^ (7 - j % 8) % 2) (get_or-set_other octets octet (j / 8) new 0 (eqb-false (j / 8) octet h))

-- ---- the first octets of a write

module _ (b j x : ℕ) (w : Write) where
  -- none
  pub none-yet : x ≡ cond (nat_lt j (8 * (w.at / 8)) && sets b j w) 1 x
  none-yet = go (nat_lt j (8 * (w.at / 8))) refl where
    go : (early : Bool) → nat_lt j (8 * (w.at / 8)) ≡ early → x ≡ cond (early && sets b j w) 1 x
    go false h = refl
    go true h =
        let before = ltb-true j (8 * (w.at / 8)) h in
        let out : nat_le w.at j ≡ false = lt-leb w.at j (omega (arith, before)) in
        sym (ap (λ (c : Bool). cond ((c && nat_lt j (w.at + w.width)) && (bit_behind w (j - w.at) == b)) 1 x) out)

  -- all
  pub all-done : cond (nat_lt j (8 * ((w.at + w.width + 7) / 8)) && sets b j w) 1 x ≡ cond (sets b j w) 1 x
  all-done = go (nat_lt j (8 * ((w.at + w.width + 7) / 8))) refl where
    go : (early : Bool) → nat_lt j (8 * ((w.at + w.width + 7) / 8)) ≡ early → cond (early && sets b j w) 1 x ≡ cond (sets b j w) 1 x
    go true h = refl
    go false h =
        let behind = ltb-false j (8 * ((w.at + w.width + 7) / 8)) h in
        let out : nat_lt j (w.at + w.width) ≡ false = le-ltb j (w.at + w.width) (omega (arith, behind)) in
        sym (ap (λ (c : Bool). cond ((nat_le w.at j && c) && (bit_behind w (j - w.at) == b)) 1 x) out ∙ none (nat_le w.at j)) where
          none : (c : Bool) → cond ((c && false) && (bit_behind w (j - w.at) == b)) 1 x ≡ x
          none true = refl
          none false = refl

  -- one more, with these ones in it
  pub one-octet-more : (o ones : ℕ) → x < 2 → ((i : ℕ) → i < 8 → ones / 2 ^ (7 - i) % 2 ≡ cond (sets b (8 * o + i) w) 1 0)
      → cond (j / 8 == o) (max (cond (nat_lt j (8 * o) && sets b j w) 1 x) (ones / 2 ^ (7 - j % 8) % 2)) (cond (nat_lt j (8 * o) && sets b j w) 1 x)
      ≡ cond (nat_lt j (8 * (o + 1)) && sets b j w) 1 x
  one-octet-more o ones small are = go (j / 8 == o) refl where
    joined : (s : Bool) → max x (cond s 1 0) ≡ cond s 1 x
    joined true = omega (arith, small)
    joined false = omega arith

    go : (c : Bool) → (j / 8 == o) ≡ c
        → cond c (max (cond (nat_lt j (8 * o) && sets b j w) 1 x) (ones / 2 ^ (7 - j % 8) % 2)) (cond (nat_lt j (8 * o) && sets b j w) 1 x)
        ≡ cond (nat_lt j (8 * (o + 1)) && sets b j w) 1 x
    go true h =
        let is = eqb-true (j / 8) o h in
        let from : nat_lt j (8 * o) ≡ false = le-ltb j (8 * o) (omega (arith, is)) in
        let to : nat_lt j (8 * (o + 1)) ≡ true = lt-ltb j (8 * (o + 1)) (omega (arith, is)) in
        let place : 8 * o + j % 8 ≡ j = omega (arith, is) in
        ap (λ (e : Bool). max (cond (e && sets b j w) 1 x) (ones / 2 ^ (7 - j % 8) % 2)) from
        ∙ (ap (λ (y : ℕ). max x y) (are (j % 8) (omega arith) ∙ ap (λ (k : ℕ). cond (sets b k w) 1 0) place)
        ∙ (joined (sets b j w) ∙ ap (λ (e : Bool). cond (e && sets b j w) 1 x) (sym to)))
    go false h = ap (λ (e : Bool). cond (e && sets b j w) 1 x) (same (nat_lt j (8 * o)) refl) where
      apart : (j / 8) ≢ o
      apart = eqb-false (j / 8) o h

      same : (e : Bool) → nat_lt j (8 * o) ≡ e → e ≡ nat_lt j (8 * (o + 1))
      same true h' = let low = ltb-true j (8 * o) h' in sym (lt-ltb j (8 * (o + 1)) (omega (arith, low)))
      same false h' = let high = ltb-false j (8 * o) h' in sym (le-ltb j (8 * (o + 1)) (omega (arith, high, apart)))

-- one write more
pub or-one : (a b : Bool) (x : ℕ) → cond b 1 (cond a 1 x) ≡ cond (a || b) 1 x
or-one true true x = refl
or-one true false x = refl
or-one false b x = refl
