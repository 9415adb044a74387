-- The parts of a packet by which it is told apart.
use Rattle.std.proofs.Common.{◌≡◌, ℕ, zero, suc, ◌+◌, ◌-◌, ◌*◌, ◌/◌, ◌%◌, ◌^◌, ◌<◌, ◌≤◌, ℤ, pos, negsuc, Bool, true, false, not, cond, List, [], ◌∷◌, length, get_or, Option, Some, None, refl, sym, ap, subst, ◌∙◌, inl, add-zero, add-suc, add_assoc, arith}
use Rattle.std.specs.Prelude.{◌==◌}
use Rattle.std.proofs.Math.Nat.{pow-succ', div-one, div-eq_of_lt}
use Rattle.std.proofs.lemmas.Bool.{eqb-true, le-leb, leb-false}
use Rattle.std.proofs.lemmas.Nat.{shr-shr}
use Rattle.mib_model.specs.declared.rows.PicRow.{PicRow}
use Rattle.mib_model.specs.declared.rows.PidRow.{PidRow}
use Rattle.mib_model.specs.Bits.{bits, is_inside}
use Rattle.mib_model.specs.Headers.{word}
use Rattle.mib_model.specs.Match.{discriminant, discriminants, both}
use Rattle.bit_writer.specs.declared.write.Write.{Write}
use Rattle.build_rules.specs.Building.{big, both_discriminants, discriminant_writes, lacking, lacks_room}
use Rattle.build_laws.proofs.PackedFacts.{Among, among-left, among-right}

-- ---- octets by their bits

bits-append : (octets : List ℕ) (at v w : ℕ) → bits octets at (v + w) ≡ bits octets at v * 2 ^ w + bits octets (at + v) w
unfolding bits
bits-append octets at v zero = rw add-zero (omega arith)
bits-append octets at v (suc w) =
    let again = bits-append octets at v w in
    rw (add-suc, pow-succ' 2 w, ← add_assoc at v w) (omega (arith, again))

both_halves : (n : ℕ) → 2 * (n / 2) + n % 2 ≡ n
both_halves n = omega arith

step : (k : ℕ) → suc k ≤ 8 → 8 - k ≡ 7 - k + 1
step k few = omega arith

front_of : (octets : List ℕ) (i k : ℕ) → k ≤ 8 → get_or octets i 0 < 256 → bits octets (8 * i) k ≡ get_or octets i 0 / 2 ^ (8 - k)
unfolding bits
front_of octets i zero few octet = sym (div-eq_of_lt octet)
front_of octets i (suc k) few octet =
    let again = front_of octets i k (omega arith) octet in
    let place : (8 * i + k) / 8 ≡ i = omega arith in
    let behind : (8 * i + k) % 8 ≡ k = omega arith in
    let halves : get_or octets i 0 / 2 ^ (8 - k) ≡ get_or octets i 0 / 2 ^ (7 - k) / 2 =
    ap (λ (n : ℕ). get_or octets i 0 / 2 ^ n) (step k few) ∙ sym (shr-shr (get_or octets i 0) (7 - k) 1) in
    let next : 8 - suc k ≡ 7 - k = omega arith in
    rw (place, behind, again, halves, next) (both_halves (get_or octets i 0 / 2 ^ (7 - k)))

pub bits-octet : (octets : List ℕ) (i : ℕ) → get_or octets i 0 < 256 → bits octets (8 * i) 8 ≡ get_or octets i 0
bits-octet octets i octet = front_of octets i 8 (omega arith) octet ∙ div-one (get_or octets i 0)

module _ (packet : List ℕ) (small : (k : ℕ) → get_or packet k 0 < 256) where
  -- the first word by its parts
  pub first-word : (apid : ℕ) → bits packet 0 3 ≡ 0 → bits packet 3 1 ≡ 0 → bits packet 4 1 ≡ 1 → bits packet 5 11 ≡ apid → word packet 0 ≡ 2048 + apid
  first-word apid version type secondary is =
      let a : bits packet 0 16 ≡ bits packet 0 8 * 256 + bits packet 8 8 = bits-append packet 0 8 8 in
      let x : bits packet 0 8 ≡ get_or packet 0 0 = bits-octet packet 0 (small 0) in
      let y : bits packet 8 8 ≡ get_or packet 1 0 = bits-octet packet 1 (small 1) in
      let b : bits packet 0 16 ≡ bits packet 0 3 * 8192 + bits packet 3 13 = bits-append packet 0 3 13 in
      let c : bits packet 3 13 ≡ bits packet 3 1 * 4096 + bits packet 4 12 = bits-append packet 3 1 12 in
      let d : bits packet 4 12 ≡ bits packet 4 1 * 2048 + bits packet 5 11 = bits-append packet 4 1 11 in
      omega (arith, a, x, y, b, c, d, version, type, secondary, is)

  -- ---- what it is

  pub by-tests : {X : Type 0} (a b c d : Bool) (v w x y z : X) → a ≡ false → b ≡ false → c ≡ false → d ≡ false → cond a v (cond b w (cond c x (cond d y z))) ≡ z
  by-tests true b c d v w x y z ea eb ec ed = absurd (cc ea)
  by-tests false true c d v w x y z ea eb ec ed = absurd (cc eb)
  by-tests false false true d v w x y z ea eb ec ed = absurd (cc ec)
  by-tests false false false true v w x y z ea eb ec ed = absurd (cc ed)
  by-tests false false false false v w x y z ea eb ec ed = refl

  not-true-false : (b : Bool) → b ≡ true → not b ≡ false
  not-true-false b e = ap not e

  -- no value is missing where there is no room
  zero-if : (n : ℕ) → not (n == 0) ≡ false → n ≡ 0
  zero-if n e = go (n == 0) refl e
    where
      go : (b : Bool) → (n == 0) ≡ b → not b ≡ false → n ≡ 0
      go true is e = eqb-true n 0 is
      go false is e = absurd (cc e)

  module _ (all : List Write) (reads : (at width number : ℕ) → Among (big at width number) all → number < 2 ^ width → bits packet at width ≡ number) (inside : (w : Write) → Among w all → w.at + w.width ≤ 8 * length packet) where
    one-discriminant : (offset : ℤ) (width value : ℕ) → lacks_room offset width value ≡ false → ((w : Write) → Among w (discriminant_writes offset width value) → Among w all)
        → discriminant packet offset width ≡ Some value
    one-discriminant (negsuc n) width value fits among = ap Some (sym (zero-if value fits))
    one-discriminant (pos offset) width value fits among = by-width (width == 0) refl among
      where
        by-width : (b : Bool) → (width == 0) ≡ b → ((w : Write) → Among w (cond b [] (big (8 * offset) width value ∷ [])) → Among w all)
            → cond b (Some 0) (cond (is_inside packet (8 * offset) width) (Some (bits packet (8 * offset) width)) None) ≡ Some value
        by-width true is among =
            let none : width ≡ 0 = eqb-true width 0 is in
            let low : value < 2 ^ width = leb-false (2 ^ width) value fits in
            let one : value < 1 = subst (λ (n : ℕ). value < 2 ^ n) none low in
            let nothing : 0 ≡ value = omega (arith, one) in ap Some nothing
        by-width false is among =
            let own = among (big (8 * offset) width value) (inl refl) in
            let low : value < 2 ^ width = leb-false (2 ^ width) value fits in
            ap (λ (b : Bool). cond b (Some (bits packet (8 * offset) width)) None) (le-leb (8 * offset + width) (8 * length packet) (inside (big (8 * offset) width value) own))
            ∙ ap Some (reads (8 * offset) width value own low)

    first-lacks : (a b : Bool) → ◌≡◌ {A = Option ℕ} (cond a (Some 1) (cond b (Some 2) None)) None → (a ≡ false) × (b ≡ false)
    first-lacks true b e = absurd (cc e)
    first-lacks false true e = absurd (cc e)
    first-lacks false false e = (refl, refl)

    pub both-discriminants : (row : PidRow) (o : Option PicRow) → lacking row o ≡ None → ((w : Write) → Among w (both_discriminants row o) → Among w all)
        → discriminants packet o ≡ Some (row.pi1_val, row.pi2_val)
    both-discriminants row None none among =
        let zeros = first-lacks (not (row.pi1_val == 0)) (not (row.pi2_val == 0)) none in
        let one : 0 ≡ row.pi1_val = sym (zero-if row.pi1_val zeros.0) in
        let two : 0 ≡ row.pi2_val = sym (zero-if row.pi2_val zeros.1) in
        ap (λ (n : ℕ). Some (n, 0)) one ∙ ap (λ (n : ℕ). Some (row.pi1_val, n)) two
    both-discriminants row (Some pic) none among =
        let fits = first-lacks (lacks_room pic.pi1_off pic.pi1_wid row.pi1_val) (lacks_room pic.pi2_off pic.pi2_wid row.pi2_val) none in
        let ones = discriminant_writes pic.pi1_off pic.pi1_wid row.pi1_val in
        let twos = discriminant_writes pic.pi2_off pic.pi2_wid row.pi2_val in
        let one = one-discriminant pic.pi1_off pic.pi1_wid row.pi1_val fits.0 (λ w a. among w (among-left w ones twos a)) in
        let two = one-discriminant pic.pi2_off pic.pi2_wid row.pi2_val fits.1 (λ w a. among w (among-right w ones twos a)) in
        ap (λ (x : Option ℕ). both x (discriminant packet pic.pi2_off pic.pi2_wid)) one ∙ ap (λ (x : Option ℕ). both (Some row.pi1_val) x) two
