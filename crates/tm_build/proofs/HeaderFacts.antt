-- Numbers that are written one behind the other, as one number.
use mathlib.Core.Path.{fun_ext}
use Rattle.std.proofs.Common.{◌≡◌, ◌∙◌, ℕ, suc, ◌+◌, ◌-◌, ◌*◌, ◌/◌, ◌%◌, ◌^◌, ◌<◌, ◌≤◌, Bool, true, false, cond, nat_le, nat_lt, max, List, [], ◌∷◌, ◌++◌, map, refl, ap, arith}
use Rattle.std.specs.Prelude.{◌==◌, ◌&&◌, ◌||◌, Option, Some, None, Result, Ok, Err}
use Rattle.std.specs.List.{find, range_with_len}
use Rattle.std.proofs.lemmas.Bool.{leb-true, leb-false, ltb-true, ltb-false}
use Rattle.std.proofs.lemmas.Nat.Bits.{bit_at_cat_high, bit_at_cat_low}
use Rattle.mib_model.specs.declared.rows.PidRow.{PidRow}
use Rattle.bit_writer.specs.declared.write.Write.{Write}
use Rattle.bit_writer.specs.Writes.{first_clash, is_set, number_of, octets_for, octets_left, sets}
use Rattle.build_rules.specs.declared.fault.BuildFault.{BuildFault}
use Rattle.build_rules.specs.declared.fault.BuildFault.TheVariants.{Clash, Long}
use Rattle.build_rules.specs.Building.{big, header_writes, length_write, packet_size, with_length}
use Rattle.tm_build.specs.Builds.{PacksAs, joined_header}

-- writes that set the same bits as others, and reach as far
record Alike (some others : List Write) : Type 0 where
  bits : (b j : ℕ) → is_set b some j ≡ is_set b others j
  reach : (least : ℕ) → octets_for least some ≡ octets_for least others

chained : (ws vs us : List Write) → Alike ws vs → Alike vs us → Alike ws us
chained ws vs us first second = record { bits = λ b j. first.bits b j ∙ second.bits b j; reach = λ least. first.reach least ∙ second.reach least }

behind : (w : Write) (ws vs : List Write) → Alike ws vs → Alike (w ∷ ws) (w ∷ vs)
behind w ws vs alike = record { bits = λ b j. ap (λ (rest : Bool). sets b j w || rest) (alike.bits b j); reach = λ least. alike.reach (max least ((w.at + w.width + 7) / 8)) }

-- ---- two numbers

module _ (at v w m n : ℕ) (few : n < 2 ^ w) (b j : ℕ) where
  or-none : (x y : Bool) → x ≡ y → x ≡ (y || false)
  or-none x true is = is
  or-none x false is = is

  high : at ≤ j → j < at + v → (m * 2 ^ w + n) / 2 ^ (v + w - suc (j - at)) % 2 ≡ m / 2 ^ (v - suc (j - at)) % 2
  high from to =
      let place : v + w - suc (j - at) - w ≡ v - suc (j - at) = omega (arith, from, to) in
      bit_at_cat_high m w n (v + w - suc (j - at)) few (omega (arith, from, to)) ∙ ap (λ (k : ℕ). m / 2 ^ k % 2) place

  low : at + v ≤ j → j < at + (v + w) → (m * 2 ^ w + n) / 2 ^ (v + w - suc (j - at)) % 2 ≡ n / 2 ^ (w - suc (j - (at + v))) % 2
  low from to =
      let place : v + w - suc (j - at) ≡ w - suc (j - (at + v)) = omega (arith, from, to) in
      bit_at_cat_low m w n (v + w - suc (j - at)) (omega (arith, from, to)) ∙ ap (λ (k : ℕ). n / 2 ^ k % 2) place

  pub joined-sets : sets b j (big at (v + w) (m * 2 ^ w + n)) ≡ (sets b j (big at v m) || sets b j (big (at + v) w n))
  joined-sets = go (nat_le at j) (nat_lt j (at + v)) (nat_le (at + v) j) (nat_lt j (at + (v + w))) (nat_lt j (at + v + w)) refl refl refl refl refl where
    x : Bool
    x = (m * 2 ^ w + n) / 2 ^ (v + w - suc (j - at)) % 2 == b

    y : Bool
    y = m / 2 ^ (v - suc (j - at)) % 2 == b

    z : Bool
    z = n / 2 ^ (w - suc (j - (at + v))) % 2 == b

    go : (l t k e e' : Bool) → nat_le at j ≡ l → nat_lt j (at + v) ≡ t → nat_le (at + v) j ≡ k → nat_lt j (at + (v + w)) ≡ e → nat_lt j (at + v + w) ≡ e'
        → ((l && e) && x) ≡ (((l && t) && y) || ((k && e') && z))
    go false t false e e' hl ht hk he he' = refl
    go false t true e e' hl ht hk he he' = let before = leb-false at j hl in let behind = leb-true (at + v) j hk in absurd (omega (arith, before, behind))
    go true true true e e' hl ht hk he he' = let before = ltb-true j (at + v) ht in let behind = leb-true (at + v) j hk in absurd (omega (arith, before, behind))
    go true true false false e' hl ht hk he he' = let to = ltb-true j (at + v) ht in let far = ltb-false j (at + (v + w)) he in absurd (omega (arith, to, far))
    go true true false true e' hl ht hk he he' = or-none x y (ap (λ (o : ℕ). o == b) (high (leb-true at j hl) (ltb-true j (at + v) ht)))
    go true false false e e' hl ht hk he he' = let behind = ltb-false j (at + v) ht in let before = leb-false (at + v) j hk in absurd (omega (arith, behind, before))
    go true false true true true hl ht hk he he' = ap (λ (o : ℕ). o == b) (low (leb-true (at + v) j hk) (ltb-true j (at + (v + w)) he))
    go true false true true false hl ht hk he he' = let to = ltb-true j (at + (v + w)) he in let far = ltb-false j (at + v + w) he' in absurd (omega (arith, to, far))
    go true false true false true hl ht hk he he' = let far = ltb-false j (at + (v + w)) he in let to = ltb-true j (at + v + w) he' in absurd (omega (arith, to, far))
    go true false true false false hl ht hk he he' = refl

joined : (at v w m n : ℕ) → n < 2 ^ w → (rest : List Write) → Alike (big at (v + w) (m * 2 ^ w + n) ∷ rest) (big at v m ∷ big (at + v) w n ∷ rest)
joined at v w m n few rest = record {
  bits = λ b j. ap (λ (s : Bool). s || is_set b rest j) (joined-sets at v w m n few b j) ∙ turned (sets b j (big at v m)) (sets b j (big (at + v) w n)) (is_set b rest j);
  reach = λ least.
      let far : max least ((at + (v + w) + 7) / 8) ≡ max (max least ((at + v + 7) / 8)) ((at + v + w + 7) / 8) = omega arith in
      ap (λ (o : ℕ). octets_for o rest) far;
} where
  turned : (p q r : Bool) → ((p || q) || r) ≡ (p || (q || r))
  turned true q r = refl
  turned false q r = refl

-- ---- the headers

header-alike : (row : PidRow) (count : ℕ) → count < 2 ^ 14 → row.apid < 2 ^ 11 → row.service < 2 ^ 8 → row.subtype < 2 ^ 8 → (rest : List Write)
    → Alike (joined_header row count ++ rest) (header_writes row count ++ rest)
header-alike row count few apid service subtype rest =
    let a : ℕ = 2048 + row.apid in
    let types : List Write = big 48 24 ((4096 + row.service) * 256 + row.subtype) ∷ rest in
    let last : List Write = big 18 14 count ∷ types in
    let flags : List Write = big 16 2 3 ∷ last in
    let apids : List Write = big 5 11 row.apid ∷ flags in
    let three : List Write = big 48 8 16 ∷ big 56 8 row.service ∷ big 64 8 row.subtype ∷ rest in
    let ends : Alike types three =
    chained types (big 48 16 (4096 + row.service) ∷ big 64 8 row.subtype ∷ rest) three (joined 48 16 8 (4096 + row.service) row.subtype subtype rest)
    (joined 48 8 8 16 row.service service (big 64 8 row.subtype ∷ rest)) in
    chained (big 0 32 ((a * 4 + 3) * 16384 + count) ∷ types) (big 0 18 (a * 4 + 3) ∷ last) (header_writes row count ++ rest) (joined 0 18 14 (a * 4 + 3) count few types)
    (chained (big 0 18 (a * 4 + 3) ∷ last) (big 0 16 a ∷ flags) (header_writes row count ++ rest) (joined 0 16 2 a 3 (omega arith) last)
    (chained (big 0 16 a ∷ flags) (big 0 5 1 ∷ apids) (header_writes row count ++ rest) (joined 0 5 11 1 row.apid apid flags)
    (chained (big 0 5 1 ∷ apids) (big 0 4 0 ∷ big 4 1 1 ∷ apids) (header_writes row count ++ rest) (joined 0 4 1 0 1 (omega arith) apids)
    (chained (big 0 4 0 ∷ big 4 1 1 ∷ apids) (big 0 3 0 ∷ big 3 1 0 ∷ big 4 1 1 ∷ apids) (header_writes row count ++ rest) (joined 0 3 1 0 0 (omega arith) (big 4 1 1 ∷ apids))
    (behind (big 0 3 0) (big 3 1 0 ∷ big 4 1 1 ∷ apids) (big 3 1 0 ∷ big 4 1 1 ∷ big 5 11 row.apid ∷ big 16 2 3 ∷ big 18 14 count ∷ three)
    (behind (big 3 1 0) (big 4 1 1 ∷ apids) (big 4 1 1 ∷ big 5 11 row.apid ∷ big 16 2 3 ∷ big 18 14 count ∷ three)
    (behind (big 4 1 1) apids (big 5 11 row.apid ∷ big 16 2 3 ∷ big 18 14 count ∷ three)
    (behind (big 5 11 row.apid) flags (big 16 2 3 ∷ big 18 14 count ∷ three) (behind (big 16 2 3) last (big 18 14 count ∷ three) (behind (big 18 14 count) types three ends))))))))))

-- ---- the packet

abbrev unset : (ℕ → ℕ → Bool) → ℕ → Option ℕ
unset set octets = find (λ j. set 1 j && set 0 j) (range_with_len 0 (8 * octets))

same-clash : (some others : List Write) → Alike some others → (octets : ℕ) → first_clash some octets ≡ first_clash others octets
unfolding first_clash
same-clash some others alike octets = ap (λ (set : ℕ → ℕ → Bool). unset set octets) (fun_ext (λ b. fun_ext (alike.bits b)))

abbrev left : (ℕ → Bool) → ℕ → List ℕ
left set octets = map (λ k. number_of (λ i. cond (set (8 * k + i)) 1 0) 8) (range_with_len 0 octets)

same-left : (some others : List Write) → Alike some others → (octets : ℕ) → octets_left some octets ≡ octets_left others octets
unfolding octets_left
same-left some others alike octets = ap (λ (set : ℕ → Bool). left set octets) (fun_ext (alike.bits 1))

-- the joined headers leave the same packet
pub packs-joined : (row : PidRow) (count : ℕ) → count < 2 ^ 14 → row.apid < 2 ^ 11 → row.service < 2 ^ 8 → row.subtype < 2 ^ 8 → (rest : List Write)
    → PacksAs row (joined_header row count ++ rest) (header_writes row count ++ rest)
packs-joined row count few apid service subtype rest =
    let size : packet_size row (joined_header row count ++ rest) ≡ packet_size row (header_writes row count ++ rest) =
    (header-alike row count few apid service subtype rest).reach (max 9 (6 + row.dfhsize)) in
    ap (with_length (joined_header row count ++ rest)) size ∙ packed (packet_size row (header_writes row count ++ rest)) where
      packed : (octets : ℕ) → with_length (joined_header row count ++ rest) octets ≡ with_length (header_writes row count ++ rest) octets
      packed octets =
          let more = header-alike row count few apid service subtype (rest ++ length_write octets ∷ []) in
          let some = joined_header row count ++ (rest ++ length_write octets ∷ []) in
          let others = header_writes row count ++ (rest ++ length_write octets ∷ []) in
          ap (λ (l : List ℕ). cond (nat_lt 65542 octets) (Err Long) (unless l (first_clash some octets))) (same-left some others more octets)
          ∙ ap (λ (o : Option ℕ). cond (nat_lt 65542 octets) (Err Long) (unless (octets_left others octets) o)) (same-clash some others more octets) where
            unless : List ℕ → Option ℕ → Result (List ℕ) BuildFault
            unless l None = Ok l
            unless l (Some bit) = Err (Clash bit)
