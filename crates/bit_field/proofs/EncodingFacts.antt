-- The widths and orders of encodings.
use Rattle.std.proofs.Common.{◌≡◌, ℕ, ◌+◌, ◌*◌, ◌/◌, ◌%◌, ◌<◌, ◌≤◌, Bool, true, false, Some, None, refl, subst, inl, inr, arith}
use Rattle.std.specs.Prelude.{Option, option_and_then, cond, nat_le, ◌==◌, ◌&&◌}
use Rattle.std.proofs.lemmas.Bool.{cases_Bool, leb-true, eqb-true}
use Rattle.std.proofs.lemmas.Bool.Decides.{nat_tests}
use Rattle.mib_model.specs.declared.shape.Sort.{Sort}
use Rattle.mib_model.specs.declared.shape.Sort.TheVariants.{Unsigned, Signed, Real, Octets, Chars, Cds, Deduced}
use Rattle.mib_model.specs.declared.shape.Order.{Order}
use Rattle.mib_model.specs.declared.shape.Order.TheVariants.{Big, Little}
use Rattle.mib_model.specs.declared.shape.Endian.{Endian}
use Rattle.mib_model.specs.declared.shape.Endian.TheVariants as endian
use Rattle.mib_model.specs.Encodings.{Encoding, IsEncoding, encoding_of, type_of, ordered, may_be_little, sorted_as, width_if, integer_width, real_width, is_from_to, absolute_time, unsegmented_time, coarse_and_fine}
use Rattle.bit_field.specs.Numbers.{has_number}

-- a width that a number may have
abbrev IsNumberWidth : ℕ → Type 0
IsNumberWidth width = (0 < width) × (width ≤ 64)

abbrev Widths : Option ℕ → Type 0
Widths None = Unit {0}
Widths (Some width) = IsNumberWidth width

abbrev Fine : Option (Sort × ℕ) → Type 0
Fine None = Unit {0}
Fine (Some typed) = has_number typed.0 ≡ true → IsNumberWidth typed.1

fine_if : (b : Bool) (x y : Option (Sort × ℕ)) → Fine x → Fine y → Fine (cond b x y)
fine_if true x y fx fy = fx
fine_if false x y fx fy = fy

widths_if : (b : Bool) (x y : Option ℕ) → Widths x → Widths y → Widths (cond b x y)
widths_if true x y fx fy = fx
widths_if false x y fx fy = fy

width_fine : (b : Bool) (width : ℕ) → (b ≡ true → IsNumberWidth width) → Widths (width_if b width)
width_fine true width fits = fits refl
width_fine false width fits = tt

sorted_fine : (sort : Sort) (width : Option ℕ) → Widths width → Fine (sorted_as sort width)
sorted_fine sort None fits = tt
sorted_fine sort (Some width) fits = λ _. fits

other_fine : (sort : Sort) (width : Option ℕ) → has_number sort ≡ false → Fine (sorted_as sort width)
other_fine sort None other = tt
other_fine sort (Some width) other = λ number. cc

integer_fine : (pfc : ℕ) → Widths (integer_width pfc)
integer_fine pfc = elim (cases_Bool (nat_le pfc 12)) [
  | inl few ↦ rw few (let low = leb-true pfc 12 few in (omega arith, omega arith))
  | inr more ↦ rw more
      (widths_if (pfc == 13) (Some 24) _ (omega arith, omega arith) (widths_if (pfc == 14) (Some 32) _ (omega arith, omega arith)
      (widths_if (pfc == 15) (Some 48) _ (omega arith, omega arith) (width_fine (pfc == 16) 64 (λ _. (omega arith, omega arith))))))
]

between : (low high n : ℕ) → is_from_to low high n ≡ true → (low ≤ n) × (n ≤ high)
between low high n inside = (grind (arith, nat_tests), grind (arith, nat_tests))

between_fine : (high pfc : ℕ) → high ≤ 64 → is_from_to 1 high pfc ≡ true → IsNumberWidth pfc
between_fine high pfc few inside = let bounds = between 1 high pfc inside in (omega arith, omega arith)

time_fine : (pfc : ℕ) → Fine (unsegmented_time pfc)
time_fine pfc = fine_if (is_from_to 3 18 pfc) (coarse_and_fine ((pfc + 1) / 4) ((pfc + 1) % 4)) None (λ number. cc) tt

absolute_fine : (pfc : ℕ) → Fine (absolute_time pfc)
absolute_fine pfc = fine_if (pfc == 1) (Some (Cds, 48)) _ (λ number. cc) (fine_if (pfc == 2) (Some (Cds, 64)) _ (λ number. cc) (time_fine pfc))

type_fine : (ptc pfc : ℕ) → Fine (type_of ptc pfc)
unfolding type_of
type_fine ptc pfc =
    fine_if (ptc == 1) _ _ (sorted_fine Unsigned (width_if (pfc == 0) 1) (width_fine (pfc == 0) 1 (λ _. (omega arith, omega arith))))
    (fine_if (ptc == 2) _ _ (sorted_fine Unsigned (width_if (is_from_to 1 32 pfc) pfc) (width_fine (is_from_to 1 32 pfc) pfc (between_fine 32 pfc (omega arith))))
    (fine_if (ptc == 3) _ _ (sorted_fine Unsigned (integer_width pfc) (integer_fine pfc))
    (fine_if (ptc == 4) _ _ (sorted_fine Signed (integer_width pfc) (integer_fine pfc))
    (fine_if (ptc == 5) _ _ (other_fine Real (real_width pfc) refl)
    (fine_if (ptc == 6) _ _ (sorted_fine Unsigned (width_if (is_from_to 1 64 pfc) pfc) (width_fine (is_from_to 1 64 pfc) pfc (between_fine 64 pfc (omega arith))))
    (fine_if (ptc == 7) _ _ (other_fine Octets (width_if (is_from_to 1 1024 pfc) (8 * pfc)) refl)
    (fine_if (ptc == 8) _ _ (other_fine Chars (width_if (is_from_to 1 1024 pfc) (8 * pfc)) refl)
    (fine_if (ptc == 9) _ _ (absolute_fine pfc)
    (fine_if (ptc == 10) _ _ (time_fine pfc) (other_fine Deduced (width_if ((ptc == 11) && (pfc == 0)) 0) refl))))))))))

-- a width that a number may have, where there is a number, and whole octets, where the order is Little
abbrev Facts : Encoding → Type 0
Facts e = (has_number e.sort ≡ true → IsNumberWidth e.width) × (e.order ≡ Little → e.width ≡ 8 * (e.width / 8))

packed : (sort : Sort) (width : ℕ) (order : Order) (e : Encoding) → (has_number sort ≡ true → IsNumberWidth width) → (order ≡ Little → width ≡ 8 * (width / 8))
    → Some (record { sort = sort; width = width; order = order }) ≡ Some e → Facts e
packed sort width order e fine whole same =
    let is : ◌≡◌ {A = Encoding} (record { sort = sort; width = width; order = order }) e = cc in
    subst (λ (x : Encoding). (has_number x.sort ≡ true → IsNumberWidth x.width) × (x.order ≡ Little → x.width ≡ 8 * (x.width / 8))) is (fine, whole)

big : (width : ℕ) → Big ≡ Little → width ≡ 8 * (width / 8)
big width same = cc

ordered_facts : (e : Endian) (typed : Sort × ℕ) (x : Encoding) → (has_number typed.0 ≡ true → IsNumberWidth typed.1) → ordered e typed ≡ Some x → Facts x
ordered_facts endian.B typed x fine same = packed typed.0 typed.1 Big x fine (big typed.1) same
ordered_facts endian.L typed x fine same = elim (cases_Bool (may_be_little typed.0)) [
  | inl may ↦ elim (cases_Bool (typed.1 % 8 == 0)) [
    | inl whole ↦ packed typed.0 typed.1 Little x fine (λ _. let rest = eqb-true (typed.1 % 8) 0 whole in omega arith) (rw (may, whole) at same)
    | inr part ↦ absurd (let none : ◌≡◌ {A = Option Encoding} None (Some x) = rw (may, part) at same in cc)
  ]
  | inr must_not ↦ packed typed.0 typed.1 Big x fine (big typed.1) (rw must_not at same)
]

facts_of : (e : Endian) (typed : Option (Sort × ℕ)) (x : Encoding) → Fine typed → option_and_then (ordered e) typed ≡ Some x → Facts x
facts_of e None x fine same = absurd (cc)
facts_of e (Some typed) x fine same = ordered_facts e typed x fine same

pub encoding_facts : (x : Encoding) → IsEncoding x → (has_number x.sort ≡ true → (0 < x.width) × (x.width ≤ 64)) × (x.order ≡ Little → x.width ≡ 8 * (x.width / 8))
unfolding encoding_of
encoding_facts x (ptc, pfc, e, same) = facts_of e (type_of ptc pfc) x (type_fine ptc pfc) same
