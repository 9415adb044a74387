-- The widths that encodings have, by their sorts.
use Rattle.std.proofs.Common.{◌≡◌, ℕ, ◌+◌, ◌*◌, ◌/◌, ◌%◌, ◌≤◌, Bool, true, false, Some, None, refl, subst, inl, inr, arith}
use Rattle.std.specs.Prelude.{Option, option_and_then, cond, nat_le, ◌==◌, ◌&&◌}
use Rattle.std.proofs.lemmas.Bool.{cases_Bool, leb-true}
use Rattle.std.proofs.lemmas.Bool.Decides.{nat_tests}
use Rattle.mib_model.specs.declared.shape.Sort.{Sort}
use Rattle.mib_model.specs.declared.shape.Sort.TheVariants.{Unsigned, Signed, Real, Octets, Chars, Cds, Cuc, Deduced}
use Rattle.mib_model.specs.declared.shape.Order.{Order}
use Rattle.mib_model.specs.declared.shape.Order.TheVariants.{Big, Little}
use Rattle.mib_model.specs.declared.shape.Endian.{Endian}
use Rattle.mib_model.specs.declared.shape.Endian.TheVariants as endian
use Rattle.mib_model.specs.Encodings.{Encoding, IsEncoding, encoding_of, type_of, ordered, may_be_little, sorted_as, width_if, integer_width, real_width, is_from_to, absolute_time, unsegmented_time, coarse_and_fine}

-- what a sort's width is: 8 octets of a real number and of days at most, whole octets of coarse and fine time, 1,024 octets else
abbrev Within : Sort → ℕ → Type 0
Within Real width = width ≤ 64
Within Cds width = (48 ≤ width) × (width ≤ 64)
Within (Cuc coarse fine) width = (coarse ≤ 4) × ((fine ≤ 3) × (width ≡ 8 * (coarse + fine)))
Within other width = width ≤ 8192

abbrev Each : (ℕ → Type 0) → Option ℕ → Type 0
Each P None = Unit {0}
Each P (Some width) = P width

abbrev Fine : Option (Sort × ℕ) → Type 0
Fine None = Unit {0}
Fine (Some typed) = Within typed.0 typed.1

each_if : (P : ℕ → Type 0) (b : Bool) (x y : Option ℕ) → Each P x → Each P y → Each P (cond b x y)
each_if P true x y fx fy = fx
each_if P false x y fx fy = fy

fine_if : (b : Bool) (x y : Option (Sort × ℕ)) → Fine x → Fine y → Fine (cond b x y)
fine_if true x y fx fy = fx
fine_if false x y fx fy = fy

each_width : (P : ℕ → Type 0) (b : Bool) (width : ℕ) → (b ≡ true → P width) → Each P (width_if b width)
each_width P true width fits = fits refl
each_width P false width fits = tt

sorted_fine : (sort : Sort) (width : Option ℕ) → Each (Within sort) width → Fine (sorted_as sort width)
sorted_fine sort None fits = tt
sorted_fine sort (Some width) fits = fits

integer_fine : (pfc : ℕ) → Each (λ width. width ≤ 8192) (integer_width pfc)
integer_fine pfc =
    let P : ℕ → Type 0 = λ width. width ≤ 8192 in
    elim (cases_Bool (nat_le pfc 12)) [
      | inl few ↦ rw few (let low = leb-true pfc 12 few in omega arith)
      | inr more ↦ rw more
          (each_if P (pfc == 13) (Some 24) _ (omega arith) (each_if P (pfc == 14) (Some 32) _ (omega arith)
          (each_if P (pfc == 15) (Some 48) _ (omega arith) (each_width P (pfc == 16) 64 (λ _. omega arith)))))
    ]

real_fine : (pfc : ℕ) → Each (Within Real) (real_width pfc)
real_fine pfc =
    let P : ℕ → Type 0 = λ width. width ≤ 64 in
    each_if P (pfc == 1) (Some 32) _ (omega arith) (each_if P (pfc == 2) (Some 64) _ (omega arith)
    (each_if P (pfc == 3) (Some 32) _ (omega arith) (each_width P (pfc == 4) 48 (λ _. omega arith))))

between : (low high n : ℕ) → is_from_to low high n ≡ true → (low ≤ n) × (n ≤ high)
between low high n inside = (grind (arith, nat_tests), grind (arith, nat_tests))

time_if : (inside : Bool) (pfc : ℕ) → (inside ≡ true → pfc ≤ 18) → Fine (cond inside (coarse_and_fine ((pfc + 1) / 4) ((pfc + 1) % 4)) None)
time_if true pfc most = let few = most refl in (omega arith, (omega arith, refl))
time_if false pfc most = tt

time_fine : (pfc : ℕ) → Fine (unsegmented_time pfc)
time_fine pfc = time_if (is_from_to 3 18 pfc) pfc (λ inside. (between 3 18 pfc inside).1)

absolute_fine : (pfc : ℕ) → Fine (absolute_time pfc)
absolute_fine pfc = fine_if (pfc == 1) (Some (Cds, 48)) _ (omega arith, omega arith) (fine_if (pfc == 2) (Some (Cds, 64)) _ (omega arith, omega arith) (time_fine pfc))

some_octets : (pfc : ℕ) → is_from_to 1 1024 pfc ≡ true → 8 * pfc ≤ 8192
some_octets pfc inside = let bounds = between 1 1024 pfc inside in omega arith

some_bits : (high pfc : ℕ) → high ≤ 64 → is_from_to 1 high pfc ≡ true → pfc ≤ 8192
some_bits high pfc few inside = let bounds = between 1 high pfc inside in omega arith

type_fine : (ptc pfc : ℕ) → Fine (type_of ptc pfc)
unfolding type_of
type_fine ptc pfc =
    let P : ℕ → Type 0 = λ width. width ≤ 8192 in
    fine_if (ptc == 1) _ _ (sorted_fine Unsigned (width_if (pfc == 0) 1) (each_width P (pfc == 0) 1 (λ _. omega arith)))
    (fine_if (ptc == 2) _ _ (sorted_fine Unsigned (width_if (is_from_to 1 32 pfc) pfc) (each_width P (is_from_to 1 32 pfc) pfc (some_bits 32 pfc (omega arith))))
    (fine_if (ptc == 3) _ _ (sorted_fine Unsigned (integer_width pfc) (integer_fine pfc))
    (fine_if (ptc == 4) _ _ (sorted_fine Signed (integer_width pfc) (integer_fine pfc))
    (fine_if (ptc == 5) _ _ (sorted_fine Real (real_width pfc) (real_fine pfc))
    (fine_if (ptc == 6) _ _ (sorted_fine Unsigned (width_if (is_from_to 1 64 pfc) pfc) (each_width P (is_from_to 1 64 pfc) pfc (some_bits 64 pfc (omega arith))))
    (fine_if (ptc == 7) _ _ (sorted_fine Octets (width_if (is_from_to 1 1024 pfc) (8 * pfc)) (each_width P (is_from_to 1 1024 pfc) (8 * pfc) (some_octets pfc)))
    (fine_if (ptc == 8) _ _ (sorted_fine Chars (width_if (is_from_to 1 1024 pfc) (8 * pfc)) (each_width P (is_from_to 1 1024 pfc) (8 * pfc) (some_octets pfc)))
    (fine_if (ptc == 9) _ _ (absolute_fine pfc)
    (fine_if (ptc == 10) _ _ (time_fine pfc)
    (sorted_fine Deduced (width_if ((ptc == 11) && (pfc == 0)) 0) (each_width P ((ptc == 11) && (pfc == 0)) 0 (λ _. omega arith))))))))))))

packed : (sort : Sort) (width : ℕ) (order : Order) (e : Encoding) → Within sort width → Some (record { sort = sort; width = width; order = order }) ≡ Some e → Within e.sort e.width
packed sort width order e within same =
    let is : ◌≡◌ {A = Encoding} (record { sort = sort; width = width; order = order }) e = cc in
    subst (λ (x : Encoding). Within x.sort x.width) is within

ordered_within : (e : Endian) (typed : Sort × ℕ) (x : Encoding) → Within typed.0 typed.1 → ordered e typed ≡ Some x → Within x.sort x.width
ordered_within endian.B typed x within same = packed typed.0 typed.1 Big x within same
ordered_within endian.L typed x within same = elim (cases_Bool (may_be_little typed.0)) [
  | inl may ↦ elim (cases_Bool (typed.1 % 8 == 0)) [
    | inl whole ↦ packed typed.0 typed.1 Little x within (rw (may, whole) at same)
    | inr part ↦ absurd (let none : ◌≡◌ {A = Option Encoding} None (Some x) = rw (may, part) at same in cc)
  ]
  | inr must_not ↦ packed typed.0 typed.1 Big x within (rw must_not at same)
]

within_of : (e : Endian) (typed : Option (Sort × ℕ)) (x : Encoding) → Fine typed → option_and_then (ordered e) typed ≡ Some x → Within x.sort x.width
within_of e None x fine same = absurd (cc)
within_of e (Some typed) x fine same = ordered_within e typed x fine same

encoding_within : (x : Encoding) → IsEncoding x → Within x.sort x.width
unfolding encoding_of
encoding_within x (ptc, pfc, e, same) = within_of e (type_of ptc pfc) x (type_fine ptc pfc) same

most : (sort : Sort) (width : ℕ) → Within sort width → width ≤ 8192
most Unsigned width within = within
most Signed width within = within
most Real width within = omega arith
most Octets width within = within
most Chars width within = within
most Cds width (low, high) = omega arith
most (Cuc coarse fine) width (few, (less, is)) = omega arith
most Deduced width within = within

-- a width is 1,024 octets at most
pub width-most : (e : Encoding) → IsEncoding e → e.width ≤ 8192
width-most e is = most e.sort e.width (encoding_within e is)

-- the width of a real number
pub real-most : (e : Encoding) → IsEncoding e → e.sort ≡ Real → e.width ≤ 64
real-most e is sort = subst (λ (s : Sort). Within s e.width) sort (encoding_within e is)

-- the width of days and milliseconds
pub day_time-least : (e : Encoding) → IsEncoding e → e.sort ≡ Cds → 48 ≤ e.width
day_time-least e is sort = (subst (λ (s : Sort). Within s e.width) sort (encoding_within e is)).0

-- the width of coarse and fine time
pub octet_time-width : (e : Encoding) (coarse fine : ℕ) → IsEncoding e → e.sort ≡ Cuc coarse fine → (coarse ≤ 4) × ((fine ≤ 3) × (e.width ≡ 8 * (coarse + fine)))
octet_time-width e coarse fine is sort = subst (λ (s : Sort). Within s e.width) sort (encoding_within e is)
