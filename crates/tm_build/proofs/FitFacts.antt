-- Raw numbers of encodings, and bits that hold them.
use Rattle.std.proofs.Common.{◌≡◌, ◌∙◌, ℕ, suc, ◌+◌, ◌-◌, ◌*◌, ◌^◌, ◌<◌, ◌≤◌, ℤ, pos, negsuc, neg_ℤ, ◌≤ℤ◌, ◌<ℤ◌, Bool, true, false, refl, sym, ap, subst, int_le, int_lt, nat_abs, T, arith}
use Rattle.std.specs.Prelude.{◌&&◌}
use Rattle.std.specs.Ordering.{int_eq}
use Rattle.std.proofs.Math.Nat.{pow-le-pow_right}
use Rattle.std.proofs.lemmas.Int.{ints}
use Rattle.std.specs.Int.Signed.{le_z_yes, lt_z_yes}
use Rattle.std.proofs.lemmas.Bool.Decides.{Decides-int_eq}
use lib.Signed.{non_neg}
use mir.Val.{Fits}
use mir.Syntax.{w64}
use Rattle.mib_model.specs.declared.shape.Sort.{Sort}
use Rattle.mib_model.specs.declared.shape.Sort.TheVariants.{Unsigned, Signed, Real, Octets, Chars, Cds, Cuc, Deduced}
use Rattle.mib_model.specs.Encodings.{Encoding, IsEncoding}
use Rattle.bit_field.specs.Numbers.{has_number}
use Rattle.bit_field.proofs.EncodingFacts.{encoding_facts}
use Rattle.build_rules.specs.Laying.{fits, fits_sort, lies_from_to}

both : (a b : Bool) → (a && b) ≡ true → (a ≡ true) × (b ≡ true)
both true b h = (refl, h)
both false b h = absurd (cc h)

-- a number that lies between bounds
lies : (least bound n : ℤ) → lies_from_to least bound n ≡ true → (least ≤ℤ n) × (n <ℤ bound)
lies least bound n h =
    let (low, high) = both (int_le least n) (int_lt n bound) h in (le_z_yes (subst (λ (b : Bool). T b) (sym low) tt), lt_z_yes (subst (λ (b : Bool). T b) (sym high) tt))

-- what a fitting number below zero has
abbrev IsBelow : ℕ → ℤ → Type 0
IsBelow width n = (width ≤ 64) × (neg_ℤ (pos (2 ^ width)) ≤ℤ n)

is-zero : (n : ℤ) → int_eq n (pos 0) ≡ true → n ≡ pos 0
is-zero n h = (Decides-int_eq n (pos 0)).0 h

signed-below : (width : ℕ) (n : ℤ) → 0 < width → width ≤ 64 → fits_sort Signed width n ≡ true → IsBelow width n
signed-below width n some most h =
    let (low, high) = lies (neg_ℤ (pos (2 ^ (width - 1)))) (pos (2 ^ (width - 1))) n h in
    let less : 2 ^ (width - 1) ≤ 2 ^ width = (let le : width - 1 ≤ width = omega arith in pow-le-pow_right (omega arith) le) in
    (most, omega (arith, ints, low, less))

pub fits-below : (sort : Sort) (width : ℕ) (n : ℤ) → (has_number sort ≡ true → (0 < width) × (width ≤ 64)) → fits_sort sort width n ≡ true → n <ℤ pos 0 → IsBelow width n
fits-below Unsigned width n wide h below = let (low, high) = lies (pos 0) (pos (2 ^ width)) n h in absurd (omega (arith, ints, low, below))
fits-below Signed width n wide h below = let (some, most) = wide refl in signed-below width n some most h
fits-below Real width n wide h below = let zero = is-zero n h in absurd (omega (arith, ints, zero, below))
fits-below Octets width n wide h below = let zero = is-zero n h in absurd (omega (arith, ints, zero, below))
fits-below Chars width n wide h below = let zero = is-zero n h in absurd (omega (arith, ints, zero, below))
fits-below Cds width n wide h below = let zero = is-zero n h in absurd (omega (arith, ints, zero, below))
fits-below (Cuc coarse fine) width n wide h below = let zero = is-zero n h in absurd (omega (arith, ints, zero, below))
fits-below Deduced width n wide h below = let zero = is-zero n h in absurd (omega (arith, ints, zero, below))

power-most : (width : ℕ) → width ≤ 64 → 2 ^ width ≤ 2 ^ 64
power-most width most = pow-le-pow_right (omega arith) most

pub fits-above : (sort : Sort) (width : ℕ) (n : ℤ) → (has_number sort ≡ true → (0 < width) × (width ≤ 64)) → fits_sort sort width n ≡ true → n <ℤ pos (2 ^ 64)
fits-above Unsigned width n wide h = let (some, most) = wide refl in let (low, high) = lies (pos 0) (pos (2 ^ width)) n h in let top = power-most width most in omega (arith, ints, high, top)
fits-above Signed width n wide h =
    let (some, most) = wide refl in
    let (low, high) = lies (neg_ℤ (pos (2 ^ (width - 1)))) (pos (2 ^ (width - 1))) n h in
    let top = power-most (width - 1) (omega (arith, most)) in omega (arith, ints, high, top)
fits-above Real width n wide h = let zero = is-zero n h in omega (arith, ints, zero)
fits-above Octets width n wide h = let zero = is-zero n h in omega (arith, ints, zero)
fits-above Chars width n wide h = let zero = is-zero n h in omega (arith, ints, zero)
fits-above Cds width n wide h = let zero = is-zero n h in omega (arith, ints, zero)
fits-above (Cuc coarse fine) width n wide h = let zero = is-zero n h in omega (arith, ints, zero)
fits-above Deduced width n wide h = let zero = is-zero n h in omega (arith, ints, zero)

-- a test that a number is below zero
pub below-zero : (n : ℤ) → int_lt n (pos 0) ≡ true → n <ℤ pos 0
below-zero n h = lt_z_yes (subst (λ (b : Bool). T b) (sym h) tt)

-- one that isn't, and is below 2^64
pub small-fits : (n : ℤ) → int_lt n (pos 0) ≡ false → n <ℤ pos (2 ^ 64) → T (non_neg n) × Fits w64 (nat_abs n)
small-fits (pos k) h small = (tt, omega (arith, ints, small))
small-fits (negsuc k) h small = absurd (cc h)
