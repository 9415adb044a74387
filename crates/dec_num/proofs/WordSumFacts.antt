-- Polynomials by the sums of their coefficients, where these are numbers of 64 bits and where they are greater.
use Rattle.std.proofs.Common.{◌≡◌, ◌-◌, ◌≤◌, List, [], ◌∷◌, length, take, get_or, None, Some, Err, refl, sym, ap, ap₂, subst, ◌∙◌, arith}
use Rattle.std.specs.Prelude.{ℤ, pos, Option}
use Rattle.std.specs.List.{suffix_len}
use Rattle.std.proofs.lemmas.List.{length-take-le}
use Rattle.mib_model.specs.declared.number.Dec.{Dec}
use Rattle.mib_model.specs.Polynomials.{is_zero, to_count, scale_of, polynomial}
use Rattle.dec_num.specs.declared.fast.poly.WordPoly.{WordPoly}
use Rattle.dec_num.specs.Narrow.{narrow_result, or_over}
use Rattle.dec_num.specs.Sums.{without_zeros, sum_behind, sum_of, AreScaled}
use Rattle.dec_num.specs.WordSums.{word_sum, AreWords}
use Rattle.dec_num.proofs.PolynomialFacts.{polynomial-wide, polynomial-none, polynomial-some}

pub degree-takes : (cs : List ℤ) → take (length (without_zeros cs)) cs ≡ without_zeros cs
degree-takes cs = ap (λ n. take n cs) (length-take-le (length cs - suffix_len is_zero cs) cs (omega arith))

pub degree-few : (cs : List ℤ) → length (without_zeros cs) ≤ length cs
degree-few cs = omega (arith, length-take-le (length cs - suffix_len is_zero cs) cs (omega arith))

pub ruleset degrees = (degree-takes, degree-few)

-- four numbers, one by one
pub all-four : (zs : List ℤ) (d : ℤ) → length zs ≡ 4 → get_or zs 0 d ∷ get_or zs 1 d ∷ get_or zs 2 d ∷ get_or zs 3 d ∷ [] ≡ zs
all-four [] d long = absurd (omega (arith, long))
all-four (a ∷ []) d long = absurd (omega (arith, long))
all-four (a ∷ b ∷ []) d long = absurd (omega (arith, long))
all-four (a ∷ b ∷ c ∷ []) d long = absurd (omega (arith, long))
all-four (a ∷ b ∷ c ∷ e ∷ []) d long = refl
all-four (a ∷ b ∷ c ∷ e ∷ f ∷ zs) d long = absurd (omega (arith, long))

abbrev is_none : Option ℤ → Type 0
is_none None = Unit {0}
is_none (Some z) = ⊥

-- a polynomial by a sum of numbers of 64 bits
pub words-some : (decs : List Dec) (raw : ℤ) (words : Option WordPoly) (scaled : Option (ℤ × List ℤ)) (z : ℤ) → AreScaled decs (scale_of decs) scaled → AreWords words scaled
    → word_sum words raw ≡ Some z → or_over (narrow_result (to_count (scale_of decs) z)) ≡ polynomial decs raw
words-some decs raw None scaled z ok alike sum = absurd (subst is_none sum tt)
words-some decs raw (Some words) None z ok alike sum = absurd alike
words-some decs raw (Some words) (Some c) z ok alike sum =
    polynomial-some decs raw c.0 c.1 z ok.some ok.narrow (sym sum ∙ ap₂ (sum_behind raw (pos 1)) alike.0 alike.1)

-- a polynomial by a sum
pub sum-some : (decs : List Dec) (raw : ℤ) (scaled : Option (ℤ × List ℤ)) (z : ℤ) → AreScaled decs (scale_of decs) scaled
    → Some z ≡ sum_of scaled raw → or_over (narrow_result (to_count (scale_of decs) z)) ≡ polynomial decs raw
sum-some decs raw None z ok sum = absurd (subst is_none (sym sum) tt)
sum-some decs raw (Some c) z ok sum = polynomial-some decs raw c.0 c.1 z ok.some ok.narrow sum

-- a polynomial without a sum
pub sum-none : (decs : List Dec) (raw : ℤ) (scaled : Option (ℤ × List ℤ)) → AreScaled decs (scale_of decs) scaled → None ≡ sum_of scaled raw → Err (record {}) ≡ polynomial decs raw
sum-none decs raw None ok sum = polynomial-wide decs raw ok.none
sum-none decs raw (Some c) ok sum = polynomial-none decs raw c.0 c.1 ok.some ok.narrow sum
