-- Polynomials whose coefficients are numbers of 64 bits. [This profile.]
use Rattle.std.specs.Prelude.{◌≡◌, ℤ, pos, List, take, Option, Some, None}
use Rattle.dec_num.specs.declared.fast.poly.WordPoly.{WordPoly}
use Rattle.dec_num.specs.Sums.{sum_behind, without_zeros}

-- coefficients of 64 bits, where there are any, are coefficients at one scale
abbrev pub AreWords : Option WordPoly → Option (ℤ × List ℤ) → Type 0
AreWords None scaled = Unit {0}
AreWords (Some words) None = ⊥
AreWords (Some words) (Some c) = (words.first ≡ c.0) × (take words.count words.rest ≡ without_zeros c.1)

-- the sum of coefficients at a number, where they are there and no step is too wide
abbrev pub word_sum : Option WordPoly → ℤ → Option ℤ
word_sum None raw = None
word_sum (Some words) raw = sum_behind raw (pos 1) words.first (take words.count words.rest)
