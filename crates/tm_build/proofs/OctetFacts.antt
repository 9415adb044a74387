-- The octets that hold writes.
use Rattle.std.proofs.Common.{◌≡◌, ◌∙◌, ℕ, zero, suc, max, fold, ◌+◌, ◌*◌, ◌/◌, ◌<◌, ◌≤◌, List, [], ◌∷◌, ◌++◌, length, get_or, arith}
use Rattle.std.specs.List.{All}
use Rattle.bit_writer.specs.declared.write.Write.{Write}
use Rattle.bit_writer.specs.Writes.{octets_for, octets_to}

pub least-octets : (least : ℕ) (writes : List Write) → least ≤ octets_for least writes
least-octets least [] = omega arith
least-octets least (w ∷ ws) = let more = least-octets (max least (octets_to w)) ws in omega (arith, more)

inside-at : (least : ℕ) (writes : List Write) (k : ℕ) (d : Write) → k < length writes → (get_or writes k d).at + (get_or writes k d).width ≤ 8 * octets_for least writes
inside-at least [] k d low = absurd (omega (arith, low))
inside-at least (w ∷ ws) zero d low = let more = least-octets (max least (octets_to w)) ws in omega (arith, more)
inside-at least (w ∷ ws) (suc k) d low = inside-at (max least (octets_to w)) ws k d (omega (arith, low))

-- all writes lie in the octets for them
pub all-inside : (least : ℕ) (writes : List Write) → All (λ w. w.at + w.width ≤ 8 * octets_for least writes) writes
all-inside least writes k d low = inside-at least writes k d low

-- and one more that does
pub one-more-inside : (n : ℕ) (writes : List Write) (w : Write) → All (λ x. x.at + x.width ≤ 8 * n) writes → w.at + w.width ≤ 8 * n → All (λ x. x.at + x.width ≤ 8 * n) (writes ++ w ∷ [])
one-more-inside n [] w all last zero d low = last
one-more-inside n [] w all last (suc k) d low = absurd (omega (arith, low))
one-more-inside n (x ∷ xs) w all last zero d low = all 0 d (omega arith)
one-more-inside n (x ∷ xs) w all last (suc k) d low = one-more-inside n xs w (λ j e less. all (suc j) e (omega (arith, less))) last k d (omega (arith, low))
