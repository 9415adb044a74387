-- Folds over the front of a list, one item more.
use Rattle.std.proofs.Common.{◌≡◌, ◌∙◌, ℕ, zero, suc, ◌+◌, ◌<◌, ◌≤◌, List, [], ◌∷◌, ◌++◌, drop, fold, get_or, length, take, refl, sym, ap, arith}
use Rattle.std.proofs.Math.Seq.{drop-cons}
use Rattle.std.proofs.lemmas.List.{take_more}
use Rattle.std.proofs.lemmas.List.Sums.{fold-append}

pub fold-more : {X Y : Type 0} (f : Y → X → Y) (y : Y) (xs : List X) (i : ℕ) (x : X) → i < length xs → x ≡ get_or xs i x
    → fold f y (take (i + 1) xs) ≡ f (fold f y (take i xs)) x
fold-more {X} {Y} f y xs i x below is =
    ap (fold f y) (take_more xs i x below ∙ ap (λ (z : X). take i xs ++ z ∷ []) (sym is)) ∙ fold-append f y (take i xs) (x ∷ [])

-- a list from a place on, by the item there
pub split-at : {X : Type 0} (xs : List X) (i : ℕ) (x : X) → i < length xs → x ≡ get_or xs i x → drop i xs ≡ x ∷ drop (i + 1) xs
split-at xs i x below is = let one : suc i ≡ i + 1 = omega arith in drop-cons xs i x below ∙ (λ k. sym is k ∷ drop (one k) xs)

drop-none : {X : Type 0} (i : ℕ) → drop {A = X} i [] ≡ []
drop-none zero = refl
drop-none (suc i) = refl

pub none-left : {X : Type 0} (xs : List X) (i : ℕ) → length xs ≤ i → drop i xs ≡ []
none-left {X} [] i past = drop-none {X = X} i
none-left (x ∷ xs) zero past = absurd (omega (arith, past))
none-left (x ∷ xs) (suc i) past = none-left xs i (omega (arith, past))
