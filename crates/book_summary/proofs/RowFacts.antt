-- How many numbers there are, and how many items stand in order.
use Rattle.std.proofs.Common.{◌≡◌, ℕ, suc, Bool, true, false, cond, ◌||◌, List, [], ◌∷◌, length, refl, ap, ◌∙◌, nat_eq}
use Rattle.std.specs.Cmp.{unsigned_ties, nat_eq_equiv}
use Rattle.std.specs.List.{list_any}
use Rattle.std.specs.Ordering.{nat_cmp, eq_by_cmp}
use Rattle.std.specs.Set.{unique_keys}
use Rattle.mib_model.specs.Orders.{insert_by, sorted_by}
use Rattle.mib_model.specs.Plans.{distinct}

long-way : {X : Type 0} (b : Bool) (x y : X) (ys zs : List X) → length zs ≡ suc (length ys) → length (cond b (x ∷ y ∷ ys) (y ∷ zs)) ≡ suc (suc (length ys))
long-way true x y ys zs h = refl
long-way false x y ys zs h = ap suc h

long-insert : {X : Type 0} (before : X → X → Bool) (x : X) (xs : List X) → length (insert_by before x xs) ≡ suc (length xs)
long-insert before x [] = refl
long-insert before x (y ∷ ys) = long-way (before x y) x y ys (insert_by before x ys) (long-insert before x ys)

-- putting items in order loses none and adds none
pub long-sorted : {X : Type 0} (before : X → X → Bool) (xs : List X) → length (sorted_by before xs) ≡ length xs
unfolding sorted_by
long-sorted before [] = refl
long-sorted before (x ∷ xs) = long-insert before x (sorted_by before xs) ∙ ap suc (long-sorted before xs)

any-flip : (n : ℕ) (ns : List ℕ) → list_any (λ m. nat_eq m n) ns ≡ list_any (eq_by_cmp nat_cmp n) ns
any-flip n [] = refl
any-flip n (m ∷ ns) = ap (λ b. b || list_any (λ k. nat_eq k n) ns) (nat_eq_equiv.symm m n ∙ unsigned_ties n m) ∙ ap (λ b. eq_by_cmp nat_cmp n m || b) (any-flip n ns)

-- `distinct` keeps the numbers that a set has, each as the last of its equals
pub distinct-unique : (ns : List ℕ) → distinct ns ≡ unique_keys (eq_by_cmp nat_cmp) ns
distinct-unique [] = refl
distinct-unique (n ∷ ns) = rw (any-flip n ns, distinct-unique ns) refl
