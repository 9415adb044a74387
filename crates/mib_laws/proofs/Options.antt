-- Searches that find nothing, and what the finds of others pass.
use Rattle.std.proofs.Common.{◌≡◌, ℕ, suc, ◌+◌, ◌≤◌, Bool, true, false, not, cond, ◌||◌, List, [], ◌∷◌, length, Option, Some, None, option_map, sym, refl, ap, subst, nat_lt, arith}
use Rattle.std.proofs.lemmas.Bool.{ltb-false}
use Rattle.std.proofs.lemmas.Option.{none-some}
use Rattle.std.specs.List.{position, find, list_any, prefix_len}
use Rattle.std.specs.Option.{unwrap_or, option_or}

pub option_or-none : {A : Type 0} (x y : Option A) → option_or x y ≡ None → (x ≡ None) × (y ≡ None)
option_or-none None y h = (refl, h)
option_or-none (Some x) y h = absurd (none-some x (sym h))

pub option_map-none : {A B : Type 0} (f : A → B) (o : Option A) → option_map f o ≡ None → o ≡ None
option_map-none f None h = refl
option_map-none f (Some x) h = absurd (none-some (f x) (sym h))

pub or-false : (a b : Bool) → (a || b) ≡ false → (a ≡ false) × (b ≡ false)
or-false true b h = (h, absurd (subst (λ c. cond c (Unit {0}) ⊥) h tt))
or-false false b h = (refl, h)

-- an item that is passed over, and one that isn't
passed_over : (b any : Bool) (n m : ℕ) → suc m ≤ cond (not b) (1 + n) 0 → (m ≤ n → any ≡ false) → (b || any) ≡ false
passed_over true any n m h others = absurd (omega (arith, h))
passed_over false any n m h others = others (omega (arith, h))

prefix_whole : {X : Type 0} (p : X → Bool) (xs : List X) → length xs ≤ prefix_len (λ x. not (p x)) xs → list_any p xs ≡ false
prefix_whole p [] h = refl
prefix_whole p (x ∷ xs) h = passed_over (p x) (list_any p xs) (prefix_len (λ y. not (p y)) xs) (length xs) h (prefix_whole p xs)

cond-none : (b : Bool) (n : ℕ) → cond b (Some n) None ≡ None → b ≡ false
cond-none true n h = absurd (none-some n (sym h))
cond-none false n h = refl

-- none passes where no place is found
pub position-none : {X : Type 0} (p : X → Bool) (xs : List X) → position p xs ≡ None → list_any p xs ≡ false
position-none p xs h =
    let n = prefix_len (λ x. not (p x)) xs in
    prefix_whole p xs (ltb-false n (length xs) (cond-none (nat_lt n (length xs)) n h))

some-same : {X : Type 0} (x y : X) → Some x ≡ Some y → x ≡ y
some-same x y h = ap (λ o. unwrap_or o x) h

found_fails : {X : Type 0} (q : X → Bool) (y x : X) (any : Bool) (o : Option X) (b : Bool) → cond b (Some y) o ≡ Some x → (q y || any) ≡ false → (o ≡ Some x → any ≡ false → q x ≡ false) → q x ≡ false
found_fails q y x any o true h none others = subst (λ z. q z ≡ false) (some-same y x h) (or-false (q y) any none).0
found_fails q y x any o false h none others = others h (or-false (q y) any none).1

-- what is found among items of which none passes a test doesn't pass it
pub find-fails : {X : Type 0} (p q : X → Bool) (xs : List X) (x : X) → find p xs ≡ Some x → list_any q xs ≡ false → q x ≡ false
find-fails p q [] x h none = absurd (none-some x h)
find-fails p q (y ∷ ys) x h none = found_fails q y x (list_any q ys) (find p ys) (p y) h none (find-fails p q ys x)
