-- Lists of rows that are the same are equal.
use Rattle.std.proofs.Common.{◌≡◌, Bool, true, false, ◌&&◌, List, [], ◌∷◌, refl}
use Rattle.std.specs.Cmp.Lexicographic.{pointwise}

-- both parts of what is true
both : (a b : Bool) → (a && b) ≡ true → (a ≡ true) × (b ≡ true)
both true b h = (refl, h)
both false b h = absurd (cc h)

-- lists whose items are the same are equal, where such items are
pub equal-lists : {A : Type 0} (same : A → A → Bool) → ((x y : A) → same x y ≡ true → x ≡ y) → (xs ys : List A) → pointwise same xs ys ≡ true → xs ≡ ys
equal-lists same equal [] [] h = refl
equal-lists same equal [] (y ∷ ys) h = absurd (cc h)
equal-lists same equal (x ∷ xs) [] h = absurd (cc h)
equal-lists same equal (x ∷ xs) (y ∷ ys) h =
    let parts = both (same x y) (pointwise same xs ys) h in
    let first : x ≡ y = equal x y parts.0 in
    let rest : xs ≡ ys = equal-lists same equal xs ys parts.1 in
    cc
