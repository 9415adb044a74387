-- A count that isn't 0, and the rows of a structure by its number.
use Rattle.std.proofs.Common.{◌≡◌, ℕ, suc, ℤ, pos, negsuc, nat_abs, Bool, true, false, not, cond, ◌||◌, ◌&&◌, List, [], ◌∷◌, length, filter, refl, subst, sym, ap, ◌∙◌, nat_eq, int_lt, arith}
use Rattle.std.proofs.lemmas.Bool.{ne_eqb, eqb-true, eq-eqb}
use Rattle.std.specs.Bool.{one_answer}
use Rattle.std.specs.Cmp.{signed_Decides}
use Rattle.std.specs.List.{list_any}
use Rattle.std.specs.Ordering.{int_eq}
use Rattle.mib_model.specs.declared.rows.VpdRow.{VpdRow}

pub false-true : {A : Type 0} → false ≡ true → A
false-true h = absurd (subst (λ b. cond b ⊥ (Unit {0})) h tt)

pub both-same : (a b c d : Bool) → a ≡ c → b ≡ d → (a && b) ≡ (c && d)
both-same a b c d h k = ap (λ e. e && b) h ∙ ap (λ e. c && e) k

pub counted-any : {X : Type 0} (p : X → Bool) (xs : List X) → not (nat_eq (length (filter p xs)) 0) ≡ list_any p xs
counted-any p [] = refl
counted-any p (x ∷ xs) = go (p x) (filter p xs) (counted-any p xs) where
  go : (b : Bool) (kept : List _) → not (nat_eq (length kept) 0) ≡ list_any p xs → not (nat_eq (length (cond b (x ∷ kept) kept)) 0) ≡ (b || list_any p xs)
  go true kept h = let e : nat_eq (suc (length kept)) 0 ≡ false = ne_eqb (suc (length kept)) 0 (λ q. absurd (omega (arith, q))) in ap not e
  go false kept h = h

pub same-number : (a b : ℕ) → nat_eq a b ≡ int_eq (pos a) (pos b)
same-number a b =
    one_answer {P = a ≡ b} (nat_eq a b) (int_eq (pos a) (pos b)) (eqb-true a b, eq-eqb a b)
    (λ e. ap nat_abs ((signed_Decides (pos a) (pos b)).0 e), λ e. (signed_Decides (pos a) (pos b)).1 (ap pos e))

pub any-agree : {X : Type 0} (p q : X → Bool) → ((x : X) → p x ≡ q x) → (xs : List X) → list_any p xs ≡ list_any q xs
any-agree p q same [] = refl
any-agree p q same (x ∷ xs) = ap (λ b. b || list_any p xs) (same x) ∙ ap (λ b. q x || b) (any-agree p q same xs)

-- rows of a structure, whose number is a whole number above 0
pub structure-there : (rows : List VpdRow) (z : ℤ) (count : ℕ) → int_lt z (pos 1) ≡ false → count ≡ length (filter (λ (row : VpdRow). nat_eq row.tpsd (nat_abs z)) rows) → not (nat_eq count 0) ≡ (int_lt z (pos 1) || list_any (λ (row : VpdRow). int_eq (pos row.tpsd) z) rows)
structure-there rows (pos n) count above counts =
    ap (λ k. not (nat_eq k 0)) counts ∙ (counted-any (λ (row : VpdRow). nat_eq row.tpsd n) rows ∙
    (any-agree _ _ (λ (row : VpdRow). same-number row.tpsd n) rows ∙ sym (ap (λ b. b || list_any (λ (row : VpdRow). int_eq (pos row.tpsd) (pos n)) rows) above)))
structure-there rows (negsuc n) count above counts = false-true (sym above)
