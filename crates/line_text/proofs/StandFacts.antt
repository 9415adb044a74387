-- From the mask of a load to octets that stand as themselves.
use Rattle.std.proofs.Common.{◌≡◌, ℕ, suc, ◌+◌, ◌-◌, ◌%◌, ◌^◌, ◌≤◌, Bool, true, false, true≢false, cond, ◌||◌, ◌==◌, List, [], ◌∷◌, ◌++◌, map, length, get_or, replicate, take, drop, inl, inr, Fits, w8, refl, sym, subst, ap, ap₂, ◌∙◌, arith}
use Rattle.std.proofs.lemmas.Bool.{cases_lt, agree_below, agree_below_at, eqb-true}
use Rattle.std.proofs.lemmas.Simd.{map-map, mask_l-mod, length-chunk, none_from_empty_mask}
use Rattle.std.proofs.lemmas.List.{length-map, length-take-le, get_or_append_left, get_or-append-add, get_or-take, get_or-drop}
use Rattle.std.specs.Bool.{OnTrue}
use Rattle.std.specs.List.{flat_map}
use lib.Lanes.{chunk, zip2, mask_l, top}
use Rattle.mib_model.specs.RawTexts.{quoted_octet, stands_as_itself}
use Rattle.line_text.specs.Standing.{StandBetween}

zip2-map : (h : ℕ → ℕ → ℕ) (f g : ℕ → ℕ) (xs : List ℕ) → zip2 h (map f xs) (map g xs) ≡ map (λ x. h (f x) (g x)) xs
zip2-map h f g [] = refl
zip2-map h f g (x ∷ xs) = ap (λ r. h (f x) (g x) ∷ r) (zip2-map h f g xs)

-- an operation on two vectors that were computed lane by lane from v
pub joined : (h : ℕ → ℕ → ℕ) (f g : ℕ → ℕ) (v : List ℕ) {a b : List ℕ} → a ≡ map f v → b ≡ map g v → zip2 h a b ≡ map (λ x. h (f x) (g x)) v
joined h f g v p q = ap₂ (zip2 h) p q ∙ zip2-map h f g v

pub splat_is : (v : List ℕ) (n y : ℕ) → length v ≡ n → replicate n y ≡ map (λ _. y) v
splat_is [] n y e = ap (λ k. replicate k y) (sym e)
splat_is (x ∷ xs) n y e = ap (λ k. replicate k y) (sym e) ∙ ap (λ r. y ∷ r) (splat_is xs (length xs) y refl)

on_true : (b : Bool) (P : Type 0) → (b ≡ true → P) → OnTrue b P
on_true true P f = f refl
on_true false P f = tt

-- octets under a load in which no lane is set, where a lane is set for each octet that doesn't stand as itself
pub stand-lanes : (f : ℕ → ℕ) (d : List ℕ) (i n : ℕ) (z : List ℕ) → i + n ≤ length d → n ≤ 64 → ((k : ℕ) → Fits w8 (get_or d k 0))
    → z ≡ map f (chunk i n d) → agree_below (λ x. top 7 (f x) || stands_as_itself x) (λ _. true) 256 ≡ true
    → OnTrue (mask_l (map (top 7) z) % 2 ^ 64 == 0) (StandBetween d i (i + n))
stand-lanes f d i n z room few fits lanes all =
    let v : List ℕ = chunk i n d in
    let long : length v ≡ n = length-chunk i n d room in
    let mask : mask_l (map (top 7) z) % 2 ^ 64 ≡ mask_l (map (λ x. top 7 (f x)) v) =
    ap (λ l. mask_l l % 2 ^ 64) (ap (map (top 7)) lanes ∙ map-map (top 7) f v) ∙ mask_l-mod (map (λ x. top 7 (f x)) v) 64 (omega (arith, length-map v (λ x. top 7 (f x)), long)) in
    let each : (mask_l (map (top 7) z) % 2 ^ 64 == 0) ≡ true → StandBetween d i (i + n) = λ e k from to.
    let none : top 7 (f (get_or d k 0)) ≡ false = none_from_empty_mask (λ x. top 7 (f x)) d i n 0 room (sym mask ∙ eqb-true _ 0 e) k from to in
    sym (ap (λ b. b || stands_as_itself (get_or d k 0)) none) ∙ agree_below_at (λ x. top 7 (f x) || stands_as_itself x) (λ _. true) 256 (get_or d k 0) all (fits k).fits in
    on_true (mask_l (map (top 7) z) % 2 ^ 64 == 0) (StandBetween d i (i + n)) each

itself : (b : Bool) (x : ℕ) (other rest xs : List ℕ) → b ≡ true → rest ≡ xs → cond b (x ∷ []) other ++ rest ≡ x ∷ xs
itself true x other rest xs e is = ap (λ l. x ∷ l) is
itself false x other rest xs e is = absurd (true≢false (sym e))

quoted-standing : (d : List ℕ) → StandBetween d 0 (length d) → flat_map quoted_octet d ≡ d
quoted-standing [] stand = refl
quoted-standing (x ∷ xs) stand =
    itself (stands_as_itself x) x _ _ xs (stand 0 (omega arith) (omega arith)) (quoted-standing xs (λ k from to. stand (suc k) (omega arith) (omega arith)))

-- octets that stand as themselves, in quotes
pub quoted-itself : (b : Bool) (d : List ℕ) → OnTrue b (StandBetween d 0 (length d)) → OnTrue b (flat_map quoted_octet d ≡ d)
quoted-itself true d stand = quoted-standing d stand
quoted-itself false d stand = tt

-- octets of which the first and the last stand as themselves
stand-ends : (d both : List ℕ) (n : ℕ) → both ≡ take n d ++ drop (length d - n) d → n ≤ length d → length d ≤ n + n → StandBetween both 0 (n + n) → StandBetween d 0 (length d)
stand-ends d both n is some few stand k from to = elim (cases_lt k n) [
  | inl less ↦
      let front = length-take-le n d some in
      let place : get_or both k 0 ≡ get_or d k 0 =
      ap (λ (xs : List ℕ). get_or xs k 0) is
      ∙ (get_or_append_left (take n d) (drop (length d - n) d) 0 k (omega (arith, front, less)) ∙ get_or-take n d k 0 less) in
      subst (λ (x : ℕ). stands_as_itself x ≡ true) place (stand k (omega arith) (omega (arith, less)))
  | inr more ↦
      let front = length-take-le n d some in
      let rest : ℕ = length d - n in
      let last : ℕ = length (take n d) + (k - rest) in
      let sum : rest + (k - rest) ≡ k = omega (arith, more, few, some) in
      let place : get_or both last 0 ≡ get_or d k 0 =
      ap (λ (xs : List ℕ). get_or xs last 0) is
      ∙ (get_or-append-add (take n d) (drop rest d) (k - rest) 0 ∙ (get_or-drop rest d (k - rest) 0 ∙ ap (λ (m : ℕ). get_or d m 0) sum)) in
      subst (λ (x : ℕ). stands_as_itself x ≡ true) place (stand last (omega arith) (omega (arith, front, more, few, some, to)))
]

-- their text in quotes
pub quoted-ends : (b : Bool) (d both : List ℕ) (n : ℕ) → both ≡ take n d ++ drop (length d - n) d → n ≤ length d → length d ≤ n + n → OnTrue b (StandBetween both 0 (n + n)) → OnTrue b (flat_map quoted_octet d ≡ d)
quoted-ends true d both n is some few stand = quoted-standing d (stand-ends d both n is some few stand)
quoted-ends false d both n is some few stand = tt
