-- The ends of groups as they are swept: the nearest end tells whether a group passes one around it.
use Rattle.std.proofs.Common.{◌≡◌, ℕ, suc, ◌+◌, ◌<◌, ◌≤◌, inl, inr, Bool, true, false, cond, ◌||◌, List, [], ◌∷◌, ◌++◌, length, take, get_or, Option, Some, None, refl, sym, ap, subst, ◌∙◌, nat_eq, nat_lt, arith, length-append}
use Rattle.std.proofs.lemmas.Bool.{eqb-true, eq-eqb, ltb-true, ltb-false, lt-ltb, le-leb, and_from, and_parts, both_ways, or_parts, or_from, or_right, leb-true, false_from_ne_true, cases_lt}
use Rattle.std.proofs.lemmas.List.{take-append-le, get_or_append_left}
use Rattle.std.proofs.Math.Seq.{get_or-append_seam, take-append_seam}
use Rattle.std.specs.BTreeSet.{contains, BTreeSet, Updates}
use Rattle.std.specs.List.{list_any, enumerate_from}
use Rattle.std.specs.Ordering.{nat_cmp}
use Rattle.row_flaws.specs.declared.structures.Spot.{Spot}
use Rattle.row_flaws.specs.Structures.{passes, passes_some, ends_at, is_end_before, IsNearest, IsSwept}
use Rattle.std.specs.Cmp.{unsigned_ties}

-- one more row among those before
any-more : {X : Type 0} (p : ℕ × X → Bool) (start : ℕ) (xs : List X) (x : X) → list_any p (enumerate_from start (xs ++ x ∷ [])) ≡ (list_any p (enumerate_from start xs) || p (start + length xs, x))
any-more p start [] x = (let e : start + 0 ≡ start = omega arith in last (p (start, x)) ∙ ap (λ n. p (n, x)) (sym e)) where
  last : (b : Bool) → (b || false) ≡ b
  last true = refl
  last false = refl
any-more p start (y ∷ ys) x =
    ap (λ b. p (start, y) || b) (any-more p (start + 1) ys x) ∙ (assoc (p (start, y)) (list_any p (enumerate_from (start + 1) ys)) (p (start + 1 + length ys, x)) ∙
    (let e : start + 1 + length ys ≡ start + suc (length ys) = omega arith in ap (λ n. p (start, y) || list_any p (enumerate_from (start + 1) ys) || p (n, x)) e)) where
      assoc : (a b c : Bool) → (a || (b || c)) ≡ (a || b || c)
      assoc true b c = refl
      assoc false b c = refl

module _ (place size : ℕ) where
  passing : (outer : ℕ × Spot) → place ≤ outer.0 + outer.1.grpsize → outer.0 + outer.1.grpsize < place + size → passes place size outer ≡ true
  passing outer behind before = and_from _ _ (le-leb place (outer.0 + outer.1.grpsize) behind) (lt-ltb (outer.0 + outer.1.grpsize) (place + size) before)

  -- a group that ends before the bound is passed
  end-passed : (end : ℕ) → place ≤ end → end < place + size → (rows : List (ℕ × Spot)) → list_any (ends_at end) rows ≡ true → list_any (passes place size) rows ≡ true
  end-passed end behind before [] h = h
  end-passed end behind before (outer ∷ rows) h = go (ends_at end outer) refl h (end-passed end behind before rows) where
    go : (b : Bool) → ends_at end outer ≡ b → (b || list_any (ends_at end) rows) ≡ true → (list_any (ends_at end) rows ≡ true → list_any (passes place size) rows ≡ true) → (passes place size outer || list_any (passes place size) rows) ≡ true
    go true e h others =
        let same = eqb-true (outer.0 + outer.1.grpsize) end e in
        let p : passes place size outer ≡ true = passing outer (omega (arith, same, behind)) (omega (arith, same, before)) in
        rw p refl
    go false e h others = or_right (passes place size outer) (list_any (passes place size) rows) (others h)

  -- without an end before the bound none is passed
  none-passed : (rows : List (ℕ × Spot)) → ((end : ℕ) → place ≤ end → end < place + size → list_any (ends_at end) rows ≡ false) → list_any (passes place size) rows ≡ false
  none-passed [] none = refl
  none-passed (outer ∷ rows) none = or_from _ _ (false_from_ne_true (passes place size outer) here) (none-passed rows (λ end a b. (or_parts _ _ (none end a b)).1)) where
    here : passes place size outer ≡ true → ⊥
    here h =
        let parts = and_parts _ _ h in
        let behind = leb-true place (outer.0 + outer.1.grpsize) parts.0 in
        let before = ltb-true (outer.0 + outer.1.grpsize) (place + size) parts.1 in
        let differs : ends_at (outer.0 + outer.1.grpsize) outer ≡ false = (or_parts _ _ (none (outer.0 + outer.1.grpsize) behind before)).0 in
        both_ways _ differs (eq-eqb (outer.0 + outer.1.grpsize) (outer.0 + outer.1.grpsize) refl)

-- the nearest end tells it for the place behind some rows
told-behind : (spots : List Spot) (ends : BTreeSet ℕ) → ((end : ℕ) → contains nat_cmp ends end ≡ list_any (ends_at end) (enumerate_from 0 spots)) → (found : Option ℕ) → IsNearest ends (length spots) found → (size : ℕ) → is_end_before (length spots + size) found ≡ list_any (passes (length spots) size) (enumerate_from 0 spots)
told-behind spots ends noted None none size = sym (none-passed (length spots) size (enumerate_from 0 spots) (λ end a b. sym (noted end) ∙ none end a))
told-behind spots ends noted (Some end) found size = go (nat_lt end (length spots + size)) refl where
  go : (b : Bool) → nat_lt end (length spots + size) ≡ b → b ≡ list_any (passes (length spots) size) (enumerate_from 0 spots)
  go true h = sym (end-passed (length spots) size end found.behind (ltb-true end (length spots + size) h) (enumerate_from 0 spots) (sym (noted end) ∙ found.noted))
  go false h = sym (none-passed (length spots) size (enumerate_from 0 spots) far) where
    far : (other : ℕ) → length spots ≤ other → other < length spots + size → list_any (ends_at other) (enumerate_from 0 spots) ≡ false
    far other a b = false_from_ne_true _ (λ k. let l = ltb-false end (length spots + size) h in let least = found.least other a (noted other ∙ k) in absurd (omega (arith, l, least, b)))

-- one more row behind the others
more-swept : (spots : List Spot) (nearest : List (Option ℕ)) (ends more : BTreeSet ℕ) (found : Option ℕ) (spot : Spot) → IsSwept spots nearest ends → IsNearest ends (length spots) found → Updates nat_cmp ends more (length spots + spot.grpsize) true → IsSwept (spots ++ spot ∷ []) (nearest ++ found ∷ []) more
more-swept spots nearest ends more found spot swept closest added = record {
  all = let a = length-append nearest (found ∷ []) in let b = length-append spots (spot ∷ []) in let c = swept.all in omega (arith, a, b, c);
  told = told;
  noted = noted;
} where
  told : (place size : ℕ) → place < length (spots ++ spot ∷ []) → is_end_before (place + size) (get_or (nearest ++ found ∷ []) place None) ≡ passes_some (spots ++ spot ∷ []) place size
  told place size below = elim (cases_lt place (length spots)) [
    | inl before ↦
        let early : place < length nearest = (let c = swept.all in omega (arith, c, before)) in
        let front : take place (spots ++ spot ∷ []) ≡ take place spots = take-append-le place spots (spot ∷ []) (omega (arith, before)) in
        ap (is_end_before (place + size)) (get_or_append_left nearest (found ∷ []) None place early) ∙ (swept.told place size before ∙ ap (λ xs. list_any (passes place size) (enumerate_from 0 xs)) (sym front))
    | inr behind ↦
        let last : place ≡ length spots = (let l = length-append spots (spot ∷ []) in omega (arith, l, below, behind)) in
        subst (λ i. is_end_before (i + size) (get_or (nearest ++ found ∷ []) i None) ≡ passes_some (spots ++ spot ∷ []) i size) (sym last) (at_last size)
  ] where
    at_last : (size : ℕ) → is_end_before (length spots + size) (get_or (nearest ++ found ∷ []) (length spots) None) ≡ passes_some (spots ++ spot ∷ []) (length spots) size
    at_last size =
        ap (is_end_before (length spots + size)) (ap (λ i. get_or (nearest ++ found ∷ []) i None) (sym swept.all) ∙ get_or-append_seam nearest found [] None) ∙
        (told-behind spots ends swept.noted found closest size ∙ ap (λ xs. list_any (passes (length spots) size) (enumerate_from 0 xs)) (sym (take-append_seam spots (spot ∷ []))))

  noted : (end : ℕ) → contains nat_cmp more end ≡ list_any (ends_at end) (enumerate_from 0 (spots ++ spot ∷ []))
  noted end =
      added.0 end ∙ (ap (λ b. cond b true (contains nat_cmp ends end)) (sym (unsigned_ties (length spots + spot.grpsize) end)) ∙
      (flip (nat_eq (length spots + spot.grpsize) end) (contains nat_cmp ends end) ∙ (ap (λ b. b || nat_eq (length spots + spot.grpsize) end) (swept.noted end) ∙
      sym (any-more (ends_at end) 0 spots spot ∙ (let e : 0 + length spots ≡ length spots = omega arith in ap (λ i. list_any (ends_at end) (enumerate_from 0 spots) || nat_eq (i + spot.grpsize) end) e))))) where
        flip : (a b : Bool) → cond a true b ≡ (b || a)
        flip true true = refl
        flip true false = refl
        flip false true = refl
        flip false false = refl

pub swept-more : (spots : List Spot) (nearest : List (Option ℕ)) (ends more : BTreeSet ℕ) (found : Option ℕ) (spot : Spot) (place end : ℕ) → place ≡ length spots → end ≡ length spots + spot.grpsize → IsSwept spots nearest ends → IsNearest ends place found → Updates nat_cmp ends more end true → IsSwept (spots ++ spot ∷ []) (nearest ++ found ∷ []) more
swept-more spots nearest ends more found spot place end behind is swept closest added =
    more-swept spots nearest ends more found spot swept (subst (λ i. IsNearest ends i found) behind closest) (subst (λ i. Updates nat_cmp ends more i true) is added)
