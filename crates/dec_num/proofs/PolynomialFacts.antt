-- The sum of a polynomial, one coefficient after another.
use Rattle.std.proofs.Common.{◌≡◌, ℕ, suc, ◌+◌, ◌-◌, ◌<◌, ◌≤◌, ◌≢◌, Bool, true, false, cond, eqb, List, [], ◌∷◌, length, take, drop, reverse, get_or, fold, Some, None, Err, max, refl, inl, inr, sym, ap, ◌∙◌, arith}
use Rattle.std.specs.Prelude.{ℤ, pos, ◌+ℤ◌, ◌*ℤ◌, ◌||◌, map, Option, option_and_then, Result}
use Rattle.std.specs.List.{list_any, suffix_len, prefix_len, scan, zip}
use Rattle.std.proofs.Math.Seq.{drop-cons}
use Rattle.std.proofs.Math.Numerals.{add-one}
use Rattle.std.proofs.lemmas.Bool.Decides.{nat_tests}
use Rattle.std.proofs.lemmas.Bool.{cases_Bool, eqb-true, eqb-false}
use Rattle.std.proofs.lemmas.Int.{ints}
use Rattle.std.proofs.lemmas.List.Sums.{suffix_len-le-length}
use Rattle.std.proofs.lemmas.List.{reverse-append, length-reverse}
use Rattle.std.proofs.lemmas.List.Folds.{prefix_len-append}
use Rattle.mib_model.specs.declared.number.Dec.{Dec}
use Rattle.mib_model.specs.declared.number.Over.{Over}
use Rattle.mib_model.specs.Calibrated.{is_wide, is_wide_result, bounded}
use Rattle.mib_model.specs.Polynomials.{is_zero, up_to_degree, powers_from, to_count, has_wide_step, summed, at_scale, scale_of, polynomial}
use Rattle.dec_num.specs.Narrow.{narrow, narrow_result, or_over}
use Rattle.dec_num.specs.Sums.{without_zeros, advanced, sum_behind}

-- what the sum behind some coefficients is, by the next of them
pub sum_behind_more : (raw p s : ℤ) (rest : List ℤ) (i : ℕ) (d : ℤ) → i < length rest
    → sum_behind raw p s (drop i rest) ≡ option_and_then (λ (next, more). sum_behind raw next more (drop (i + 1) rest)) (advanced raw p s (get_or rest i d))
sum_behind_more raw p s rest i d inside = rw (add-one, drop-cons rest i d) refl

-- the terms of coefficients, the first of which has this power
abbrev terms_from : ℤ → ℤ → List ℤ → List ℤ
terms_from raw p cs = map (λ pair. pair.0 *ℤ pair.1) (zip cs (powers_from raw p (length cs)))

narrow_none : (z : ℤ) → is_wide z ≡ true → narrow z ≡ None
narrow_none z wide = rw wide refl

narrow_some : (z : ℤ) → is_wide z ≡ false → narrow z ≡ Some z
narrow_some z less = rw less refl

plus : ℤ → ℤ → ℤ
plus a b = a +ℤ b

-- whether a power, a term or a sum of coefficients behind others is too wide
abbrev wide_from : ℤ → ℤ → ℤ → List ℤ → Bool
wide_from raw p s cs = list_any is_wide (powers_from raw p (length cs)) || list_any is_wide (terms_from raw p cs) || list_any is_wide (scan (λ sum t. sum +ℤ t) (λ sum t. sum +ℤ t) s (terms_from raw p cs))

abbrev total_from : ℤ → ℤ → ℤ → List ℤ → ℤ
total_from raw p s cs = fold (λ sum t. sum +ℤ t) s (terms_from raw p cs)

second : (a b : Bool) (t : ℤ) → None ≡ cond (a || true || b) None (Some t)
second true b t = refl
second false b t = refl

third : (a b : Bool) (t : ℤ) → None ≡ cond (a || b || true) None (Some t)
third true b t = refl
third false true t = refl
third false false t = refl

behind_is : (raw p s : ℤ) (cs : List ℤ) → sum_behind raw p s cs ≡ cond (wide_from raw (p *ℤ raw) s cs) None (Some (total_from raw (p *ℤ raw) s cs))
behind_is raw p s [] = refl
behind_is raw p s (c ∷ cs) = elim (cases_Bool (is_wide (p *ℤ raw))) [
  | inl wide ↦ rw wide refl
  | inr first ↦ elim (cases_Bool (is_wide (c *ℤ (p *ℤ raw)))) [
    | inl wide ↦ rw (first, wide) (second (list_any is_wide (powers_from raw (p *ℤ raw *ℤ raw) (length cs))) _ _)
    | inr less ↦ elim (cases_Bool (is_wide (s +ℤ c *ℤ (p *ℤ raw)))) [
      | inl wide ↦ rw (first, less, wide) (third (list_any is_wide (powers_from raw (p *ℤ raw *ℤ raw) (length cs))) (list_any is_wide (terms_from raw (p *ℤ raw *ℤ raw) cs)) _)
      | inr last ↦ rw (first, less, last) (behind_is raw (p *ℤ raw) (s +ℤ c *ℤ (p *ℤ raw)) cs)
    ]
  ]
]

zeros-cons : (c : ℤ) (cs : List ℤ) → suffix_len is_zero (c ∷ cs) ≡ cond (eqb (suffix_len is_zero cs) (length cs)) (length cs + cond (is_zero c) (1 + 0) 0) (suffix_len is_zero cs)
zeros-cons c cs =
    ap (prefix_len is_zero) (reverse-append (c ∷ []) cs) ∙ prefix_len-append is_zero (reverse cs) (c ∷ []) ∙
    ap (λ (n : ℕ). cond (eqb (suffix_len is_zero cs) n) (n + cond (is_zero c) (1 + 0) 0) (suffix_len is_zero cs)) (length-reverse cs)

zeros_below : (cs : List ℤ) → suffix_len is_zero cs ≤ length cs
zeros_below cs = suffix_len-le-length is_zero cs

cut : (c : ℤ) (cs : List ℤ) (k j : ℕ) → k ≡ suc j → take k (c ∷ cs) ≡ c ∷ take j cs
cut c cs k j e = rw e refl

cut_none : (cs : List ℤ) (k : ℕ) → k ≡ 0 → take k cs ≡ []
cut_none cs k e = rw e refl

kept_of : (c : ℤ) (cs : List ℤ) (b z : Bool) (n s both : ℕ) → (b ≡ true → s ≡ n) → (b ≡ false → s ≢ n) → s ≤ n → both ≡ cond b (n + cond z (1 + 0) 0) s
    → take (suc n - both) (c ∷ cs) ≡ cond b (cond z [] (c ∷ [])) (c ∷ take (n - s) cs)
kept_of c cs true true n s both all some below e = cut_none (c ∷ cs) (suc n - both) (omega arith)
kept_of c cs true false n s both all some below e = cut c cs (suc n - both) 0 (omega arith)
kept_of c cs false z n s both all some below e = let other = some refl in cut c cs (suc n - both) (n - s) (omega arith)

without_zeros-cons : (c : ℤ) (cs : List ℤ) → without_zeros (c ∷ cs) ≡ cond (eqb (suffix_len is_zero cs) (length cs)) (cond (is_zero c) [] (c ∷ [])) (c ∷ without_zeros cs)
without_zeros-cons c cs =
    kept_of c cs (eqb (suffix_len is_zero cs) (length cs)) (is_zero c) (length cs) (suffix_len is_zero cs) (suffix_len is_zero (c ∷ cs))
    (eqb-true (suffix_len is_zero cs) (length cs)) (eqb-false (suffix_len is_zero cs) (length cs)) (zeros_below cs) (zeros-cons c cs)

degree_of : (z : Bool) (n s both : ℕ) → s ≤ n → both ≡ cond (eqb s n) (n + cond z (1 + 0) 0) s → max 1 (suc n - both) ≡ suc (n - s)
degree_of z n s both below e = grind (arith, nat_tests)

-- coefficients up to the degree: the first, and those behind it without the zeros at the end
up_to_degree-cons : (c : ℤ) (cs : List ℤ) → up_to_degree (c ∷ cs) ≡ c ∷ without_zeros cs
up_to_degree-cons c cs =
    cut c cs (max 1 (suc (length cs) - suffix_len is_zero (c ∷ cs))) (length cs - suffix_len is_zero cs)
    (degree_of (is_zero c) (length cs) (suffix_len is_zero cs) (suffix_len is_zero (c ∷ cs)) (zeros_below cs) (zeros-cons c cs))

zero_is_narrow : (c : ℤ) → is_zero c ≡ true → is_wide c ≡ false
zero_is_narrow c zero_c = grind (arith, nat_tests)

wide_of : (c : ℤ) (cs ks : List ℤ) (b z : Bool) → z ≡ is_zero c → (b ≡ true → ks ≡ []) → list_any is_wide ks ≡ list_any is_wide cs
    → list_any is_wide (cond b (cond z [] (c ∷ [])) (c ∷ ks)) ≡ (is_wide c || list_any is_wide cs)
wide_of c cs ks true true e none same =
    let narrow_c = zero_is_narrow c (sym e) in
    let no : list_any is_wide cs ≡ false = sym same ∙ ap (list_any is_wide) (none refl) in
    rw (narrow_c, no) refl
wide_of c cs ks true false e none same =
    let no : list_any is_wide cs ≡ false = sym same ∙ ap (list_any is_wide) (none refl) in
    rw no refl
wide_of c cs ks false z e none same = ap (λ (b : Bool). is_wide c || b) same

-- the zeros at the end aren't too wide
wide-without_zeros : (cs : List ℤ) → list_any is_wide (without_zeros cs) ≡ list_any is_wide cs
wide-without_zeros [] = refl
wide-without_zeros (c ∷ cs) =
    ap (list_any is_wide) (without_zeros-cons c cs) ∙
    wide_of c cs (without_zeros cs) (eqb (suffix_len is_zero cs) (length cs)) (is_zero c) refl
    (λ all. cut_none cs (length cs - suffix_len is_zero cs) (let e = eqb-true (suffix_len is_zero cs) (length cs) all in omega arith)) (wide-without_zeros cs)

answer : ℕ → Option ℤ → Result ℤ Over
answer scale None = Err (record {})
answer scale (Some sum) = bounded false (to_count scale sum)

summed_over : (scale : ℕ) (raw : ℤ) (cs : List ℤ) → list_any is_wide cs ≡ true → Err (record {}) ≡ summed scale raw cs
summed_over scale raw cs wide = rw wide refl

-- a polynomial with a coefficient that is too wide
pub summed_wide : (scale : ℕ) (raw c : ℤ) (cs : List ℤ) → list_any is_wide (c ∷ cs) ≡ true → Err (record {}) ≡ summed scale raw (up_to_degree (c ∷ cs))
summed_wide scale raw c cs wide =
    summed_over scale raw (up_to_degree (c ∷ cs)) (ap (list_any is_wide) (up_to_degree-cons c cs) ∙ ap (λ (b : Bool). is_wide c || b) (wide-without_zeros cs) ∙ wide)

answer_of : (scale : ℕ) (wide : Bool) (sum : ℤ) → answer scale (cond wide None (Some sum)) ≡ bounded wide (to_count scale sum)
unfolding answer
answer_of scale true sum = refl
answer_of scale false sum = refl

times_one : (c : ℤ) → c *ℤ pos 1 ≡ c
times_one c = omega (arith, ints)

zero_plus : (c : ℤ) → pos 0 +ℤ c ≡ c
zero_plus c = omega (arith, ints)

steps_of : (raw c : ℤ) (cs : List ℤ) → is_wide c ≡ false → list_any is_wide cs ≡ false → wide_from raw (pos 1 *ℤ raw) c cs ≡ has_wide_step raw (c ∷ cs)
steps_of raw c cs first rest = rw (times_one c, zero_plus c, first, rest) refl

sum_of : (scale : ℕ) (raw c : ℤ) (cs : List ℤ) → is_wide c ≡ false → list_any is_wide cs ≡ false → answer scale (sum_behind raw (pos 1) c cs) ≡ summed scale raw (c ∷ cs)
sum_of scale raw c cs first rest =
    ap (answer scale) (behind_is raw (pos 1) c cs) ∙ answer_of scale (wide_from raw (pos 1 *ℤ raw) c cs) (total_from raw (pos 1 *ℤ raw) c cs) ∙
    ap (λ (b : Bool). bounded b (to_count scale (total_from raw (pos 1 *ℤ raw) c cs))) (steps_of raw c cs first rest) ∙
    ap (λ (z : ℤ). bounded (has_wide_step raw (c ∷ cs)) (to_count scale (total_from raw (pos 1 *ℤ raw) z cs))) (sym (ap (λ (z : ℤ). pos 0 +ℤ z) (times_one c) ∙ zero_plus c))

summed_any : (scale : ℕ) (raw : ℤ) (cs : List ℤ) → list_any is_wide cs ≡ true → Err (record {}) ≡ summed scale raw (up_to_degree cs)
summed_any scale raw [] wide = cc
summed_any scale raw (c ∷ cs) wide = summed_wide scale raw c cs wide

summed_some : (scale : ℕ) (raw c : ℤ) (cs : List ℤ) → list_any is_wide (c ∷ cs) ≡ false → answer scale (sum_behind raw (pos 1) c (without_zeros cs)) ≡ summed scale raw (up_to_degree (c ∷ cs))
summed_some scale raw c cs narrow_all =
    let first : is_wide c ≡ false = grind (arith, nat_tests) in
    let rest : list_any is_wide cs ≡ false = grind (arith, nat_tests) in
    sum_of scale raw c (without_zeros cs) first (wide-without_zeros cs ∙ rest) ∙ ap (summed scale raw) (sym (up_to_degree-cons c cs))

-- a polynomial with a coefficient that is too wide
pub polynomial-wide : (decs : List Dec) (raw : ℤ) → list_any is_wide (at_scale (scale_of decs) decs) ≡ true → Err (record {}) ≡ polynomial decs raw
unfolding polynomial
polynomial-wide decs raw wide = summed_any (scale_of decs) raw (at_scale (scale_of decs) decs) wide

polynomial-behind : (decs : List Dec) (raw c : ℤ) (cs : List ℤ) (sum : Option ℤ) → c ∷ cs ≡ at_scale (scale_of decs) decs → list_any is_wide (at_scale (scale_of decs) decs) ≡ false
    → sum ≡ sum_behind raw (pos 1) c (without_zeros cs) → answer (scale_of decs) sum ≡ polynomial decs raw
unfolding polynomial
polynomial-behind decs raw c cs sum same narrow_all behind =
    ap (answer (scale_of decs)) behind ∙ summed_some (scale_of decs) raw c cs (ap (list_any is_wide) same ∙ narrow_all) ∙
    ap (λ (zs : List ℤ). summed (scale_of decs) raw (up_to_degree zs)) same

-- a polynomial with a later step that is too wide
pub polynomial-none : (decs : List Dec) (raw c : ℤ) (cs : List ℤ) → c ∷ cs ≡ at_scale (scale_of decs) decs → list_any is_wide (at_scale (scale_of decs) decs) ≡ false
    → None ≡ sum_behind raw (pos 1) c (without_zeros cs) → Err (record {}) ≡ polynomial decs raw
unfolding answer
polynomial-none decs raw c cs same narrow_all none = polynomial-behind decs raw c cs None same narrow_all none

bounded_result : (z : ℤ) → or_over (narrow_result z) ≡ bounded false z
bounded_result z = elim (cases_Bool (is_wide_result z)) [ inl wide ↦ rw wide refl | inr less ↦ rw less refl ]

-- a polynomial whose steps are all narrow
pub polynomial-some : (decs : List Dec) (raw c : ℤ) (cs : List ℤ) (sum : ℤ) → c ∷ cs ≡ at_scale (scale_of decs) decs → list_any is_wide (at_scale (scale_of decs) decs) ≡ false
    → Some sum ≡ sum_behind raw (pos 1) c (without_zeros cs) → or_over (narrow_result (to_count (scale_of decs) sum)) ≡ polynomial decs raw
unfolding answer
polynomial-some decs raw c cs sum same narrow_all some =
    bounded_result (to_count (scale_of decs) sum) ∙ polynomial-behind decs raw c cs (Some sum) same narrow_all some

-- the sum behind coefficients stops where the next step is too wide, and else goes on
pub sum_behind-stops : (raw p s : ℤ) (rest : List ℤ) (i : ℕ) (d : ℤ) (whole : Option ℤ) → i < length rest → None ≡ advanced raw p s (get_or rest i d)
    → sum_behind raw p s (drop i rest) ≡ whole → None ≡ whole
sum_behind-stops raw p s rest i d whole inside none same = ap (option_and_then (λ (next, more). sum_behind raw next more (drop (i + 1) rest))) none ∙ sym (sum_behind_more raw p s rest i d inside) ∙ same

pub sum_behind-goes_on : (raw p s next more : ℤ) (rest : List ℤ) (i : ℕ) (d : ℤ) (whole : Option ℤ) → i < length rest → Some (next, more) ≡ advanced raw p s (get_or rest i d)
    → sum_behind raw p s (drop i rest) ≡ whole → sum_behind raw next more (drop (i + 1) rest) ≡ whole
sum_behind-goes_on raw p s next more rest i d whole inside some same = ap (option_and_then (λ (next, more). sum_behind raw next more (drop (i + 1) rest))) some ∙ sym (sum_behind_more raw p s rest i d inside) ∙ same
