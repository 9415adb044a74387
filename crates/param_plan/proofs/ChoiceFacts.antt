-- The curve of CURTX, else that of the first selection whose condition holds, is that of the slice.
use Rattle.std.proofs.Common.{◌≡◌, ◌∙◌, ℕ, ◌+◌, ◌<◌, ◌≤◌, min, ℤ, Bool, true, false, cond, List, [], ◌∷◌, ◌++◌, Option, Some, None, option_map, option_and_then, find, zip, map, take, length, get_or, refl, sym, ap, arith}
use Rattle.std.proofs.lemmas.List.{take_more, take_all, get_or-map, map-append, length-map}
use Rattle.std.proofs.lemmas.Slice.Zip.{get_or-zip, length-zip}
use Rattle.mib_model.specs.declared.plan.CurveRows.{CurveRows}
use Rattle.mib_model.specs.declared.rows.CurRow.{CurRow}
use Rattle.mib_model.specs.Kept.{Memory, holds}
use Rattle.param_plan.specs.declared.choice.Selection.{Selection}
use Rattle.param_plan.specs.Choices.{is_met, only_curve, selection_of, selections_in}
use Rattle.param_plan.specs.Slices.{curve_by}

beside-same : (memory : Memory) (pairs : List (CurRow × Option CurveRows))
    → option_and_then (λ selection. selection.choice) (find (is_met memory) (map selection_of pairs)) ≡ option_and_then (λ pair. pair.1) (find (λ pair. holds memory pair.0.rlchk pair.0.valpar) pairs)
beside-same memory [] = refl
beside-same memory (pair ∷ pairs) = go (holds memory pair.0.rlchk pair.0.valpar) (beside-same memory pairs) where
  go : (b : Bool) → option_and_then (λ selection. selection.choice) (find (is_met memory) (map selection_of pairs)) ≡ option_and_then (λ pair. pair.1) (find (λ pair. holds memory pair.0.rlchk pair.0.valpar) pairs)
      → option_and_then (λ selection. selection.choice) (cond b (Some (selection_of pair)) (find (is_met memory) (map selection_of pairs))) ≡ option_and_then (λ pair. pair.1) (cond b (Some pair) (find (λ pair. holds memory pair.0.rlchk pair.0.valpar) pairs))
  go true others = refl
  go false others = others

-- the only curve is that of the slice
pub only-same : (memory : Memory) (curtx : Option (List ℕ)) (curs : List CurRow) (curves : List (Option CurveRows)) (rows : CurveRows)
    → only_curve curtx curves ≡ Some rows → curve_by memory curtx curs curves ≡ Some rows
only-same memory None curs curves rows only = absurd (cc only)
only-same memory (Some name) curs curves rows only = only

pub chosen-same : (memory : Memory) (curtx : Option (List ℕ)) (curs : List CurRow) (curves : List (Option CurveRows)) → only_curve curtx curves ≡ None
    → option_and_then (λ selection. selection.choice) (find (is_met memory) (selections_in curtx curs curves)) ≡ curve_by memory curtx curs curves
chosen-same memory (Some name) curs curves only = sym only
chosen-same memory None curs curves only = beside-same memory (zip curs curves)

-- of curves that are seen so
module _ {C : Type 0} (seen : C → CurveRows) where
  -- selections with their curves, so many
  abbrev pub first_selections : List CurRow → List (Option C) → ℕ → List Selection
  first_selections curs curves n = map selection_of (take n (zip curs (map (option_map seen) curves)))

  pub all-selected : (curs : List CurRow) (curves : List (Option C)) (n : ℕ) → n ≡ min (length curs) (length curves) → first_selections curs curves n ≡ map selection_of (zip curs (map (option_map seen) curves))
  all-selected curs curves n is =
      let pairs = zip curs (map (option_map seen) curves) in
      let long : length pairs ≤ n = (let one = length-zip curs (map (option_map seen) curves) in let two : length (map (option_map seen) curves) ≡ length curves = simp length-map in omega (arith, is, one, two)) in
      ap (map selection_of) (take_all n pairs long)

  pub selected-more : (curs : List CurRow) (curves : List (Option C)) (n : ℕ) (cur : CurRow) (curve : Option C) (number : ℤ) (rows : Option CurveRows) (old : List Selection)
      → n < length curs → n < length curves → cur ≡ get_or curs n cur → curve ≡ get_or curves n curve → number ≡ cur.valpar → rows ≡ option_map seen curve → old ≡ first_selections curs curves n
      → old ++ record { rlchk = cur.rlchk; valpar = number; choice = rows } ∷ [] ≡ first_selections curs curves (n + 1)
  selected-more curs curves n cur curve number rows old a b here beside same made so_far =
      let pairs = zip curs (map (option_map seen) curves) in
      let mapped : n < length (map (option_map seen) curves) = (let two : length (map (option_map seen) curves) ≡ length curves = simp length-map in omega (arith, b, two)) in
      let within : n < length pairs = (let one = length-zip curs (map (option_map seen) curves) in omega (arith, a, mapped, one)) in
      let item : get_or pairs n (cur, option_map seen curve) ≡ (cur, option_map seen curve) = get_or-zip curs (map (option_map seen) curves) n (cur, option_map seen curve) a mapped ∙ (λ i. (sym here i, (get_or-map (option_map seen) curves n curve (option_map seen curve) b ∙ ap (option_map seen) (sym beside)) i)) in
      let last : selection_of (get_or pairs n (cur, option_map seen curve)) ≡ record { rlchk = cur.rlchk; valpar = number; choice = rows } = ap selection_of item ∙ (λ i. record { rlchk = cur.rlchk; valpar = sym same i; choice = sym made i }) in
      let whole = ap (map selection_of) (take_more pairs n (cur, option_map seen curve) within) ∙ map-append selection_of (take n pairs) (get_or pairs n (cur, option_map seen curve) ∷ []) in
      sym (whole ∙ (ap (λ c. first_selections curs curves n ++ c ∷ []) last ∙ ap (λ front. front ++ record { rlchk = cur.rlchk; valpar = number; choice = rows } ∷ []) (sym so_far)))
