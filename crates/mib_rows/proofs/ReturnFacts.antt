-- The fields of a piece without the one CR at its end.
use Rattle.std.proofs.Common.{◌≡◌, ◌≢◌, ℕ, true, false, List, [], ◌∷◌, length, ap, sym, refl, ◌∙◌, eqb, inl, inr, arith}
use Rattle.std.proofs.lemmas.Bool.{cases_Bool}
use Rattle.std.proofs.lemmas.Bool.Decides.{nat_tests}
use Rattle.std.proofs.lemmas.List.Splits.{join_with_byte-slice_split, length-slice_split}
use Rattle.std.specs.List.{onto_first}
use Rattle.std.specs.Str.Lines.{strip_carriage_return}
use Rattle.mib_model.specs.Lines.{fields, is_tab}
use Rattle.mib_rows.specs.Left.{line_of, without_last_return}

-- an octet in front of others stays
return-behind : (c d : ℕ) (piece : List ℕ) → strip_carriage_return (c ∷ d ∷ piece) ≡ c ∷ strip_carriage_return (d ∷ piece)
return-behind c d piece = grind arith

tab_no_return : (c : ℕ) → eqb c 9 ≡ true → eqb c 13 ≡ false
tab_no_return c tab = grind (arith, nat_tests)

-- the parts of more than nothing
abbrev pub IsFilled : List (List ℕ) → Type 0
IsFilled [] = ⊥
IsFilled ([] ∷ []) = ⊥
IsFilled ((c ∷ part) ∷ []) = Unit {0}
IsFilled (part ∷ next ∷ parts) = Unit {0}

onto_first-filled : (c : ℕ) (parts : List (List ℕ)) → IsFilled (onto_first c parts)
onto_first-filled c [] = tt
onto_first-filled c (part ∷ []) = tt
onto_first-filled c (part ∷ next ∷ parts) = tt

fields-some : (line : List ℕ) → fields line ≢ []
fields-some line none = absurd (omega (arith, length-slice_split is_tab line, ap length none))

fields-filled : (c : ℕ) (line : List ℕ) → IsFilled (fields (c ∷ line))
fields-filled c line = elim (cases_Bool (eqb c 9)) [
  | inl tab ↦ rw tab (nothing-filled (fields line) (fields-some line))
  | inr other ↦ rw other (onto_first-filled c (fields line))
]
  where
    nothing-filled : (parts : List (List ℕ)) → parts ≢ [] → IsFilled ([] ∷ parts)
    nothing-filled [] some = some refl
    nothing-filled (part ∷ parts) some = tt

return-onto_first : (c : ℕ) (parts : List (List ℕ)) → IsFilled parts → without_last_return (onto_first c parts) ≡ onto_first c (without_last_return parts)
return-onto_first c [] filled = absurd filled
return-onto_first c ([] ∷ []) filled = absurd filled
return-onto_first c ((d ∷ part) ∷ []) filled = ap (λ last. last ∷ []) (return-behind c d part)
return-onto_first c (part ∷ next ∷ parts) filled = refl

return-front : (parts : List (List ℕ)) → parts ≢ [] → without_last_return ([] ∷ parts) ≡ [] ∷ without_last_return parts
return-front [] some = absurd (some refl)
return-front (part ∷ parts) some = refl

one-return : (c : ℕ) → fields (strip_carriage_return (c ∷ [])) ≡ without_last_return (fields (c ∷ []))
one-return c = elim (cases_Bool (eqb c 9)) [
  | inl tab ↦ rw (tab_no_return c tab) (rw tab refl)
  | inr other ↦ elim (cases_Bool (eqb c 13)) [
    | inl return ↦ rw (other, return) refl
    | inr inner ↦ rw (other, inner) (rw other refl)
  ]
]

pub fields-return : (piece : List ℕ) → fields (strip_carriage_return piece) ≡ without_last_return (fields piece)
fields-return [] = refl
fields-return (c ∷ []) = one-return c
fields-return (c ∷ d ∷ piece) = ap fields (return-behind c d piece) ∙ elim (cases_Bool (eqb c 9)) [
  | inl tab ↦ rw tab (ap (λ (parts : List (List ℕ)). [] ∷ parts) (fields-return (d ∷ piece)) ∙ sym (return-front (fields (d ∷ piece)) (fields-some (d ∷ piece))))
  | inr other ↦ rw other (ap (onto_first c) (fields-return (d ∷ piece)) ∙ sym (return-onto_first c (fields (d ∷ piece)) (fields-filled d piece)))
]

-- the line of the fields of a piece
pub line-return : (piece : List ℕ) → line_of (without_last_return (fields piece)) ≡ strip_carriage_return piece
line-return piece = ap line_of (sym (fields-return piece)) ∙ join_with_byte-slice_split 9 (strip_carriage_return piece)
