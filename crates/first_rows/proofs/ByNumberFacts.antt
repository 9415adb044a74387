-- Rows at places, and which of them are the first of their keys.
use Rattle.std.proofs.Common.{◌≡◌, Bool, true, false, List, [], ◌∷◌, Option, Some, None, refl, sym, ◌∙◌}
use Rattle.std.proofs.lemmas.Option.{none-some}
use Rattle.std.specs.Cmp.{IsEquivalence}
use Rattle.std.specs.List.{find}
use Rattle.std.specs.Option.{option_eq}
use Rattle.first_rows.specs.ByNumbers.{AreFree, IsAtHand, IsFirst}

-- at free places stands nothing
pub none-at : {R A : Type 0} (places : List (Option R)) (row : R) → AreFree places → IsAtHand places row → A
none-at places row free hand = absurd (none-some row (sym (free hand.0) ∙ hand.1))

-- what is found passes
first-passes : {R : Type 0} (p : R → Bool) (rows : List R) (row : R) → find p rows ≡ Some row → p row ≡ true
first-passes p [] row is = absurd (none-some row is)
first-passes {R} p (r ∷ rs) row is = go (p r) refl (first-passes p rs row) where
  go : (b : Bool) → p r ≡ b → (find p rs ≡ Some row → p row ≡ true) → p row ≡ true
  go true h others = let same : Some r ≡ Some row = rw h at is in cc (same, h)
  go false h others = others (rw h at is)

module _ {K R : Type 0} (eq : K → K → Bool) (laws : IsEquivalence eq) (key_of : R → Option K) where
  abbrev test : K → R → Bool
  test key row = option_eq eq (key_of row) (Some key)

  -- keys that are equal to one are equal
  joined : (own : Option K) (key other : K) → option_eq eq own (Some key) ≡ true → option_eq eq own (Some other) ≡ true → eq key other ≡ true
  joined None key other a b = absurd (cc a)
  joined (Some x) key other a b = sym (laws.congr x key other a) ∙ b

  -- the tests of keys that are equal agree
  agree : (own : Option K) (key other : K) → eq key other ≡ true → option_eq eq own (Some key) ≡ option_eq eq own (Some other)
  agree None key other same = refl
  agree (Some x) key other same = laws.symm x key ∙ laws.congr key other x same ∙ laws.symm other x

  -- the first row of a key is the first of each key that it has
  pub found-first : (rows : List R) (key : K) (row : R) → find (test key) rows ≡ Some row → IsFirst test rows row
  found-first rows key row found = λ other passes.
      let same : eq key other ≡ true = joined (key_of row) key other (first-passes (test key) rows row found) passes in
      (λ i. find (λ r. sym (agree (key_of r) key other same) i) rows) ∙ found
