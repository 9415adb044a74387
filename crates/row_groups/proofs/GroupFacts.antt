-- The rows of a key, among rows that grow.
use Rattle.std.proofs.Common.{◌≡◌, ℕ, ◌+◌, ◌<◌, Bool, true, false, List, [], ◌∷◌, ◌++◌, take, length, get_or, filter, if◌then◌else◌, refl, ap, ◌∙◌, sym}
use Rattle.std.proofs.lemmas.List.{take_more, append-nil}
use Rattle.std.proofs.lemmas.List.Elements.{filter-append}

-- a row behind others, if it passes
one-more : {R : Type 0} (passes : Bool) (rows : List R) (row : R) → rows ++ (if passes then row ∷ [] else []) ≡ (if passes then rows ++ row ∷ [] else rows)
one-more true rows row = refl
one-more false rows row = append-nil rows

-- one row more
pub filter-more : {R : Type 0} (p : R → Bool) (rows : List R) (i : ℕ) (row : R) → i < length rows → row ≡ get_or rows i row
    → filter p (take (i + 1) rows) ≡ (if p row then filter p (take i rows) ++ row ∷ [] else filter p (take i rows))
filter-more p rows i row below is =
    ap (filter p) (take_more rows i row below) ∙ (filter-append p (take i rows) (get_or rows i row ∷ []) ∙ (ap (λ r. filter p (take i rows) ++ filter p (r ∷ [])) (sym is) ∙ one-more (p row) (filter p (take i rows)) row))
