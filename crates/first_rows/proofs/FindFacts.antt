-- The first row that passes, among rows that grow.
use Rattle.std.proofs.Common.{◌≡◌, ℕ, ◌+◌, ◌<◌, Bool, List, [], ◌∷◌, take, length, get_or, Some, None, if◌then◌else◌, ap, ◌∙◌, sym}
use Rattle.std.proofs.lemmas.List.{take_more}
use Rattle.std.proofs.lemmas.List.Folds.{find-append}
use Rattle.std.specs.List.{find}
use Rattle.std.specs.Option.{option_or}

-- one row more
pub find-more : {R : Type 0} (p : R → Bool) (rows : List R) (i : ℕ) (row : R) → i < length rows → row ≡ get_or rows i row → find p (take (i + 1) rows) ≡ option_or (find p (take i rows)) (if p row then Some row else None)
find-more p rows i row below is =
    ap (find p) (take_more rows i row below) ∙ (find-append p (take i rows) (get_or rows i row ∷ []) ∙ ap (λ r. option_or (find p (take i rows)) (find p (r ∷ []))) (sym is))
