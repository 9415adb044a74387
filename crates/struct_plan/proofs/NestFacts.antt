-- Rows whose groups are nested.
use Rattle.std.proofs.Common.{◌≡◌, ℕ, zero, suc, ◌+◌, ◌-◌, ◌<◌, ◌≤◌, List, [], ◌∷◌, length, drop, ap, subst, ◌∙◌, arith}
use Rattle.std.proofs.lemmas.List.{drop-drop}
use Rattle.mib_model.specs.declared.rows.VpdRow.{VpdRow}
use Rattle.mib_laws.proofs.Nesting.{Fits, Nested}
use Rattle.struct_plan.specs.Groups.{first_size, size_at}

pub fits-length : (n : ℕ) (rows : List VpdRow) → Fits n rows → n ≤ length rows
fits-length zero rows fits = omega arith
fits-length (suc n) [] fits = absurd fits
fits-length (suc n) (r ∷ rs) fits = let le = fits-length n rs fits.1 in omega (arith, le)

-- behind the first of rows whose groups end among the next so many
pub fits-drop : (j n : ℕ) (rows : List VpdRow) → j ≤ n → Fits n rows → Fits (n - j) (drop j rows)
fits-drop zero n rows le fits = let all : n ≡ n - 0 = omega arith in subst (λ k. Fits k rows) all fits
fits-drop (suc j) zero rows le fits = absurd (omega (arith, le))
fits-drop (suc j) (suc n) [] le fits = absurd fits
fits-drop (suc j) (suc n) (r ∷ rs) le fits =
    let same : n - j ≡ suc n - suc j = omega arith in
    subst (λ k. Fits k (drop j rs)) same (fits-drop j n rs (omega (arith, le)) fits.1)

-- the group of the first of rows that fit
pub first-fits : (n : ℕ) (rows : List VpdRow) → 0 < n → Fits n rows → first_size rows < n
first-fits zero rows some fits = absurd (omega (arith, some))
first-fits (suc n) [] some fits = absurd fits
first-fits (suc n) (r ∷ rs) some fits = let le = fits.0 in omega (arith, le)

-- the rows of a row's group
pub group-fits : (rows : List VpdRow) → Nested rows → (i : ℕ) → Fits (size_at rows i) (drop (i + 1) rows)
group-fits [] nested zero = tt
group-fits [] nested (suc i) = tt
group-fits (r ∷ rs) nested zero = nested.0.fits
group-fits (r ∷ rs) nested (suc i) =
    let same : suc (i + 1) ≡ suc i + 1 = omega arith in
    subst (λ k. Fits (size_at rs i) (drop k (r ∷ rs))) same (group-fits rs nested.1 i)

-- a row among those that a group has
pub within-group : (rows : List VpdRow) → Nested rows → (i at : ℕ) → i < at → at < i + 1 + size_at rows i → at + 1 + size_at rows at ≤ i + 1 + size_at rows i
within-group rows nested i at above below =
    let j : ℕ = at - (i + 1) in
    let fits = fits-drop j (size_at rows i) (drop (i + 1) rows) (omega (arith, above, below)) (group-fits rows nested i) in
    let place : i + 1 + j ≡ at = omega (arith, above) in
    let there : drop j (drop (i + 1) rows) ≡ drop at rows = drop-drop j (i + 1) rows ∙ ap (λ n. drop n rows) place in
    let lt = first-fits (size_at rows i - j) (drop at rows) (omega (arith, above, below)) (subst (λ behind. Fits (size_at rows i - j) behind) there fits) in
    omega (arith, above, below, lt)

-- a row's group among all rows
pub within-rows : (rows : List VpdRow) → Nested rows → (at : ℕ) → at < length rows → at + 1 + size_at rows at ≤ length rows
within-rows [] nested at lt = absurd (omega (arith, lt))
within-rows (r ∷ rs) nested zero lt = let le = fits-length r.grpsize rs nested.0.fits in omega (arith, le)
within-rows (r ∷ rs) nested (suc at) lt = let le = within-rows rs nested.1 at (omega (arith, lt)) in omega (arith, le)

-- the rows from within a group on to its end
pub end-fits : (rows : List VpdRow) → Nested rows → (i at : ℕ) → i < at → at ≤ i + 1 + size_at rows i → Fits (i + 1 + size_at rows i - at) (drop at rows)
end-fits rows nested i at above below =
    let j : ℕ = at - (i + 1) in
    let fits = fits-drop j (size_at rows i) (drop (i + 1) rows) (omega (arith, above, below)) (group-fits rows nested i) in
    let place : i + 1 + j ≡ at = omega (arith, above) in
    let left : size_at rows i - j ≡ i + 1 + size_at rows i - at = omega (arith, above, below) in
    let there : drop j (drop (i + 1) rows) ≡ drop at rows = drop-drop j (i + 1) rows ∙ ap (λ n. drop n rows) place in
    subst (λ n. Fits n (drop at rows)) left (subst (λ behind. Fits (size_at rows i - j) behind) there fits)
