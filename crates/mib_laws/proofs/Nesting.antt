-- Rows whose groups are nested, and how many rows with FIXREP stand in a row.
use Rattle.std.proofs.Common.{◌≡◌, ◌≢◌, ℕ, zero, suc, ◌+◌, ◌<◌, ◌≤◌, cond, if◌then◌else◌, ◌==◌, List, [], ◌∷◌, ◌++◌, length, take, drop, refl, sym, ap, subst, ◌∙◌, nat_eq, append_assoc, arith}
use Rattle.std.proofs.Math.Dec.{eqb-suc-zero}
use Rattle.std.specs.List.{repeat}
use Rattle.mib_model.specs.declared.rows.VpdRow.{VpdRow}
use Rattle.mib_model.specs.Structures.{group_repeated}

-- the groups of the first n rows end among these
abbrev pub Fits : ℕ → List VpdRow → Type 0
Fits zero rows = Unit {0}
Fits (suc n) [] = ⊥
Fits (suc n) (r ∷ rs) = (r.grpsize ≤ n) × Fits n rs

-- each row's group ends among the rows behind it, and the groups within it end in it; repetitions have a group
pub record Row (r : VpdRow) (behind : List VpdRow) : Type 0 where
  pub repeats : r.fixrep ≢ 0 → r.grpsize ≢ 0
  pub fits : Fits r.grpsize behind

abbrev pub Nested : List VpdRow → Type 0
Nested [] = Unit {0}
Nested (r ∷ rs) = Row r rs × Nested rs

-- the rows with FIXREP in front
abbrev pub lead : List VpdRow → ℕ
lead [] = 0
lead (r ∷ rs) = if r.fixrep == 0 then 0 else 1 + lead rs

-- fewer than d rows with FIXREP stand in a row
abbrev pub Short : ℕ → List VpdRow → Type 0
Short d [] = Unit {0}
Short d (r ∷ rs) = (lead (r ∷ rs) < d) × Short d rs

-- what fits among rows fits among these and more
fits-append : (n : ℕ) (xs ys : List VpdRow) → Fits n xs → Fits n (xs ++ ys)
fits-append zero xs ys fits = tt
fits-append (suc n) [] ys fits = absurd fits
fits-append (suc n) (x ∷ xs) ys fits = (fits.0, fits-append n xs ys fits.1)

pub nested-append : (xs ys : List VpdRow) → Nested xs → Nested ys → Nested (xs ++ ys)
nested-append [] ys nested more = more
nested-append (x ∷ xs) ys nested more =
    (record { repeats = nested.0.repeats; fits = fits-append x.grpsize xs ys nested.0.fits }, nested-append xs ys nested.1 more)

pub nested-drop : (n : ℕ) (xs : List VpdRow) → Nested xs → Nested (drop n xs)
nested-drop zero xs nested = nested
nested-drop (suc n) [] nested = nested
nested-drop (suc n) (x ∷ xs) nested = nested-drop n xs nested.1

-- a smaller number of rows among the first
fits-take : (k n : ℕ) (xs : List VpdRow) → k ≤ n → Fits k xs → Fits k (take n xs)
fits-take zero n xs le fits = tt
fits-take (suc k) zero xs le fits = absurd (omega (arith, le))
fits-take (suc k) (suc n) [] le fits = absurd fits
fits-take (suc k) (suc n) (x ∷ xs) le fits = (fits.0, fits-take k n xs (omega (arith, le)) fits.1)

-- the first rows, whose groups end among them
pub nested-take : (n : ℕ) (xs : List VpdRow) → Fits n xs → Nested xs → Nested (take n xs)
nested-take zero xs fits nested = tt
nested-take (suc n) [] fits nested = tt
nested-take (suc n) (x ∷ xs) fits nested =
    (record { repeats = nested.0.repeats; fits = fits-take x.grpsize n xs fits.0 nested.0.fits }, nested-take n xs fits.1 nested.1)

pub nested-repeat : (n : ℕ) (xs : List VpdRow) → Nested xs → Nested (repeat n xs)
nested-repeat zero xs nested = tt
nested-repeat (suc n) xs nested = nested-append xs (repeat n xs) nested (nested-repeat n xs nested)

-- a row with repetitions has a row behind it
no_group : (r : VpdRow) → Row r [] → r.fixrep ≢ 0 → ⊥
no_group r row some = group r.grpsize refl where
  group : (n : ℕ) → r.grpsize ≡ n → ⊥
  group zero is = row.repeats some is
  group (suc n) is = subst (λ k. Fits k []) is row.fits

lead_short : (f n m : ℕ) → (f ≢ 0 → n < m) → cond (nat_eq f 0) 0 (1 + n) < suc m
lead_short zero n m h = omega arith
lead_short (suc f) n m h = let lt : n < m = h (λ e. absurd (omega (arith, e))) in rw (eqb-suc-zero f) (omega (arith, lt))

-- the rows with FIXREP in front end before the rows do
pub lead-below : (x : VpdRow) (xs : List VpdRow) → Nested (x ∷ xs) → lead (x ∷ xs) < suc (length xs)
lead-below x [] nested = lead_short x.fixrep 0 0 (λ some. absurd (no_group x nested.0 some))
lead-below x (y ∷ ys) nested = lead_short x.fixrep (lead (y ∷ ys)) (suc (length ys)) (λ some. lead-below y ys nested.1)

lead_same : (f n m : ℕ) → (f ≢ 0 → n ≡ m) → cond (nat_eq f 0) 0 (1 + n) ≡ cond (nat_eq f 0) 0 (1 + m)
lead_same zero n m h = refl
lead_same (suc f) n m h = let same : n ≡ m = h (λ e. absurd (omega (arith, e))) in rw (eqb-suc-zero f) (ap (λ k. 1 + k) same)

-- rows behind them don't count
pub lead-append : (x : VpdRow) (xs ys : List VpdRow) → Nested (x ∷ xs) → lead ((x ∷ xs) ++ ys) ≡ lead (x ∷ xs)
lead-append x [] ys nested = lead_same x.fixrep (lead ys) 0 (λ some. absurd (no_group x nested.0 some))
lead-append x (y ∷ rows) ys nested = lead_same x.fixrep (lead ((y ∷ rows) ++ ys)) (lead (y ∷ rows)) (λ some. lead-append y rows ys nested.1)

-- nor do rows behind a front whose groups end in it
pub lead-take : (n : ℕ) (x : VpdRow) (xs : List VpdRow) → Fits (suc n) (x ∷ xs) → Nested (x ∷ xs) → lead (take (suc n) (x ∷ xs)) ≡ lead (x ∷ xs)
lead-take n x [] fits nested = lead_same x.fixrep (lead (take n [])) 0 (λ some. absurd (no_group x nested.0 some))
lead-take zero x (y ∷ ys) fits nested =
    lead_same x.fixrep (lead []) (lead (y ∷ ys)) (λ some. absurd (nested.0.repeats some (omega (arith, fits.0))))
lead-take (suc n) x (y ∷ ys) fits nested = lead_same x.fixrep _ (lead (y ∷ ys)) (λ some. lead-take n y ys fits.1 nested.1)

pub short-append : (d : ℕ) (xs ys : List VpdRow) → Nested xs → Short d xs → Short d ys → Short d (xs ++ ys)
short-append d [] ys nested short more = more
short-append d (x ∷ xs) ys nested short more =
    (subst (λ n. n < d) (sym (lead-append x xs ys nested)) short.0, short-append d xs ys nested.1 short.1 more)

pub short-drop : (d n : ℕ) (xs : List VpdRow) → Short d xs → Short d (drop n xs)
short-drop d zero xs short = short
short-drop d (suc n) [] short = short
short-drop d (suc n) (x ∷ xs) short = short-drop d n xs short.1

pub short-take : (d n : ℕ) (xs : List VpdRow) → Fits n xs → Nested xs → Short d xs → Short d (take n xs)
short-take d zero xs fits nested short = tt
short-take d (suc n) [] fits nested short = tt
short-take d (suc n) (x ∷ xs) fits nested short =
    (subst (λ k. k < d) (sym (lead-take n x xs fits nested)) short.0, short-take d n xs fits.1 nested.1 short.1)

pub short-repeat : (d n : ℕ) (xs : List VpdRow) → Nested xs → Short d xs → Short d (repeat n xs)
short-repeat d zero xs nested short = tt
short-repeat d (suc n) xs nested short = short-append d xs (repeat n xs) nested short (short-repeat d n xs nested short)

-- rows that are nested, with fewer than d of FIXREP in a row
pub record Good (d : ℕ) (rows : List VpdRow) : Type 0 where
  pub nested : Nested rows
  pub short : Short d rows

pub good-group : (d size n : ℕ) (rest : List VpdRow) → Fits size rest → Good d rest → Good d (group_repeated size n rest)
good-group d size n rest fits good =
    let front = take size rest in
    let nested = nested-take size rest fits good.nested in
    let again = nested-repeat n front nested in
    record {
      nested = nested-append (repeat n front) (drop size rest) again (nested-drop size rest good.nested);
      short =
          short-append d (repeat n front) (drop size rest) again
          (short-repeat d n front nested (short-take d size rest fits good.nested good.short)) (short-drop d size rest good.short);
    }

-- a group that is walked at least once begins with the rows behind its own
pub lead-group : (size n : ℕ) (rest : List VpdRow) → size ≢ 0 → n ≢ 0 → Fits size rest → Nested rest → lead (group_repeated size n rest) ≡ lead rest
lead-group zero n rest some again fits nested = absurd (some refl)
lead-group (suc size) zero rest some again fits nested = absurd (again refl)
lead-group (suc size) (suc n) [] some again fits nested = absurd fits
lead-group (suc size) (suc n) (x ∷ xs) some again fits nested =
    let front = take (suc size) (x ∷ xs) in
    let behind = drop (suc size) (x ∷ xs) in
    ap lead (append_assoc front (repeat n front) behind) ∙
    (lead-append x (take size xs) (repeat n front ++ behind) (nested-take (suc size) (x ∷ xs) fits nested) ∙ lead-take size x xs fits nested)

-- rows that are nested, d of them at most
pub good-rows : (d : ℕ) (rows : List VpdRow) → Nested rows → length rows ≤ d → Short d rows
good-rows d [] nested le = tt
good-rows d (x ∷ xs) nested le = let below = lead-below x xs nested in (omega (arith, below, le), good-rows d xs nested.1 (omega (arith, le)))
