-- Rows that are walked several times, and groups that are nested.
use Rattle.std.proofs.Common.{◌≡◌, ◌∙◌, ℕ, zero, suc, ◌+◌, ◌-◌, ◌<◌, ◌≤◌, List, [], ◌∷◌, ◌++◌, length, length-append, take, drop, get_or, refl, sym, ap, append_assoc, arith, subst}
use Rattle.std.proofs.lemmas.List.{append-nil, drop-append-le, take-append-le}
use Rattle.std.proofs.lemmas.List.Sums.{fold-append}
use Rattle.std.proofs.lemmas.List.Elements.{All-get_or}
use Rattle.std.specs.List.{All, repeat}
use Rattle.mib_model.specs.declared.rows.VpdRow.{VpdRow}
use Rattle.mib_model.specs.Structures.{group_repeated}
use Rattle.row_searches.specs.Nesting.{AreNested, Holds}
use Rattle.row_walk.specs.Stacked.{IsRounds, rows_to_walk}
use Rattle.row_walk.specs.declared.to_walk.Rounds.{Rounds}

-- ---- rows that are walked several times

none-repeated : (n : ℕ) → repeat {A = VpdRow} n [] ≡ []
none-repeated zero = refl
none-repeated (suc n) = none-repeated n

pub no-rows : (n : ℕ) (rows behind : List VpdRow) → length rows ≡ 0 → behind ≡ repeat n rows ++ behind
no-rows n [] behind none = ap (λ (front : List VpdRow). front ++ behind) (sym (none-repeated n))
no-rows n (row ∷ rows) behind none = absurd (omega (arith, none))

pub no-rounds : (n : ℕ) (rows behind : List VpdRow) → n ≡ 0 → behind ≡ repeat n rows ++ behind
no-rounds zero rows behind none = refl
no-rounds (suc n) rows behind none = absurd (omega (arith, none))

at-end : (rounds : List Rounds) (r : Rounds) → get_or (rounds ++ r ∷ []) (length rounds) r ≡ r
at-end [] r = refl
at-end (x ∷ rounds) r = at-end rounds r

pub last-rounds : (rounds : List Rounds) (r : Rounds) → All IsRounds (rounds ++ r ∷ []) → IsRounds r
last-rounds rounds r all = subst IsRounds (at-end rounds r) (All-get_or IsRounds (rounds ++ r ∷ []) (length rounds) r (omega (arith, length-append rounds (r ∷ []))) all)

-- rounds on top come first
pub one-more : (rounds : List Rounds) (r : Rounds) → rows_to_walk (rounds ++ r ∷ []) ≡ repeat r.times r.rows.now ++ rows_to_walk rounds
one-more rounds r = fold-append (λ (behind : List VpdRow) (r : Rounds). repeat r.times r.rows.now ++ behind) [] rounds (r ∷ [])

-- rows that are walked once
pub once : (rows : List VpdRow) → repeat 1 rows ≡ rows
once rows = append-nil rows

-- the first row, those behind it, and the rounds that are left
pub next-row : (times : ℕ) (rows behind : List VpdRow) (d : VpdRow) → 0 < times → 0 < length rows
    → repeat times rows ++ behind ≡ get_or rows 0 d ∷ drop 1 rows ++ (repeat (times - 1) rows ++ behind)
next-row zero rows behind d some any = absurd (omega (arith, some))
next-row (suc n) [] behind d some any = absurd (omega (arith, any))
next-row (suc n) (row ∷ rows) behind d some any =
    let less : suc n - 1 ≡ n = omega arith in
    append_assoc (row ∷ rows) (repeat n (row ∷ rows)) behind ∙ ap (λ (k : ℕ). (row ∷ rows) ++ (repeat k (row ∷ rows) ++ behind)) (sym less)

-- the rows of a group some times, and then those behind it
pub group-is : (size times : ℕ) (rows behind : List VpdRow) → size ≤ length rows
    → repeat times (take size rows) ++ (repeat 1 (drop size rows) ++ behind) ≡ group_repeated size times (rows ++ behind)
group-is size times rows behind fits =
    ap (λ (more : List VpdRow). repeat times (take size rows) ++ (more ++ behind)) (once (drop size rows))
    ∙ (ap (λ (group : List VpdRow). repeat times group ++ (drop size rows ++ behind)) (sym (take-append-le size rows behind fits))
    ∙ ap (λ (more : List VpdRow). repeat times (take size (rows ++ behind)) ++ more) (sym (drop-append-le size rows behind fits)))

-- ---- groups that are nested

pub holds-few : (n : ℕ) (rows : List VpdRow) → Holds n rows → n ≤ length rows
holds-few zero rows holds = omega arith
holds-few (suc n) [] holds = absurd holds
holds-few (suc n) (row ∷ rows) holds = let few = holds-few n rows holds.1 in omega (arith, few)

holds-take : (k n : ℕ) (rows : List VpdRow) → k ≤ n → Holds k rows → Holds k (take n rows)
holds-take zero n rows le holds = tt
holds-take (suc k) zero rows le holds = absurd (omega (arith, le))
holds-take (suc k) (suc n) [] le holds = absurd holds
holds-take (suc k) (suc n) (row ∷ rows) le holds = (holds.0, holds-take k n rows (omega (arith, le)) holds.1)

pub nested-take : (n : ℕ) (rows : List VpdRow) → Holds n rows → AreNested rows → AreNested (take n rows)
nested-take zero rows holds nested = tt
nested-take (suc n) [] holds nested = absurd holds
nested-take (suc n) (row ∷ rows) holds nested = (holds-take row.grpsize n rows holds.0 nested.0, nested-take n rows holds.1 nested.1)

pub nested-drop : (n : ℕ) (rows : List VpdRow) → AreNested rows → AreNested (drop n rows)
nested-drop zero rows nested = nested
nested-drop (suc n) [] nested = tt
nested-drop (suc n) (row ∷ rows) nested = nested-drop n rows nested.1

-- rows by their first
pub first-rest : (rows : List VpdRow) (d : VpdRow) → 0 < length rows → rows ≡ get_or rows 0 d ∷ drop 1 rows
first-rest [] d some = absurd (omega (arith, some))
first-rest (row ∷ rows) d some = refl
