-- The lines that are still to come of a script.
use Rattle.std.proofs.Common.{◌≡◌, IfSome, append-nil, zero-add, nat_eq, ◌∙◌, ℕ, suc, ◌+◌, ◌-◌, ◌<◌, ◌≤◌, true, false, List, [], ◌∷◌, ◌++◌, length, take, Option, Some, None, refl, sym, ap, inl, inr, arith, append_assoc, length-append, nat_le}
use Rattle.std.proofs.Math.Bool.{or-true}
use Rattle.std.proofs.Math.Seq.{take-append-add, take-append_seam}
use Rattle.std.proofs.lemmas.Bool.{cases_Bool}
use Rattle.std.proofs.lemmas.Bool.Decides.{nat_tests}
use Rattle.std.proofs.lemmas.List.{take_all}
use Rattle.std.proofs.lemmas.List.Splits.{length-slice_split, slice_split_at, slice_split_none}
use Rattle.std.specs.List.{slice_split, last_or}
use Rattle.std.specs.Io.KnownBytes.{Consumes, IsAtEnd}
use Rattle.mib_model.specs.Lines.{is_feed}
use Rattle.run_model.specs.Script.{most_script, most_lines, whole_pieces, last_piece, script, reaches_limit}
use Rattle.desk_lines.specs.ToCome.{Reading, reading_start, is_filled, lines_behind, still, meets_limit, HasNoFeed}
use Rattle.desk_lines.specs.Gives.{TakesLine, NoneComes}

-- ---- pieces

front_of : {X : Type 0} (x : X) (ys : List X) → 1 ≤ length ys → take (length (x ∷ ys) - 1) (x ∷ ys) ≡ x ∷ take (length ys - 1) ys
front_of x [] some = absurd (omega (arith, some))
front_of x (y ∷ ys) some =
    let all : length (x ∷ y ∷ ys) - 1 ≡ suc (length ys) = omega arith in
    let others : length (y ∷ ys) - 1 ≡ length ys = omega arith in
    rw (all, others) refl

last_any : {X : Type 0} (o : Option X) (ys : List X) → 1 ≤ length ys → last_or o ys ≡ last_or None ys
last_any o [] some = absurd (omega (arith, some))
last_any o (y ∷ ys) some = refl

some_piece : (octets : List ℕ) → 1 ≤ length (slice_split is_feed octets)
some_piece octets = omega (arith, length-slice_split is_feed octets)

whole-feed : (part rest : List ℕ) → HasNoFeed part → whole_pieces (part ++ 10 ∷ rest) ≡ part ∷ whole_pieces rest
whole-feed part rest none = rw (slice_split_at is_feed part 10 rest none refl) (front_of part (slice_split is_feed rest) (some_piece rest))

last-feed : (part rest : List ℕ) → HasNoFeed part → last_piece (part ++ 10 ∷ rest) ≡ last_piece rest
last-feed part rest none = rw (slice_split_at is_feed part 10 rest none refl, last_any (Some part) (slice_split is_feed rest) (some_piece rest)) refl

whole-none : (part : List ℕ) → HasNoFeed part → whole_pieces part ≡ []
whole-none part none = rw (slice_split_none is_feed part none) refl

last-none : (part : List ℕ) → HasNoFeed part → last_piece part ≡ part
last-none part none = rw (slice_split_none is_feed part none) refl

-- ---- the lines of what is left

lines-feed : (taken : ℕ) (part left : List ℕ) → HasNoFeed part → taken + (length part + 1) ≤ most_script
    → lines_behind taken (part ++ 10 ∷ left) ≡ part ∷ lines_behind (taken + (length part + 1)) left
lines-feed taken part left none fits =
    let sum : taken + length (part ++ 10 ∷ left) ≡ taken + (length part + 1) + length left = omega (arith, length-append part (10 ∷ left)) in
    elim (cases_Bool (nat_le most_script (taken + (length part + 1) + length left))) [
      | inl filled ↦
          let further = most_script - (taken + (length part + 1)) in
          let room : most_script - taken ≡ length part + suc further = omega (arith, fits) in
          rw (sum, filled, room, take-append-add part (10 ∷ left) (suc further)) (whole-feed part (take further left) none)
      | inr not ↦ rw (sum, not, whole-feed part left none, last-feed part left none) refl
    ]

lines-last : (taken : ℕ) (part : List ℕ) → HasNoFeed part → taken + length part < most_script → 0 < length part → lines_behind taken part ≡ part ∷ []
lines-last taken [] none fits some = absurd (omega (arith, some))
lines-last taken (c ∷ cs) none fits some =
    let part_open : nat_le most_script (taken + length (c ∷ cs)) ≡ false = grind (arith, nat_tests, fits) in
    rw (part_open, whole-none (c ∷ cs) none, last-none (c ∷ cs) none) refl

lines-end : (taken : ℕ) → lines_behind taken [] ≡ []
lines-end taken = elim (cases_Bool (nat_le most_script (taken + 0))) [
  | inl filled ↦ rw (filled, take_all {A = ℕ} (most_script - taken) [] (omega arith)) refl
  | inr not ↦ rw not refl
]

lines-cut : (taken : ℕ) (part behind : List ℕ) → HasNoFeed part → taken + length part ≡ most_script → lines_behind taken (part ++ behind) ≡ []
lines-cut taken part behind none full =
    let filled : nat_le most_script (taken + length (part ++ behind)) ≡ true = grind (arith, nat_tests, length-append part behind, full) in
    let room : most_script - taken ≡ length part = omega (arith, full) in
    rw (filled, room, take-append_seam part behind) (whole-none part none)

-- ---- readings

take-one : (lines : ℕ) (line : List ℕ) (behind : List (List ℕ)) → lines < most_lines → take (most_lines - lines) (line ∷ behind) ≡ line ∷ take (most_lines - (lines + 1)) behind
take-one lines line behind few =
    let room : most_lines - lines ≡ suc (most_lines - (lines + 1)) = omega (arith, few) in
    rw room refl

still-feed : (lines taken : ℕ) (part left : List ℕ) → HasNoFeed part → lines < most_lines → taken + (length part + 1) ≤ most_script
    → still (record { lines = lines; octets = taken }) (part ++ 10 ∷ left) ≡ part ∷ still (record { lines = lines + 1; octets = taken + (length part + 1) }) left
unfolding still
still-feed lines taken part left none few fits =
    ap (take (most_lines - lines)) (lines-feed taken part left none fits) ∙ take-one lines part (lines_behind (taken + (length part + 1)) left) few

pub still-end : (r : Reading) → still r [] ≡ []
unfolding still
still-end r = ap (take (most_lines - r.lines)) (lines-end r.octets) ∙ take_all {A = List ℕ} (most_lines - r.lines) [] (omega arith)

still-last : (lines taken further : ℕ) (part : List ℕ) → HasNoFeed part → lines < most_lines → taken + length part < most_script → 0 < length part
    → still (record { lines = lines; octets = taken }) part ≡ part ∷ still (record { lines = lines + 1; octets = further }) []
unfolding still
still-last lines taken further part none few fits some =
    ap (take (most_lines - lines)) (lines-last taken part none fits some) ∙ take-one lines part [] few
    ∙ ap (λ ls. part ∷ take (most_lines - (lines + 1)) ls) (sym (lines-end further))

meets-more : (lines taken further : ℕ) (left line behind : List ℕ)
    → still (record { lines = lines; octets = taken }) left ≡ line ∷ still (record { lines = lines + 1; octets = further }) behind
    → taken + length left ≡ further + length behind
    → meets_limit (record { lines = lines; octets = taken }) left ≡ meets_limit (record { lines = lines + 1; octets = further }) behind
unfolding meets_limit
meets-more lines taken further left line behind first sum =
    let count : lines + length (line ∷ still (record { lines = lines + 1; octets = further }) behind) ≡ lines + 1 + length (still (record { lines = lines + 1; octets = further }) behind) = omega arith in
    rw (sum, first, count) refl

-- ---- lines

First : Reading → Reading → Option (List ℕ) → Option (List ℕ) → List ℕ → Type 0
First was now old new line = IfSome old (λ left. IfSome new (λ behind. (still was left ≡ line ∷ still now behind) × (meets_limit was left ≡ meets_limit now behind)))

first-feed : (lines taken : ℕ) (old new : Option (List ℕ)) (part : List ℕ) → HasNoFeed part → lines < most_lines → taken + (length part + 1) ≤ most_script → Consumes old new (part ++ 10 ∷ [])
    → First (record { lines = lines; octets = taken }) (record { lines = lines + 1; octets = taken + (length part + 1) }) old new part
unfolding First
first-feed lines taken None new part none few fits consumed = tt
first-feed lines taken (Some left) None part none few fits consumed = absurd consumed
first-feed lines taken (Some left) (Some behind) part none few fits consumed =
    let at : left ≡ part ++ (10 ∷ behind) = consumed ∙ append_assoc part (10 ∷ []) behind in
    let first = ap (still (record { lines = lines; octets = taken })) at ∙ still-feed lines taken part behind none few fits in
    (first, meets-more lines taken (taken + (length part + 1)) left part behind first (omega (arith, ap length at, length-append part (10 ∷ behind))))

first-last : (lines taken : ℕ) (old new : Option (List ℕ)) (part : List ℕ) → HasNoFeed part → lines < most_lines → taken + length part < most_script → 0 < length part
    → Consumes old new part → IsAtEnd new
    → First (record { lines = lines; octets = taken }) (record { lines = lines + 1; octets = taken + length part }) old new part
unfolding First
first-last lines taken None new part none few fits some consumed end = tt
first-last lines taken (Some left) None part none few fits some consumed end = absurd consumed
first-last lines taken (Some left) (Some behind) part none few fits some consumed end =
    let at : left ≡ part = consumed ∙ ap (λ b. part ++ b) end ∙ append-nil part in
    let first = ap (still (record { lines = lines; octets = taken })) at ∙ still-last lines taken (taken + length part) part none few fits some
    ∙ ap (λ b. part ∷ still (record { lines = lines + 1; octets = taken + length part }) b) (sym end) in
    (first, meets-more lines taken (taken + length part) left part behind first (omega (arith, ap length at, ap length end)))

firsts : (was now : Reading) (old new : Option (List ℕ)) (line : List ℕ) → First was now old new line → IfSome old (λ left. IfSome new (λ behind. still was left ≡ line ∷ still now behind))
unfolding First
firsts was now None new line first = tt
firsts was now (Some left) None line first = tt
firsts was now (Some left) (Some behind) line first = first.0

limits : (was now : Reading) (old new : Option (List ℕ)) (line : List ℕ) → First was now old new line → IfSome old (λ left. IfSome new (λ behind. meets_limit was left ≡ meets_limit now behind))
unfolding First
limits was now None new line first = tt
limits was now (Some left) None line first = tt
limits was now (Some left) (Some behind) line first = first.1

-- a line that ends with an LF
pub line-feed : (lines taken : ℕ) (old new : Option (List ℕ)) (part : List ℕ) → HasNoFeed part → lines < most_lines → taken + (length part + 1) ≤ most_script → Consumes old new (part ++ 10 ∷ [])
    → TakesLine (record { lines = lines; octets = taken }) (record { lines = lines + 1; octets = taken + (length part + 1) }) old new part
line-feed lines taken old new part none few fits consumed =
    let first = first-feed lines taken old new part none few fits consumed in record {
      no_feed = none;
      taken = part ++ 10 ∷ [];
      is_taken = inl refl;
      consumed = consumed;
      counted = ap (λ n. record { lines = lines + 1; octets = taken + n }) (sym (length-append part (10 ∷ [])));
      first = firsts _ _ old new part first;
      limit = limits _ _ old new part first;
    }

-- the last line, which ends with the script
pub line-last : (lines taken : ℕ) (old new : Option (List ℕ)) (part : List ℕ) → HasNoFeed part → lines < most_lines → taken + length part < most_script → 0 < length part
    → Consumes old new part → IsAtEnd new
    → TakesLine (record { lines = lines; octets = taken }) (record { lines = lines + 1; octets = taken + length part }) old new part
line-last lines taken old new part none few fits some consumed end =
    let first = first-last lines taken old new part none few fits some consumed end in record {
      no_feed = none;
      taken = part;
      is_taken = inr (refl, end);
      consumed = consumed;
      counted = refl;
      first = firsts _ _ old new part first;
      limit = limits _ _ old new part first;
    }

-- ---- no line

-- at the end
pub none-end : (lines taken : ℕ) (old new : Option (List ℕ)) → lines < most_lines → taken < most_script → Consumes old new [] → IsAtEnd new
    → IfSome old (NoneComes false (record { lines = lines; octets = taken }))
unfolding meets_limit
none-end lines taken None new few fits consumed end = tt
none-end lines taken (Some left) None few fits consumed end = absurd consumed
none-end lines taken (Some left) (Some behind) few fits consumed end =
    let at : left ≡ [] = consumed ∙ end in
    let part_open : nat_le most_script (taken + 0) ≡ false = grind (arith, nat_tests, fits) in
    let more : nat_eq (lines + 0) most_lines ≡ false = grind (arith, nat_tests, few) in
    let none = still-end (record { lines = lines; octets = taken }) in
    rw at (record {
      none = none;
      limited = rw (part_open, none, more) refl;
    })

-- after as many lines as are taken
pub none-lines : (lines taken : ℕ) (old : Option (List ℕ)) → lines ≡ most_lines → IfSome old (NoneComes true (record { lines = lines; octets = taken }))
unfolding meets_limit still
none-lines lines taken None all = tt
none-lines lines taken (Some left) all =
    let none : still (record { lines = lines; octets = taken }) left ≡ [] = rw all refl in
    record { none = none; limited = rw (none, all) (or-true (is_filled taken left)) }

-- after as many octets as are taken
pub none-octets : (lines taken : ℕ) (old new : Option (List ℕ)) (part : List ℕ) → HasNoFeed part → taken + length part ≡ most_script → Consumes old new part
    → IfSome old (NoneComes true (record { lines = lines; octets = taken }))
unfolding meets_limit still
none-octets lines taken None new part none full consumed = tt
none-octets lines taken (Some left) None part none full consumed = absurd consumed
none-octets lines taken (Some left) (Some behind) part none full consumed =
    let filled : nat_le most_script (taken + length (part ++ behind)) ≡ true = grind (arith, nat_tests, length-append part behind, full) in
    rw consumed (record {
      none = ap (take (most_lines - lines)) (lines-cut taken part behind none full) ∙ take_all {A = List ℕ} (most_lines - lines) [] (omega arith);
      limited = rw filled refl;
    })

-- ---- the start

pub still-start : (octets : List ℕ) → still reading_start octets ≡ script octets
unfolding still script
still-start octets = rw (zero-add (length octets)) refl

pub limit-start : (octets : List ℕ) → meets_limit reading_start octets ≡ reaches_limit octets
unfolding meets_limit reaches_limit
limit-start octets = rw (zero-add (length octets), still-start octets, zero-add (length (script octets))) refl

-- ---- lines that were handled in between

pub ahead-none : (r : Reading) (left : Option (List ℕ)) → IfSome left (λ l. IfSome left (λ b. still r l ≡ still r b))
ahead-none r None = tt
ahead-none r (Some l) = refl

pub limit-none : (r : Reading) (left : Option (List ℕ)) → IfSome left (λ l. IfSome left (λ b. meets_limit r l ≡ meets_limit r b))
limit-none r None = tt
limit-none r (Some l) = refl

pub ahead-more : (was mid now : Reading) (left place behind : Option (List ℕ)) (given : List ℕ) (handled : List (List ℕ)) (line : List ℕ) → Consumes left place given
    → IfSome left (λ l. IfSome place (λ b. still was l ≡ handled ++ still mid b)) → IfSome place (λ l. IfSome behind (λ b. still mid l ≡ line ∷ still now b))
    → IfSome left (λ l. IfSome behind (λ b. still was l ≡ (handled ++ line ∷ []) ++ still now b))
ahead-more was mid now None place behind given handled line taken first next = tt
ahead-more was mid now (Some l) None behind given handled line taken first next = absurd taken
ahead-more was mid now (Some l) (Some p) None given handled line taken first next = tt
ahead-more was mid now (Some l) (Some p) (Some b) given handled line taken first next =
    first ∙ ap (λ ls. handled ++ ls) next ∙ sym (append_assoc handled (line ∷ []) (still now b))

pub limit-more : (was mid now : Reading) (left place behind : Option (List ℕ)) (given : List ℕ) → Consumes left place given → IfSome left (λ l. IfSome place (λ b. meets_limit was l ≡ meets_limit mid b))
    → IfSome place (λ l. IfSome behind (λ b. meets_limit mid l ≡ meets_limit now b)) → IfSome left (λ l. IfSome behind (λ b. meets_limit was l ≡ meets_limit now b))
limit-more was mid now None place behind given taken first next = tt
limit-more was mid now (Some l) None behind given taken first next = absurd taken
limit-more was mid now (Some l) (Some p) None given taken first next = tt
limit-more was mid now (Some l) (Some p) (Some b) given taken first next = first ∙ next
