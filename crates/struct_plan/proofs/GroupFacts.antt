-- The rows still to walk with groups round a place.
use Rattle.std.proofs.Common.{◌≡◌, ℕ, zero, suc, ◌+◌, ◌-◌, ◌<◌, ◌≤◌, nat_lt, Bool, true, false, cond, nat_eq, List, [], ◌∷◌, ◌++◌, length, take, drop, refl, sym, ap, subst, ◌∙◌, arith}
use Rattle.std.proofs.lemmas.Bool.{eqb-true, eqb-false, lt-ltb}
use Rattle.std.proofs.lemmas.List.{append_assoc, append-nil, take-append-drop, drop-drop, length-drop, length-take-le, take-take, take-append-le, drop-append-le, drop-take}
use Rattle.std.specs.List.{repeat}
use Rattle.mib_model.specs.declared.rows.VpdRow.{VpdRow}
use Rattle.mib_model.specs.Structures.{group_repeated}
use Rattle.mib_laws.proofs.Nesting.{Nested}
use Rattle.struct_plan.specs.declared.group.RowGroup.{RowGroup}
use Rattle.struct_plan.specs.Groups.{size_at, end_of, body, still_to_walk, Enclose, Ahead, once_less, settled_at, settled, entered_at, entered}
use Rattle.struct_plan.proofs.NestFacts.{within-group, within-rows}

-- numbers above 1
more : (n : ℕ) → nat_lt 1 (suc (suc n)) ≡ true
more n = lt-ltb 1 (suc (suc n)) (omega arith)

not_none : (n : ℕ) (b : Bool) → nat_eq (suc (suc n)) 0 ≡ b → b ≡ false
not_none n false is = refl
not_none n true is = let same = eqb-true (suc (suc n)) 0 is in absurd (omega (arith, same))

less : (n : ℕ) → suc (suc n) - 1 ≡ suc n
less n = omega arith

not_one : (n : ℕ) (b : Bool) → nat_eq (suc (suc n)) 1 ≡ b → b ≡ false
not_one n false is = refl
not_one n true is = let same = eqb-true (suc (suc n)) 1 is in absurd (omega (arith, same))

module _ (rows : List VpdRow) where
  -- groups that hold some rows hold fewer
  pub enclose-fewer : (low high low' high' : ℕ) (gs : List RowGroup) → low ≤ low' → high' ≤ high → Enclose rows low high gs → Enclose rows low' high' gs
  enclose-fewer low high low' high' [] up down around = omega (arith, down, around)
  enclose-fewer low high low' high' (g ∷ gs) up down around =
      let a = around.0 in let b = around.1 in
      (omega (arith, up, a), omega (arith, down, b), around.2, around.3, around.4)

  pub enclose-length : (low high : ℕ) (gs : List RowGroup) → Enclose rows low high gs → high ≤ length rows
  enclose-length low high [] around = around
  enclose-length low high (g ∷ gs) around = let le = enclose-length g.row (end_of rows g) gs around.4 in let b = around.1 in omega (arith, le, b)

  -- the innermost of them
  pub enclose-take : (n low high : ℕ) (gs : List RowGroup) → Enclose rows low high gs → Enclose rows low high (take n gs)
  enclose-take zero low high gs around = enclose-length low high gs around
  enclose-take (suc n) low high [] around = around
  enclose-take (suc n) low high (g ∷ gs) around = (around.0, around.1, around.2, around.3, enclose-take n g.row (end_of rows g) gs around.4)

  -- the next rows that lie in the innermost group
  pub take-still : (low at k : ℕ) (gs : List RowGroup) → Enclose rows low (at + k) gs → take k (still_to_walk rows at gs) ≡ take k (drop at rows)
  take-still low at k [] around = refl
  take-still low at k (g ∷ gs) around =
      let e = end_of rows g in
      let more : List VpdRow = repeat g.left (body rows g) ++ still_to_walk rows e gs in
      let b = around.1 in
      let le = enclose-length g.row e gs around.4 in
      let front : length (take (e - at) (drop at rows)) ≡ e - at = length-take-le (e - at) (drop at rows) (omega (arith, length-drop at rows, le)) in
      ap (take k) (append_assoc (take (e - at) (drop at rows)) (repeat g.left (body rows g)) (still_to_walk rows e gs)) ∙
      (take-append-le k (take (e - at) (drop at rows)) more (omega (arith, front, b)) ∙ take-take k (e - at) (drop at rows) (omega (arith, b)))

  -- the rows behind them
  pub drop-still : (low at k : ℕ) (gs : List RowGroup) → Enclose rows low (at + k) gs → drop k (still_to_walk rows at gs) ≡ still_to_walk rows (at + k) gs
  drop-still low at k [] around = drop-drop k at rows
  drop-still low at k (g ∷ gs) around =
      let e = end_of rows g in
      let reps : List VpdRow = repeat g.left (body rows g) in
      let behind : List VpdRow = still_to_walk rows e gs in
      let b = around.1 in
      let le = enclose-length g.row e gs around.4 in
      let front : length (take (e - at) (drop at rows)) ≡ e - at = length-take-le (e - at) (drop at rows) (omega (arith, length-drop at rows, le)) in
      let count : e - at ≡ k + (e - (at + k)) = omega (arith, b) in
      let rest : drop k (take (e - at) (drop at rows)) ≡ take (e - (at + k)) (drop (at + k) rows) =
      ap (λ n. drop k (take n (drop at rows))) count ∙ (drop-take k (e - (at + k)) (drop at rows) ∙ ap (take (e - (at + k))) (drop-drop k at rows)) in
      ap (drop k) (append_assoc (take (e - at) (drop at rows)) reps behind) ∙
      (drop-append-le k (take (e - at) (drop at rows)) (reps ++ behind) (omega (arith, front, b)) ∙
      (ap (λ (xs : List VpdRow). xs ++ (reps ++ behind)) rest ∙ sym (append_assoc (take (e - (at + k)) (drop (at + k) rows)) reps behind)))

  -- the next row and those behind it
  pub next-still : (low at : ℕ) (gs : List RowGroup) (row : VpdRow) (rest : List VpdRow) → Enclose rows low (at + 1) gs → drop at rows ≡ row ∷ rest → still_to_walk rows at gs ≡ row ∷ still_to_walk rows (at + 1) gs
  next-still low at gs row rest around is =
      sym (take-append-drop 1 (still_to_walk rows at gs)) ∙
      (ap (λ (xs : List VpdRow). xs ++ drop 1 (still_to_walk rows at gs)) (take-still low at 1 gs around ∙ ap (take 1) is) ∙
      ap (λ (xs : List VpdRow). row ∷ xs) (drop-still low at 1 gs around))

  -- a group at a place is the rows up to its end
  pub still-split : (low at k : ℕ) (gs : List RowGroup) → Enclose rows low (at + k) gs → still_to_walk rows at gs ≡ take k (drop at rows) ++ still_to_walk rows (at + k) gs
  still-split low at k gs around =
      sym (take-append-drop k (still_to_walk rows at gs)) ∙
      (ap (λ (xs : List VpdRow). xs ++ drop k (still_to_walk rows at gs)) (take-still low at k gs around) ∙
      ap (λ (xs : List VpdRow). take k (drop at rows) ++ xs) (drop-still low at k gs around))

  -- the group of the row at a place, walked so often
  module _ (at : ℕ) (gs : List RowGroup) (around : Enclose rows at (at + 1 + size_at rows at) gs) where
    abbrev s : ℕ
    s = size_at rows at

    abbrev rest : List VpdRow
    rest = still_to_walk rows (at + 1) gs

    abbrev own : List VpdRow
    own = take s (drop (at + 1) rows)

    repeated : (n : ℕ) → group_repeated s n rest ≡ repeat n own ++ still_to_walk rows (at + 1 + s) gs
    repeated n =
        ap (λ (xs : List VpdRow). repeat n xs ++ drop s rest) (take-still at (at + 1) s gs around) ∙
        ap (λ (xs : List VpdRow). repeat n own ++ xs) (drop-still at (at + 1) s gs around)

    again : (n : ℕ) → still_to_walk rows (at + 1) (record { row = at; left = n } ∷ gs) ≡ group_repeated s (suc n) rest
    again n =
        let count : at + 1 + s - (at + 1) ≡ s = omega arith in
        ap (λ k. (take k (drop (at + 1) rows) ++ repeat n own) ++ still_to_walk rows (at + 1 + s) gs) count ∙ sym (repeated (suc n))

    once : rest ≡ group_repeated s 1 rest
    once =
        still-split at (at + 1) s gs around ∙ (ap (λ (xs : List VpdRow). xs ++ still_to_walk rows (at + 1 + s) gs) (sym (append-nil own)) ∙ sym (repeated 1))

    none : still_to_walk rows (at + 1 + s) gs ≡ group_repeated s 0 rest
    none = sym (repeated 0)

    walked : (b c : Bool) (left n : ℕ) → b ≡ false → c ≡ true → left ≡ suc n → still_to_walk rows (cond b (at + 1 + s) (at + 1)) (cond c (record { row = at; left = left } ∷ gs) gs) ≡ group_repeated s (suc (suc n)) rest
    walked true c left n bs cs is = absurd (cc bs)
    walked false false left n bs cs is = absurd (cc cs)
    walked false true left n bs cs is = ap (λ l. still_to_walk rows (at + 1) (record { row = at; left = l } ∷ gs)) is ∙ again (suc n)

    inside : (b c : Bool) (left n : ℕ) → 0 < s → b ≡ false → c ≡ true → left ≡ suc n → Enclose rows (cond b (at + 1 + s) (at + 1)) (cond b (at + 1 + s) (at + 1)) (cond c (record { row = at; left = left } ∷ gs) gs)
    inside true c left n some bs cs is = absurd (cc bs)
    inside false false left n some bs cs is = absurd (cc cs)
    inside false true left n some bs cs is = (omega arith, omega arith, some, omega (arith, is), around)

    pub entered-still : (n : ℕ) → still_to_walk rows (entered_at at s n) (entered at n gs) ≡ group_repeated s n rest
    entered-still zero = none
    entered-still (suc zero) = once
    entered-still (suc (suc n)) = walked (nat_eq (suc (suc n)) 0) (nat_lt 1 (suc (suc n))) (suc (suc n) - 1) n (not_none n (nat_eq (suc (suc n)) 0) refl) (more n) (less n)

    pub entered-enclose : 0 < s → (n : ℕ) → Enclose rows (entered_at at s n) (entered_at at s n) (entered at n gs)
    entered-enclose some zero = enclose-fewer at (at + 1 + s) (at + 1 + s) (at + 1 + s) gs (omega arith) (omega arith) around
    entered-enclose some (suc zero) = enclose-fewer at (at + 1 + s) (at + 1) (at + 1) gs (omega arith) (omega arith) around
    entered-enclose some (suc (suc n)) = inside (nat_eq (suc (suc n)) 0) (nat_lt 1 (suc (suc n))) (suc (suc n) - 1) n some (not_none n (nat_eq (suc (suc n)) 0) refl) (more n) (less n)

  -- the innermost group where its end was reached: the walk goes on with its next repetition
  module _ (g : RowGroup) (gs : List RowGroup) (around : Enclose rows (end_of rows g) (end_of rows g) (g ∷ gs)) where
    abbrev e : ℕ
    e = end_of rows g

    holds : Enclose rows g.row (g.row + 1 + size_at rows g.row) gs
    holds = around.4

    settled-groups : List RowGroup
    settled-groups = once_less g gs

    at_end : (n : ℕ) → g.left ≡ suc n → still_to_walk rows e (g ∷ gs) ≡ body rows g ++ (repeat n (body rows g) ++ still_to_walk rows e gs)
    at_end n is =
        let none : e - e ≡ 0 = omega arith in
        ap (λ k. (take k (drop e rows) ++ repeat g.left (body rows g)) ++ still_to_walk rows e gs) none ∙
        (ap (λ k. repeat k (body rows g) ++ still_to_walk rows e gs) is ∙ append_assoc (body rows g) (repeat n (body rows g)) (still_to_walk rows e gs))

    last_time : g.left ≡ 1 → still_to_walk rows (g.row + 1) gs ≡ still_to_walk rows e (g ∷ gs)
    last_time is = still-split g.row (g.row + 1) (size_at rows g.row) gs holds ∙ sym (at_end 0 is)

    next_time : (n : ℕ) → g.left ≡ suc (suc n) → still_to_walk rows (g.row + 1) (record g { left = suc n } ∷ gs) ≡ still_to_walk rows e (g ∷ gs)
    next_time n is =
        let count : e - (g.row + 1) ≡ size_at rows g.row = omega arith in
        ap (λ k. (take k (drop (g.row + 1) rows) ++ repeat (suc n) (body rows g)) ++ still_to_walk rows e gs) count ∙
        (append_assoc (body rows g) (repeat (suc n) (body rows g)) (still_to_walk rows e gs) ∙ sym (at_end (suc n) is))

    next_still : (b : Bool) (left n : ℕ) → g.left ≡ suc (suc n) → b ≡ false → left ≡ suc n → still_to_walk rows (g.row + 1) (cond b gs (record g { left = left } ∷ gs)) ≡ still_to_walk rows e (g ∷ gs)
    next_still true left n is bs same = absurd (cc bs)
    next_still false left n is bs same = ap (λ l. still_to_walk rows (g.row + 1) (record g { left = l } ∷ gs)) same ∙ next_time n is

    next_enclose : (b : Bool) (left n : ℕ) → b ≡ false → left ≡ suc n → Enclose rows (g.row + 1) (g.row + 1) (cond b gs (record g { left = left } ∷ gs))
    next_enclose true left n bs same = absurd (cc bs)
    next_enclose false left n bs same = (omega arith, omega arith, around.2, omega (arith, same), holds)

    pub repeated-still : (left : ℕ) → g.left ≡ left → 0 < left → still_to_walk rows (g.row + 1) (cond (nat_eq left 1) gs (record g { left = left - 1 } ∷ gs)) ≡ still_to_walk rows e (g ∷ gs)
    repeated-still zero is some = absurd (omega (arith, some))
    repeated-still (suc zero) is some = last_time is
    repeated-still (suc (suc n)) is some = next_still (nat_eq (suc (suc n)) 1) (suc (suc n) - 1) n is (not_one n (nat_eq (suc (suc n)) 1) refl) (less n)

    pub repeated-enclose : (left : ℕ) → 0 < left → Enclose rows (g.row + 1) (g.row + 1) (cond (nat_eq left 1) gs (record g { left = left - 1 } ∷ gs))
    repeated-enclose zero some = absurd (omega (arith, some))
    repeated-enclose (suc zero) some = enclose-fewer g.row e (g.row + 1) (g.row + 1) gs (omega arith) (omega arith) holds
    repeated-enclose (suc (suc n)) some = next_enclose (nat_eq (suc (suc n)) 1) (suc (suc n) - 1) n (not_one n (nat_eq (suc (suc n)) 1) refl) (less n)

    ahead-outer : (hs : List RowGroup) → Enclose rows g.row e hs → Ahead rows (g.row + 1) hs
    ahead-outer [] within = let some = around.2 in omega (arith, some, within)
    ahead-outer (h ∷ hs) within = let some = around.2 in let b = within.1 in omega (arith, some, b)

    pub repeated-ahead : (b : Bool) (left : ℕ) → Ahead rows (g.row + 1) (cond b gs (record g { left = left } ∷ gs))
    repeated-ahead true left = ahead-outer gs holds
    repeated-ahead false left = let some = around.2 in omega (arith, some)

  -- what a settled place comes to
  module _ (at : ℕ) where
    at-choice : (b : Bool) (g : RowGroup) (gs : List RowGroup) → nat_eq at (end_of rows g) ≡ b → Enclose rows at at (g ∷ gs)
        → still_to_walk rows (cond b (g.row + 1) at) (cond b (once_less g gs) (g ∷ gs)) ≡ still_to_walk rows at (g ∷ gs)
    at-choice false g gs is around = refl
    at-choice true g gs is around =
        let here : at ≡ end_of rows g = eqb-true at (end_of rows g) is in
        let there = subst (λ n. Enclose rows n n (g ∷ gs)) here around in
        repeated-still g gs there g.left refl around.3 ∙ ap (λ n. still_to_walk rows n (g ∷ gs)) (sym here)

    pub settled-still : (gs : List RowGroup) → Enclose rows at at gs → still_to_walk rows (settled_at rows at gs) (settled rows at gs) ≡ still_to_walk rows at gs
    settled-still [] around = refl
    settled-still (g ∷ gs) around = at-choice (nat_eq at (end_of rows g)) g gs refl around

    enclose-choice : (b : Bool) (g : RowGroup) (gs : List RowGroup) → nat_eq at (end_of rows g) ≡ b → Enclose rows at at (g ∷ gs)
        → Enclose rows (cond b (g.row + 1) at) (cond b (g.row + 1) at) (cond b (once_less g gs) (g ∷ gs))
    enclose-choice false g gs is around = around
    enclose-choice true g gs is around =
        let here : at ≡ end_of rows g = eqb-true at (end_of rows g) is in
        repeated-enclose g gs (subst (λ n. Enclose rows n n (g ∷ gs)) here around) g.left around.3

    pub settled-enclose : (gs : List RowGroup) → Enclose rows at at gs → Enclose rows (settled_at rows at gs) (settled_at rows at gs) (settled rows at gs)
    settled-enclose [] around = around
    settled-enclose (g ∷ gs) around = enclose-choice (nat_eq at (end_of rows g)) g gs refl around

    ahead-choice : (b : Bool) (g : RowGroup) (gs : List RowGroup) → nat_eq at (end_of rows g) ≡ b → Enclose rows at at (g ∷ gs)
        → Ahead rows (cond b (g.row + 1) at) (cond b (once_less g gs) (g ∷ gs))
    ahead-choice false g gs is around = let other = eqb-false at (end_of rows g) is in let b = around.1 in omega (arith, other, b)
    ahead-choice true g gs is around =
        let here : at ≡ end_of rows g = eqb-true at (end_of rows g) is in
        repeated-ahead g gs (subst (λ n. Enclose rows n n (g ∷ gs)) here around) (nat_eq g.left 1) (g.left - 1)

    pub settled-ahead : (gs : List RowGroup) → Enclose rows at at gs → Ahead rows (settled_at rows at gs) (settled rows at gs)
    settled-ahead [] around = around
    settled-ahead (g ∷ gs) around = ahead-choice (nat_eq at (end_of rows g)) g gs refl around

  -- what a row's group stands in
  pub row-enclose : Nested rows → (at : ℕ) (gs : List RowGroup) → at < length rows → Ahead rows at gs → Enclose rows at at gs → Enclose rows at (at + 1 + size_at rows at) gs
  row-enclose nested at [] lt ahead around = within-rows rows nested at lt
  row-enclose nested at (g ∷ gs) lt ahead around = (around.0, within-group rows nested g.row at around.0 ahead, around.2, around.3, around.4)

  pub ahead-length : (at : ℕ) (gs : List RowGroup) → Ahead rows at gs → Enclose rows at at gs → at ≡ length rows → gs ≡ []
  ahead-length at [] ahead around is = refl
  ahead-length at (g ∷ gs) ahead around is = let le = enclose-length g.row (end_of rows g) gs around.4 in absurd (omega (arith, ahead, le, is))
