-- Histories in which a desk makes all its entries before the first stamp.
use Rattle.std.proofs.Common.{◌≡◌, ℕ, zero, suc, ◌+◌, ◌<◌, ◌==◌, true, false, List, [], ◌∷◌, ◌++◌, length, cond, inl, inr, refl, sym, ap, ◌∙◌, subst, arith}
use Rattle.std.proofs.lemmas.List.{length-append, length-map, append-nil, nil_from_length}
use Rattle.std.proofs.lemmas.List.Elements.{filter-append}
use Rattle.std.proofs.lemmas.Bool.{cases_Bool}
use Rattle.std.proofs.lemmas.Bool.Decides.{nat_tests}
use Rattle.histories.specs.declared.history.Move.{Move}
use Rattle.histories.specs.History.{IsLegal, IsOfSeatsBelow, Permits, move, moves_of, state_after}
use Rattle.histories.proofs.HistoryFacts.{IsLegal-rest, IsOfSeatsBelow-front, IsOfSeatsBelow-rest, Permits-rest}
use Rattle.run_model.specs.declared.register.Answer.{Answer}
use Rattle.run_model.specs.declared.register.Entry.{Entry}
use Rattle.run_model.specs.declared.register.Entry.TheVariants.{Stamp, Add, AddOn, Use, UseFrom, Newest, Look}
use Rattle.run_model.specs.declared.register.Register.{Register}
use Rattle.run_model.specs.DeskRuns.{Calls, moves_by}
use Rattle.run_model.specs.Register.{opening, answer_to, after}
use Rattle.run_model.specs.RegisterHistories.{MayEnter, RegisterHistory}
use Rattle.run_laws.specs.Desks.{DeskFirstDecides, DeskGoesFirst, IsDeskFirst}

-- the moves of a seat below 2 that isn't the one are the other's
nothing-cons : {A : Type 0} (x : A) (xs : List A) → x ∷ xs ≡ [] → ⊥
nothing-cons x xs same = omega (arith, ap length same)

seat-other : (seat : ℕ) → seat < 2 → (seat == 0) ≡ false → (seat == 1) ≡ true
seat-other seat below none = grind (arith, nat_tests, below, none)

seat-first : (seat : ℕ) → seat < 2 → (seat == 1) ≡ false → (seat == 0) ≡ true
seat-first seat below none = grind (arith, nat_tests, below, none)

-- of two seats, where one makes no moves all are the other's
all-of-one : (ms : RegisterHistory) → IsOfSeatsBelow 2 ms → moves_of 0 ms ≡ [] → moves_of 1 ms ≡ ms
all-of-one [] seats none = refl
all-of-one (m ∷ ms) (below, seats) none = elim (cases_Bool (m.seat == 0)) [
  | inl is ↦ absurd (nothing-cons m (moves_of 0 ms) (subst (λ b. cond b (m ∷ moves_of 0 ms) (moves_of 0 ms) ≡ []) is none))
  | inr not ↦
      let one : (m.seat == 1) ≡ true = seat-other m.seat below not in
      let rest : moves_of 0 ms ≡ [] = subst (λ b. cond b (m ∷ moves_of 0 ms) (moves_of 0 ms) ≡ []) not none in
      ap (λ b. cond b (m ∷ moves_of 1 ms) (moves_of 1 ms)) one ∙ ap (λ l. m ∷ l) (all-of-one ms seats rest)
]

all-of-none : (ms : RegisterHistory) → IsOfSeatsBelow 2 ms → moves_of 1 ms ≡ [] → moves_of 0 ms ≡ ms
all-of-none [] seats none = refl
all-of-none (m ∷ ms) (below, seats) none = elim (cases_Bool (m.seat == 1)) [
  | inl is ↦ absurd (nothing-cons m (moves_of 1 ms) (subst (λ b. cond b (m ∷ moves_of 1 ms) (moves_of 1 ms) ≡ []) is none))
  | inr not ↦
      let first : (m.seat == 0) ≡ true = seat-first m.seat below not in
      let rest : moves_of 1 ms ≡ [] = subst (λ b. cond b (m ∷ moves_of 1 ms) (moves_of 1 ms) ≡ []) not none in
      ap (λ b. cond b (m ∷ moves_of 0 ms) (moves_of 0 ms)) first ∙ ap (λ l. m ∷ l) (all-of-none ms seats rest)
]

-- such a history in its two parts
record InTurns (history : RegisterHistory) (calls : Calls) : Type 0 where
  pub rest : RegisterHistory
  pub parted : history ≡ moves_by calls ++ rest
  pub of_intake : moves_of 0 rest ≡ rest
  pub stamped : moves_of 0 history ≡ rest

in-turns : (history : RegisterHistory) (calls : Calls) → IsDeskFirst history calls → InTurns history calls
in-turns history calls d =
    let front = d.front in let rest = d.starts.0 in let more = d.before.0 in
    let below_front : IsOfSeatsBelow 2 front = IsOfSeatsBelow-front 2 front rest (subst (λ h. IsOfSeatsBelow 2 h) d.starts.1 d.seats) in
    let below_rest : IsOfSeatsBelow 2 rest = IsOfSeatsBelow-rest 2 front rest (subst (λ h. IsOfSeatsBelow 2 h) d.starts.1 d.seats) in
    let of_desk : moves_of 1 history ≡ moves_of 1 front ++ moves_of 1 rest = ap (λ h. moves_of 1 h) d.starts.1 ∙ filter-append (λ (m : Move Entry Answer). m.seat == 1) front rest in
    let many : length (moves_of 1 history) ≡ length calls = sym (length-map (moves_of 1 history) (λ (m : Move Entry Answer). (m.entry, m.reply))) ∙ ap length d.all in
    let sum : length (moves_of 1 history) ≡ length (moves_of 1 front) + length (moves_of 1 rest) = ap length of_desk ∙ length-append (moves_of 1 front) (moves_of 1 rest) in
    let first : length (moves_of 1 front) ≡ length calls + length more =
    ap length d.before.1 ∙ length-append (moves_by calls) more ∙ ap (λ n. n + length more) (length-map calls (λ (call : Entry × Answer). move 1 call.0 call.1)) in
    let no_more : more ≡ [] = nil_from_length more (omega (arith, many, sum, first)) in
    let no_later : moves_of 1 rest ≡ [] = nil_from_length (moves_of 1 rest) (omega (arith, many, sum, first)) in
    let is_front : front ≡ moves_by calls = sym (all-of-one front below_front d.no_stamp) ∙ d.before.1 ∙ ap (λ l. moves_by calls ++ l) no_more ∙ append-nil (moves_by calls) in
    let of_intake : moves_of 0 rest ≡ rest = all-of-none rest below_rest no_later in record {
      rest = rest;
      parted = d.starts.1 ∙ ap (λ l. l ++ rest) is_front;
      of_intake = of_intake;
      stamped = ap (λ h. moves_of 0 h) d.starts.1 ∙ filter-append (λ (m : Move Entry Answer). m.seat == 0) front rest ∙ ap (λ l. l ++ moves_of 0 rest) d.no_stamp ∙ of_intake;
    }

pub goes-first : DeskGoesFirst
goes-first history calls d = let t = in-turns history calls d in t.parted ∙ ap (λ l. moves_by calls ++ l) (sym t.stamped)

-- moves that are all stamps of seat 0
abbrev AreStamps : RegisterHistory → Type 0
AreStamps [] = Unit {0}
AreStamps (m ∷ ms) = (m.seat ≡ 0) × (m.entry ≡ Stamp) × AreStamps ms

stamp-entry : (seat : ℕ) (entry : Entry) → seat ≡ 0 → MayEnter seat entry → entry ≡ Stamp
stamp-entry zero Stamp is may = refl
stamp-entry zero (Add tables plans) is may = absurd (subst (λ b. cond b ⊥ (Unit {0})) may tt)
stamp-entry zero (AddOn base tables plans) is may = absurd (subst (λ b. cond b ⊥ (Unit {0})) may tt)
stamp-entry zero (Use e) is may = absurd (subst (λ b. cond b ⊥ (Unit {0})) may tt)
stamp-entry zero (UseFrom e k) is may = absurd (subst (λ b. cond b ⊥ (Unit {0})) may tt)
stamp-entry zero Newest is may = absurd (subst (λ b. cond b ⊥ (Unit {0})) may tt)
stamp-entry zero (Look e) is may = absurd (subst (λ b. cond b ⊥ (Unit {0})) may tt)
stamp-entry (suc seat) entry is may = absurd (omega (arith, is))

are-stamps : (ms : RegisterHistory) → IsOfSeatsBelow 2 ms → Permits MayEnter ms → moves_of 0 ms ≡ ms → AreStamps ms
are-stamps [] seats permits of = tt
are-stamps (m ∷ ms) (below, seats) (may, permits) of = elim (cases_Bool (m.seat == 0)) [
  | inl is ↦
      let zero_is : m.seat ≡ 0 = grind (arith, nat_tests, is) in
      let rest : m ∷ moves_of 0 ms ≡ m ∷ ms = subst (λ b. cond b (m ∷ moves_of 0 ms) (moves_of 0 ms) ≡ m ∷ ms) is of in
      (zero_is, stamp-entry m.seat m.entry zero_is may, are-stamps ms seats permits (cons-tail m (moves_of 0 ms) ms rest))
  | inr not ↦
      let short : moves_of 0 ms ≡ m ∷ ms = subst (λ b. cond b (m ∷ moves_of 0 ms) (moves_of 0 ms) ≡ m ∷ ms) not of in
      let few = filter-few ms in
      absurd (omega (arith, ap length short, few))
]
  where
    cons-tail : (x : Move Entry Answer) (xs ys : RegisterHistory) → x ∷ xs ≡ x ∷ ys → xs ≡ ys
    cons-tail x xs ys same = cc same

    filter-few : (l : RegisterHistory) → length (moves_of 0 l) < length l + 1
    filter-few [] = omega arith
    filter-few (n ∷ l) = elim (cases_Bool (n.seat == 0)) [
      | inl is ↦ (let fewer = filter-few l in let same = ap (λ b. length (cond b (n ∷ moves_of 0 l) (moves_of 0 l))) is in omega (arith, fewer, same))
      | inr not ↦ (let fewer = filter-few l in let same = ap (λ b. length (cond b (n ∷ moves_of 0 l) (moves_of 0 l))) not in omega (arith, fewer, same))
    ]

-- stamps from a state of the register on are decided by their number
stamps-same : (s : Register) (ms ns : RegisterHistory) → IsLegal answer_to after s ms → IsLegal answer_to after s ns → AreStamps ms → AreStamps ns → length ms ≡ length ns → ms ≡ ns
stamps-same s [] [] legal lawful are were many = refl
stamps-same s [] (n ∷ ns) legal lawful are were many = absurd (omega (arith, many))
stamps-same s (m ∷ ms) [] legal lawful are were many = absurd (omega (arith, many))
stamps-same s (m ∷ ms) (n ∷ ns) (is, legal) (was, lawful) (seat, entry, are) (place, other, were) many =
    let seats : m.seat ≡ n.seat = seat ∙ sym place in
    let entries : m.entry ≡ n.entry = entry ∙ sym other in
    let replies : m.reply ≡ n.reply = is ∙ ap (λ e. answer_to s e) entries ∙ sym was in
    let rest : ms ≡ ns = stamps-same (after s m.entry) ms ns legal (subst (λ e. IsLegal answer_to after (after s e) ns) (sym entries) lawful) are were (omega (arith, many)) in
    (λ i. move (seats i) (entries i) (replies i) ∷ rest i)

pub first-decides : DeskFirstDecides
first-decides first history other calls legal lawful d e many =
    let t = in-turns history calls d in
    let u = in-turns other calls e in
    let at = state_after after (opening first) (moves_by calls) in
    let stamps_of : (h : RegisterHistory) (f : IsDeskFirst h calls) (v : InTurns h calls) → AreStamps v.rest = λ h f v.
    are-stamps v.rest (IsOfSeatsBelow-rest 2 (moves_by calls) v.rest (subst (λ l. IsOfSeatsBelow 2 l) v.parted f.seats))
    (Permits-rest MayEnter (moves_by calls) v.rest (subst (λ l. Permits MayEnter l) v.parted f.permitted)) v.of_intake in
    let rests : t.rest ≡ u.rest = stamps-same at t.rest u.rest
    (IsLegal-rest after answer_to (opening first) (moves_by calls) t.rest (subst (λ h. IsLegal answer_to after (opening first) h) t.parted legal))
    (IsLegal-rest after answer_to (opening first) (moves_by calls) u.rest (subst (λ h. IsLegal answer_to after (opening first) h) u.parted lawful))
    (stamps_of history d t) (stamps_of other e u) (ap length (sym t.stamped) ∙ many ∙ ap length u.stamped) in
    t.parted ∙ ap (λ l. moves_by calls ++ l) rests ∙ sym u.parted
