-- What an entry changes of the register.
use Rattle.std.proofs.Common.{◌≡◌, ℕ, zero, suc, ◌+◌, ◌<◌, Bool, true, false, not, cond, List, [], ◌∷◌, ◌++◌, map, filter, filter_map, length, Some, None, unwrap_or, sym, refl, ap, subst, ◌∙◌, arith, nat_lt, nat_le, nat_eq, ◌==◌}
use Rattle.std.proofs.lemmas.List.{append-nil}
use Rattle.std.proofs.lemmas.Bool.{ltb-false}
use Rattle.std.proofs.lemmas.List.Elements.{filter-append}
use Rattle.std.specs.List.{range_with_len, last_or, cons_option}
use Rattle.histories.specs.History.{IsLegal, Permits, calls_of, move}
use Rattle.mib_model.specs.declared.database.Database.{Database}
use Rattle.run_model.specs.declared.register.Answer.{Answer}
use Rattle.run_model.specs.declared.register.Answer.TheVariants.{Added, FullEditions, Stale, Used, NoEdition, Late, Disorder, FullPending, Drawn}
use Rattle.run_model.specs.declared.register.Entry.{Entry}
use Rattle.run_model.specs.declared.register.Entry.TheVariants.{Stamp, Add, AddOn, Use, UseFrom, Newest, Look}
use Rattle.run_model.specs.declared.register.Register.{Register}
use Rattle.run_model.specs.declared.register.Scheduled.{Scheduled}
use Rattle.run_model.specs.Register.{opening, answer_to, after, added, used_from, with_tables, with_activation, is_pending, edition_for, has_edition, count_of_editions, is_disorder, last_pending, pending, most_pending, most_editions, tables_of}
use Rattle.run_model.specs.RegisterHistories.{RegisterHistory, IsRegisterHistory, MayEnter, is_stamp, stamps, stamp_in}
use Rattle.run_laws.specs.Registers.{SeatShowsStamps}
use Rattle.mib_laws.proofs.Choices.{choice}

-- EDITIONS: those of an entry that adds tables, and of all others
abbrev Grows : Register → Register → Type 0
Grows s t = (more : List Database) × (t.editions ≡ s.editions ++ more)

stays : (s : Register) → Grows s s
stays s = ([], sym (append-nil s.editions))

with_tables-grows : (s : Register) (tables : Database) (a : Answer) → Grows s (with_tables s tables a)
with_tables-grows s tables (Added e) = (tables ∷ [], refl)
with_tables-grows s tables other = stays s

with_activation-grows : (s : Register) (stay : List Scheduled) (e : ℕ) (a : Answer) → Grows s (with_activation s stay e a)
with_activation-grows s stay e (Used k) = ([], sym (append-nil s.editions))
with_activation-grows s stay e other = stays s

pub after-grows : (s : Register) (e : Entry) → Grows s (after s e)
unfolding after
after-grows s Stamp = ([], sym (append-nil s.editions))
after-grows s (Add tables plans) = with_tables-grows s tables (answer_to s (Add tables plans))
after-grows s (AddOn base tables plans) = with_tables-grows s tables (answer_to s (AddOn base tables plans))
after-grows s (Use e) = with_activation-grows s (filter (λ pair. not (is_pending s pair)) s.schedule) e (answer_to s (Use e))
after-grows s (UseFrom e k) = with_activation-grows s s.schedule e (answer_to s (UseFrom e k))
after-grows s Newest = stays s
after-grows s (Look e) = stays s

-- STAMPS: an entry that is no stamp gives no number and moves none on
added-quiet : (s : Register) → stamp_in (added s) ≡ None
added-quiet s = choice (λ a. stamp_in a ≡ None) (nat_le most_editions (count_of_editions s)) FullEditions (Added (count_of_editions s + 1)) (λ h. refl) (λ h. refl)

used_from-quiet : (s : Register) (e k : ℕ) → stamp_in (used_from s e k) ≡ None
used_from-quiet s e k =
    let P : Answer → Type 0 = λ a. stamp_in a ≡ None in
    choice P (not (has_edition s e)) (NoEdition (count_of_editions s)) _ (λ h. refl) (λ h.
    choice P (nat_lt k s.next) (Late s.next) _ (λ i. refl) (λ i.
    choice P (is_disorder k (last_pending s)) (Disorder (unwrap_or (last_pending s) 0)) _ (λ j. refl) (λ j.
    choice P (nat_le most_pending (length (pending s))) FullPending (Used k) (λ l. refl) (λ l. refl))))

pub with_tables-next : (s : Register) (tables : Database) (a : Answer) → (with_tables s tables a).next ≡ s.next
with_tables-next s tables (Added e) = refl
with_tables-next s tables other = refl

pub with_activation-next : (s : Register) (stay : List Scheduled) (e : ℕ) (a : Answer) → (with_activation s stay e a).next ≡ s.next
with_activation-next s stay e (Used k) = refl
with_activation-next s stay e other = refl

-- what an entry does to the numbers: it gives the next one, or it gives none and leaves the next one
data Counts (s : Register) (e : Entry) : Type 0 where
  gives : (n : ℕ) → stamp_in (answer_to s e) ≡ Some (s.next, n) → (after s e).next ≡ s.next + 1 → Counts s e
  leaves : stamp_in (answer_to s e) ≡ None → (after s e).next ≡ s.next → Counts s e

look-quiet : (s : Register) (b : Bool) (a : Answer) → stamp_in a ≡ None → stamp_in (cond b a (NoEdition (count_of_editions s))) ≡ None
look-quiet s true a h = h
look-quiet s false a h = refl

counts : (s : Register) (e : Entry) → Counts s e
unfolding answer_to after
counts s Stamp = gives (edition_for s s.next) refl refl
counts s (Add tables plans) = leaves (added-quiet s) (with_tables-next s tables (added s))
counts s (AddOn base tables plans) =
    leaves (choice (λ a. stamp_in a ≡ None) (nat_eq base (count_of_editions s)) (added s) (Stale (count_of_editions s)) (λ h. added-quiet s) (λ h. refl))
    (with_tables-next s tables (answer_to s (AddOn base tables plans)))
counts s (Use e) =
    leaves (look-quiet s (has_edition s e) (Used s.next) refl)
    (with_activation-next s (filter (λ pair. not (is_pending s pair)) s.schedule) e (answer_to s (Use e)))
counts s (UseFrom e k) = leaves (used_from-quiet s e k) (with_activation-next s s.schedule e (used_from s e k))
counts s Newest = leaves refl refl
counts s (Look e) = leaves (look-quiet s (has_edition s e) (Drawn e (tables_of s e)) refl) refl

-- numbers from some number on, as many as there are stamps
abbrev CountUp : ℕ → List (ℕ × ℕ) → Type 0
CountUp from given = map (λ s. s.0) given ≡ range_with_len from (length given)

-- one stamp more in front
count-one : (s : Register) (e : Entry) (a : Answer) (given : List (ℕ × ℕ)) → Counts s e → a ≡ answer_to s e → CountUp (after s e).next given → CountUp s.next (cons_option (stamp_in a) given)
count-one s e a given (gives n is next) same up =
    rw (same, is) (ap (λ (ns : List ℕ). s.next ∷ ns) (subst (λ k. CountUp k given) next up))
count-one s e a given (leaves is next) same up = rw (same, is) (subst (λ k. CountUp k given) next up)

count-from : (s : Register) (history : RegisterHistory) → IsLegal answer_to after s history → CountUp s.next (stamps history)
count-from s [] legal = refl
count-from s (m ∷ ms) legal = count-one s m.entry m.reply (stamps ms) (counts s m.entry) legal.0 (count-from (after s m.entry) ms legal.1)

pub count-up : (first : Database) (history : RegisterHistory) → IsRegisterHistory first history → CountUp 1 (stamps history)
count-up first history legal = count-from (opening first) history legal

-- SEATS: what is no stamp shows none, and each stamp is of seat 0
pub quiet : (s : Register) (e : Entry) → is_stamp e ≡ false → stamp_in (answer_to s e) ≡ None
unfolding answer_to
quiet s Stamp other = absurd (subst (λ c. cond c (Unit {0}) ⊥) other tt)
quiet s (Add tables plans) other = added-quiet s
quiet s (AddOn base tables plans) other =
    choice (λ a. stamp_in a ≡ None) (nat_eq base (count_of_editions s)) (added s) (Stale (count_of_editions s)) (λ h. added-quiet s) (λ h. refl)
quiet s (Use e) other = look-quiet s (has_edition s e) (Used s.next) refl
quiet s (UseFrom e k) other = used_from-quiet s e k
quiet s Newest other = refl
quiet s (Look e) other = look-quiet s (has_edition s e) (Drawn e (tables_of s e)) refl

shown : List (Entry × Answer) → List (ℕ × ℕ)
shown calls = filter_map (λ call. stamp_in call.1) calls

seat-stamps : (s : Register) (seat : ℕ) (e : Entry) (a : Answer) (rest : RegisterHistory) → a ≡ answer_to s e → MayEnter seat e → stamps rest ≡ shown (calls_of 0 rest)
    → cons_option (stamp_in a) (stamps rest) ≡ shown (calls_of 0 (move seat e a ∷ rest))
unfolding shown
seat-stamps s zero e a rest is may same = ap (cons_option (stamp_in a)) same
seat-stamps s (suc desk) e a rest is may same = let none : stamp_in a ≡ None = ap stamp_in is ∙ quiet s e may in let other : (suc desk == 0) ≡ false = search arith in rw (none, other) same

seats-from : (s : Register) (history : RegisterHistory) → IsLegal answer_to after s history → Permits MayEnter history → stamps history ≡ shown (calls_of 0 history)
unfolding shown
seats-from s [] legal permits = refl
seats-from s (m ∷ ms) legal permits = seat-stamps s m.seat m.entry m.reply ms legal.0 permits.0 (seats-from (after s m.entry) ms legal.1 permits.1)

pub seats-show : SeatShowsStamps
unfolding shown
seats-show first history legal permits = seats-from (opening first) history legal permits

-- SCHEDULE: a packet below the next one
not_pending : (s : Register) (n : ℕ) (pair : Scheduled) → n < s.next → nat_le pair.from n ≡ true → not (is_pending s pair) ≡ true
not_pending s n pair below from = search (arith, below, from)

stay_one : (q : Scheduled → Bool) (pair : Scheduled) (kept pairs : List Scheduled) (b f : Bool) → q pair ≡ f → (f ≡ true → b ≡ true) → filter q kept ≡ filter q pairs → filter q (cond b (pair ∷ kept) kept) ≡ cond f (pair ∷ filter q pairs) (filter q pairs)
stay_one q pair kept pairs true f is only same = rw (is, same) refl
stay_one q pair kept pairs false true is only same = absurd (subst (λ c. cond c ⊥ (Unit {0})) (only refl) tt)
stay_one q pair kept pairs false false is only same = same

-- what stays of a schedule is what concerns the packet
stays-below : (s : Register) (n : ℕ) → n < s.next → (pairs : List Scheduled) → filter (λ p. nat_le p.from n) (filter (λ p. not (is_pending s p)) pairs) ≡ filter (λ p. nat_le p.from n) pairs
stays-below s n below [] = refl
stays-below s n below (pair ∷ pairs) =
    stay_one (λ p. nat_le p.from n) pair (filter (λ p. not (is_pending s p)) pairs) pairs (not (is_pending s pair)) (nat_le pair.from n) refl
    (not_pending s n pair below) (stays-below s n below pairs)

-- an activation from a later packet on doesn't concern this one
later : (k n : ℕ) → n < k → nat_le k n ≡ false
later k n below = search (arith, below)

one_later : (n k e : ℕ) (stay : List Scheduled) → n < k → filter (λ p. nat_le p.from n) (stay ++ record { from = k; edition = e } ∷ []) ≡ filter (λ p. nat_le p.from n) stay
one_later n k e stay below =
    filter-append (λ p. nat_le p.from n) stay (record { from = k; edition = e } ∷ []) ∙
    (rw (later k n below) (append-nil (filter (λ p. nat_le p.from n) stay)))

-- whether a schedule gives a packet the same edition as the one before
abbrev Same : Register → ℕ → Register → Type 0
Same s n t = edition_for t n ≡ edition_for s n

scheduled-same : (s : Register) (n : ℕ) (stay : List Scheduled) (e k : ℕ) → n < k → filter (λ p. nat_le p.from n) stay ≡ filter (λ p. nat_le p.from n) s.schedule → Same s n (with_activation s stay e (Used k))
scheduled-same s n stay e k below same =
    ap (λ (pairs : List Scheduled). unwrap_or (last_or None (map (λ pair. pair.edition) pairs)) 1) (one_later n k e stay below ∙ same)

tables-same : (s : Register) (n : ℕ) (tables : Database) (a : Answer) → Same s n (with_tables s tables a)
tables-same s n tables (Added e) = refl
tables-same s n tables other = refl

use-same : (s : Register) (n e : ℕ) → n < s.next → Same s n (after s (Use e))
unfolding after answer_to
use-same s n e below =
    let stay = filter (λ p. not (is_pending s p)) s.schedule in
    choice (λ a. Same s n (with_activation s stay e a)) (has_edition s e) (Used s.next) (NoEdition (count_of_editions s))
    (λ h. scheduled-same s n stay e s.next below (stays-below s n below s.schedule)) (λ h. refl)

use_from-same : (s : Register) (n e k : ℕ) → n < s.next → Same s n (after s (UseFrom e k))
unfolding after answer_to
use_from-same s n e k below =
    let P : Answer → Type 0 = λ a. Same s n (with_activation s s.schedule e a) in
    choice P (not (has_edition s e)) (NoEdition (count_of_editions s)) _ (λ h. refl) (λ h.
    choice P (nat_lt k s.next) (Late s.next) _ (λ i. refl) (λ i.
    choice P (is_disorder k (last_pending s)) (Disorder (unwrap_or (last_pending s) 0)) _ (λ j. refl) (λ j.
    choice P (nat_le most_pending (length (pending s))) FullPending (Used k) (λ l. refl)
    (λ l. let above = ltb-false k s.next i in scheduled-same s n s.schedule e k (omega (arith, above, below)) refl))))

pub stays-stamped : (s : Register) (e : Entry) (n : ℕ) → n < s.next → edition_for (after s e) n ≡ edition_for s n
unfolding after
stays-stamped s Stamp n below = refl
stays-stamped s (Add tables plans) n below = tables-same s n tables (answer_to s (Add tables plans))
stays-stamped s (AddOn base tables plans) n below = tables-same s n tables (answer_to s (AddOn base tables plans))
stays-stamped s (Use e) n below = use-same s n e below
stays-stamped s (UseFrom e k) n below = use_from-same s n e k below
stays-stamped s Newest n below = refl
stays-stamped s (Look e) n below = refl
