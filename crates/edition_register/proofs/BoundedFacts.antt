-- A register that forgets what no packet to come needs answers as one that keeps all.
use Rattle.std.proofs.Common.{◌≡◌, ℕ, ◌+◌, ◌<◌, ◌≤◌, Bool, true, false, not, cond, List, [], ◌∷◌, ◌++◌, map, filter, length, Option, Some, None, unwrap_or, option_map, sym, refl, ap, subst, ◌∙◌, arith, nat_le, nat_lt, nat_eq, append_assoc, length-append}
use Rattle.std.proofs.lemmas.Grind.{common_steps}
use Rattle.std.proofs.lemmas.List.{append-nil}
use Rattle.std.proofs.lemmas.List.Elements.{filter-append}
use Rattle.std.proofs.lemmas.Bool.{false≢true, eqb-true, eqb-false, leb-true, leb-false, ltb-false, le-leb}
use Rattle.std.specs.List.{AllByRecursion, last_or}
use Rattle.histories.specs.History.{IsLegal, state_after}
use Rattle.mib_model.specs.declared.database.Database.{Database}
use Rattle.run_model.specs.declared.register.Answer.{Answer}
use Rattle.run_model.specs.declared.register.Answer.TheVariants.{Stamped, Added, Used, NoEdition, Late, Disorder, FullPending}
use Rattle.run_model.specs.declared.register.Entry.{Entry}
use Rattle.run_model.specs.declared.register.Entry.TheVariants.{Stamp, Add, AddOn, Use, UseFrom, Newest, Look}
use Rattle.run_model.specs.declared.register.Register.{Register}
use Rattle.run_model.specs.declared.register.Scheduled.{Scheduled}
use Rattle.run_model.specs.Register.{opening, answer_to, after, with_tables, with_activation, edition_for, has_edition, count_of_editions, is_disorder, last_pending, pending, most_pending, tables_of}
use Rattle.run_model.specs.RegisterHistories.{RegisterHistory}
use Rattle.mib_laws.proofs.Choices.{choice}
use Rattle.edition_register.specs.Starts.{Rises}
use Rattle.edition_register.specs.Bounded.{last_alone, bounded, bounded_after, begun, edition_of, kept_after, IsKept, BoundedServes, FewActivations, KeepsOneInUse, MovesKept}

-- LISTS
module _ {X : Type 0} where
  all-last : (P : X → Type 0) (xs : List X) → AllByRecursion P xs → AllByRecursion P (last_alone xs)
  all-last P [] all = tt
  all-last P (x ∷ []) all = all
  all-last P (x ∷ y ∷ zs) all = all-last P (y ∷ zs) all.1

  last-append : (xs ys : List X) → last_alone (last_alone xs ++ ys) ≡ last_alone (xs ++ ys)
  last-append [] ys = refl
  last-append (x ∷ []) ys = refl
  last-append (x ∷ y ∷ zs) ys = last-append (y ∷ zs) ys

  last_or-append : {Y : Type 0} (f : X → Y) (xs ys : List X) → last_or None (map f (last_alone xs ++ ys)) ≡ last_or None (map f (xs ++ ys))
  last_or-append f [] ys = refl
  last_or-append f (x ∷ []) ys = refl
  last_or-append f (x ∷ y ∷ zs) ys = last_or-append f (y ∷ zs) ys

  filter-all : (test : X → Bool) (xs : List X) → AllByRecursion (λ x. test x ≡ true) xs → filter test xs ≡ xs
  filter-all test [] all = refl
  filter-all test (x ∷ xs) all = ap (λ b. cond b (x ∷ filter test xs) (filter test xs)) all.0 ∙ ap (λ (l : List X). x ∷ l) (filter-all test xs all.1)

  filter-none : (test : X → Bool) (xs : List X) → AllByRecursion (λ x. test x ≡ false) xs → filter test xs ≡ []
  filter-none test [] all = refl
  filter-none test (x ∷ xs) all = ap (λ b. cond b (x ∷ filter test xs) (filter test xs)) all.0 ∙ filter-none test xs all.1

  filter-tests : (test : X → Bool) (xs : List X) → AllByRecursion (λ x. test x ≡ true) (filter test xs)
  filter-tests test [] = tt
  filter-tests test (x ∷ xs) =
      let rest = filter-tests test xs in
      choice (λ l. AllByRecursion (λ y. test y ≡ true) l) (test x) (x ∷ filter test xs) (filter test xs) (λ is. (is, rest)) (λ _. rest)

  all-map : (P Q : X → Type 0) → ((x : X) → P x → Q x) → (xs : List X) → AllByRecursion P xs → AllByRecursion Q xs
  all-map P Q of [] all = tt
  all-map P Q of (x ∷ xs) all = (of x all.0, all-map P Q of xs all.1)

  all-append : (P : X → Type 0) (xs ys : List X) → AllByRecursion P xs → AllByRecursion P ys → AllByRecursion P (xs ++ ys)
  all-append P [] ys all more = more
  all-append P (x ∷ xs) ys all more = (all.0, all-append P xs ys all.1 more)

-- SCHEDULES
abbrev pub past : ℕ → List Scheduled → List Scheduled
past n pairs = filter (λ q. not (nat_le n q.from)) pairs

abbrev pub pend : ℕ → List Scheduled → List Scheduled
pend n pairs = filter (λ q. nat_le n q.from) pairs

abbrev pub trim : ℕ → List Scheduled → List Scheduled
trim n pairs = last_alone (past n pairs) ++ pend n pairs

pub rises-weaken : (low high : ℕ) (pairs : List Scheduled) → low ≤ high → Rises high pairs → Rises low pairs
rises-weaken low high [] le rises = tt
rises-weaken low high (q ∷ qs) le rises = let above = rises.0 in (omega arith, rises.1)

rises-filter : (test : Scheduled → Bool) (low : ℕ) (pairs : List Scheduled) → Rises low pairs → Rises low (filter test pairs)
rises-filter test low [] rises = tt
rises-filter test low (q ∷ qs) rises =
    let above = rises.0 in
    choice (λ l. Rises low l) (test q) (q ∷ filter test qs) (filter test qs) (λ _. (above, rises-filter test (q.from + 1) qs rises.1))
    (λ _. rises-weaken low (q.from + 1) (filter test qs) (omega arith) (rises-filter test (q.from + 1) qs rises.1))

pub rises-one : (low : ℕ) (pairs : List Scheduled) (x : Scheduled) → Rises low pairs → low ≤ x.from → AllByRecursion (λ (q : Scheduled). q.from < x.from) pairs → Rises low (pairs ++ x ∷ [])
rises-one low [] x rises le all = (le, tt)
rises-one low (q ∷ qs) x rises le all = let below = all.0 in (rises.0, rises-one (q.from + 1) qs x rises.1 (omega arith) all.1)

rises-above : (n low : ℕ) (pairs : List Scheduled) → n ≤ low → Rises low pairs → AllByRecursion (λ (q : Scheduled). nat_le n q.from ≡ true) pairs
rises-above n low [] le rises = tt
rises-above n low (q ∷ qs) le rises = let above = rises.0 in (le-leb n q.from (omega arith), rises-above n (q.from + 1) qs (omega arith) rises.1)

split-by : (b : Bool) (n : ℕ) (q : Scheduled) (qs : List Scheduled) → nat_le n q.from ≡ b → Rises (q.from + 1) qs → past n qs ++ pend n qs ≡ qs
    → cond (not b) (q ∷ past n qs) (past n qs) ++ cond b (q ∷ pend n qs) (pend n qs) ≡ q ∷ qs
split-by true n q qs is rises same =
    let le = leb-true n q.from is in let above = rises-above n (q.from + 1) qs (omega arith) rises in
    ap (λ (l : List Scheduled). l ++ q ∷ pend n qs) (filter-none (λ r. not (nat_le n r.from)) qs (all-map (λ (r : Scheduled). nat_le n r.from ≡ true) (λ (r : Scheduled). not (nat_le n r.from) ≡ false) (λ r h. ap not h) qs above))
    ∙ ap (λ (l : List Scheduled). q ∷ l) (filter-all (λ r. nat_le n r.from) qs above)
split-by false n q qs is rises same = ap (λ (l : List Scheduled). q ∷ l) same

-- what is past stands before what is pending
pub split : (n low : ℕ) (pairs : List Scheduled) → Rises low pairs → past n pairs ++ pend n pairs ≡ pairs
split n low [] rises = refl
split n low (q ∷ qs) rises = split-by (nat_le n q.from) n q qs refl rises.1 (split n (q.from + 1) qs rises.1)

-- activations from packets below this one
abbrev pub Below : ℕ → List Scheduled → Type 0
Below n pairs = AllByRecursion (λ (q : Scheduled). q.from < n) pairs

not-le : (n k : ℕ) → not (nat_le n k) ≡ true → k < n
not-le n k h = grind (arith, common_steps)

pub past-below : (n : ℕ) (pairs : List Scheduled) → Below n (past n pairs)
past-below n pairs = all-map (λ (q : Scheduled). not (nat_le n q.from) ≡ true) (λ (q : Scheduled). q.from < n) (λ q h. not-le n q.from h) (past n pairs) (filter-tests (λ q. not (nat_le n q.from)) pairs)

pub lt-not : (n k : ℕ) → k < n → nat_le n k ≡ false
lt-not n k h = search (arith, h)

pub below-past : (n m : ℕ) (pairs : List Scheduled) → n ≤ m → Below n pairs → past m pairs ≡ pairs
below-past n m pairs le all = filter-all (λ q. not (nat_le m q.from)) pairs (all-map (λ (q : Scheduled). q.from < n) (λ (q : Scheduled). not (nat_le m q.from) ≡ true) (λ q h. ap not (lt-not m q.from (omega arith))) pairs all)

pub below-pend : (n m : ℕ) (pairs : List Scheduled) → n ≤ m → Below n pairs → pend m pairs ≡ []
below-pend n m pairs le all = filter-none (λ q. nat_le m q.from) pairs (all-map (λ (q : Scheduled). q.from < n) (λ (q : Scheduled). nat_le m q.from ≡ false) (λ q h. lt-not m q.from (omega arith)) pairs all)

trim-parts : (m n : ℕ) (xs ys : List Scheduled) → n ≤ m → Below n xs → trim m (xs ++ ys) ≡ last_alone (xs ++ past m ys) ++ pend m ys
trim-parts m n xs ys le below = λ i.
    last_alone ((filter-append (λ q. not (nat_le m q.from)) xs ys ∙ ap (λ (l : List Scheduled). l ++ past m ys) (below-past n m xs le below)) i)
    ++ (filter-append (λ q. nat_le m q.from) xs ys ∙ ap (λ (l : List Scheduled). l ++ pend m ys) (below-pend n m xs le below)) i

-- of what is past the last alone counts
trim-last : (m n : ℕ) (xs ys : List Scheduled) → n ≤ m → Below n xs → trim m (last_alone xs ++ ys) ≡ trim m (xs ++ ys)
trim-last m n xs ys le below =
    trim-parts m n (last_alone xs) ys le (all-last (λ (q : Scheduled). q.from < n) xs below)
    ∙ ap (λ (l : List Scheduled). l ++ pend m ys) (last-append xs (past m ys))
    ∙ sym (trim-parts m n xs ys le below)

trim-again : (m n low : ℕ) (pairs : List Scheduled) → n ≤ m → Rises low pairs → trim m (trim n pairs) ≡ trim m pairs
trim-again m n low pairs le rises = trim-last m n (past n pairs) (pend n pairs) le (past-below n pairs) ∙ ap (trim m) (split n low pairs rises)

pend-pend : (n : ℕ) (pairs : List Scheduled) → pend n (pend n pairs) ≡ pend n pairs
pend-pend n pairs = filter-all (λ q. nat_le n q.from) (pend n pairs) (filter-tests (λ q. nat_le n q.from) pairs)

past-pend : (n : ℕ) (pairs : List Scheduled) → past n (pend n pairs) ≡ []
past-pend n pairs = filter-none (λ q. not (nat_le n q.from)) (pend n pairs) (all-map (λ (q : Scheduled). nat_le n q.from ≡ true) (λ (q : Scheduled). not (nat_le n q.from) ≡ false) (λ q h. ap not h) (pend n pairs) (filter-tests (λ q. nat_le n q.from) pairs))

pub last-below : (n : ℕ) (pairs : List Scheduled) → Below n (last_alone (past n pairs))
last-below n pairs = all-last (λ (q : Scheduled). q.from < n) (past n pairs) (past-below n pairs)

-- a trimmed schedule has the same pending activations, and of the past ones the last
pub pend-trim : (n : ℕ) (pairs : List Scheduled) → pend n (trim n pairs) ≡ pend n pairs
pend-trim n pairs =
    filter-append (λ q. nat_le n q.from) (last_alone (past n pairs)) (pend n pairs)
    ∙ ap (λ (l : List Scheduled). l ++ pend n (pend n pairs)) (below-pend n n (last_alone (past n pairs)) (omega arith) (last-below n pairs))
    ∙ pend-pend n pairs

past-trim : (n : ℕ) (pairs : List Scheduled) → past n (trim n pairs) ≡ last_alone (past n pairs)
past-trim n pairs =
    filter-append (λ q. not (nat_le n q.from)) (last_alone (past n pairs)) (pend n pairs)
    ∙ ap (λ (l : List Scheduled). l ++ past n (pend n pairs)) (below-past n n (last_alone (past n pairs)) (omega arith) (last-below n pairs))
    ∙ ap (λ (l : List Scheduled). last_alone (past n pairs) ++ l) (past-pend n pairs)
    ∙ append-nil (last_alone (past n pairs))

-- ANSWERS
below-le : (n : ℕ) (pairs : List Scheduled) → Below n pairs → filter (λ q. nat_le q.from n) pairs ≡ pairs
below-le n pairs all = filter-all (λ q. nat_le q.from n) pairs (all-map (λ (q : Scheduled). q.from < n) (λ (q : Scheduled). nat_le q.from n ≡ true) (λ q h. le-leb q.from n (omega arith)) pairs all)

le-parts : (n : ℕ) (xs ys : List Scheduled) → Below n xs → filter (λ q. nat_le q.from n) (xs ++ ys) ≡ xs ++ filter (λ q. nat_le q.from n) ys
le-parts n xs ys below = filter-append (λ q. nat_le q.from n) xs ys ∙ ap (λ (l : List Scheduled). l ++ filter (λ q. nat_le q.from n) ys) (below-le n xs below)

abbrev pub edition_in : ℕ → List Scheduled → ℕ
edition_in n pairs = unwrap_or (last_or None (map (λ pair. pair.edition) (filter (λ pair. nat_le pair.from n) pairs))) 1

edition-trim : (n low : ℕ) (pairs : List Scheduled) → Rises low pairs → edition_in n (trim n pairs) ≡ edition_in n pairs
edition-trim n low pairs rises =
    let edition = λ (l : List Scheduled). unwrap_or (last_or None (map (λ (pair : Scheduled). pair.edition) l)) 1 in
    let rest = filter (λ (q : Scheduled). nat_le q.from n) (pend n pairs) in
    ap edition (le-parts n (last_alone (past n pairs)) (pend n pairs) (last-below n pairs))
    ∙ ap (λ (o : Option ℕ). unwrap_or o 1) (last_or-append (λ (pair : Scheduled). pair.edition) (past n pairs) rest)
    ∙ sym (ap edition (le-parts n (past n pairs) (pend n pairs) (past-below n pairs)))
    ∙ ap (edition_in n) (split n low pairs rises)

abbrev pub In : Register → Type 0
In s = Rises 0 s.schedule

pub same-answer : (s : Register) (e : Entry) → In s → answer_to (bounded s) e ≡ answer_to s e
unfolding answer_to
same-answer s Stamp rises = ap (λ e. Stamped s.next e (tables_of s e)) (edition-trim s.next 0 s.schedule rises)
same-answer s (Add tables plans) rises = refl
same-answer s (AddOn base tables plans) rises = refl
same-answer s (Use e) rises = refl
same-answer s (UseFrom e k) rises =
    ap (λ (l : List Scheduled).
    let last = option_map (λ (pair : Scheduled). pair.from) (last_or None l) in
    cond (not (has_edition s e)) (NoEdition (count_of_editions s))
    (cond (nat_lt k s.next) (Late s.next)
    (cond (is_disorder k last) (Disorder (unwrap_or last 0))
    (cond (nat_le most_pending (length l)) FullPending (Used k)))))
    (pend-trim s.next s.schedule)
same-answer s Newest rises = refl
same-answer s (Look e) rises = refl

-- STATES
again : (s : Register) → In s → bounded (bounded s) ≡ bounded s
again s rises = ap (λ (l : List Scheduled). record s { schedule = l }) (trim-again s.next s.next 0 s.schedule (omega arith) rises)

tables-same : (s : Register) (tables : Database) (a : Answer) → In s → bounded (with_tables (bounded s) tables a) ≡ bounded (with_tables s tables a)
tables-same s tables (Added e) rises = ap (λ (l : List Scheduled). record s { editions = s.editions ++ tables ∷ []; schedule = l }) (trim-again s.next s.next 0 s.schedule (omega arith) rises)
tables-same s tables other rises = again s rises

use-same : (s : Register) (e : ℕ) (a : Answer) → In s
    → bounded (with_activation (bounded s) (past s.next (trim s.next s.schedule)) e a) ≡ bounded (with_activation s (past s.next s.schedule) e a)
use-same s e (Used k) rises =
    let n = s.next in let x : Scheduled = record { from = k; edition = e } in
    ap (λ (l : List Scheduled). record s { schedule = trim n (l ++ x ∷ []) }) (past-trim n s.schedule)
    ∙ ap (λ (l : List Scheduled). record s { schedule = l }) (trim-last n n (past n s.schedule) (x ∷ []) (omega arith) (past-below n s.schedule))
use-same s e other rises = again s rises

use_from-same : (s : Register) (e : ℕ) (a : Answer) → In s → bounded (with_activation (bounded s) (trim s.next s.schedule) e a) ≡ bounded (with_activation s s.schedule e a)
use_from-same s e (Used k) rises =
    let n = s.next in let x : Scheduled = record { from = k; edition = e } in let xs = past n s.schedule in let ys = pend n s.schedule in
    ap (λ (l : List Scheduled). record s { schedule = l })
    (ap (trim n) (append_assoc (last_alone xs) ys (x ∷ []))
    ∙ trim-last n n xs (ys ++ x ∷ []) (omega arith) (past-below n s.schedule)
    ∙ ap (trim n) (sym (append_assoc xs ys (x ∷ [])) ∙ ap (λ (l : List Scheduled). l ++ x ∷ []) (split n 0 s.schedule rises)))
use_from-same s e other rises = again s rises

same-after : (s : Register) (e : Entry) → In s → bounded (after (bounded s) e) ≡ bounded (after s e)
unfolding after
same-after s Stamp rises = ap (λ (l : List Scheduled). record s { next = s.next + 1; schedule = l }) (trim-again (s.next + 1) s.next 0 s.schedule (omega arith) rises)
same-after s (Add tables plans) rises =
    ap (λ a. bounded (with_tables (bounded s) tables a)) (same-answer s (Add tables plans) rises) ∙ tables-same s tables (answer_to s (Add tables plans)) rises
same-after s (AddOn base tables plans) rises =
    ap (λ a. bounded (with_tables (bounded s) tables a)) (same-answer s (AddOn base tables plans) rises) ∙ tables-same s tables (answer_to s (AddOn base tables plans)) rises
same-after s (Use e) rises =
    ap (λ a. bounded (with_activation (bounded s) (past s.next (trim s.next s.schedule)) e a)) (same-answer s (Use e) rises) ∙ use-same s e (answer_to s (Use e)) rises
same-after s (UseFrom e k) rises =
    ap (λ a. bounded (with_activation (bounded s) (trim s.next s.schedule) e a)) (same-answer s (UseFrom e k) rises) ∙ use_from-same s e (answer_to s (UseFrom e k)) rises
same-after s Newest rises = again s rises
same-after s (Look e) rises = again s rises

-- ORDER
below-last : (k : ℕ) (p : Scheduled) (pairs : List Scheduled) → Rises (p.from + 1) pairs → is_disorder k (option_map (λ (pair : Scheduled). pair.from) (last_or (Some p) pairs)) ≡ false
    → (p.from < k) × Below k pairs
below-last k p [] rises last = (leb-false k p.from last, tt)
below-last k p (q ∷ qs) rises last = let rest = below-last k q qs rises.1 last in let lt = rest.0 in let above = rises.0 in (omega arith, rest)

pub below-all : (k low : ℕ) (pairs : List Scheduled) → Rises low pairs → is_disorder k (option_map (λ (pair : Scheduled). pair.from) (last_or None pairs)) ≡ false → Below k pairs
below-all k low [] rises last = tt
below-all k low (q ∷ qs) rises last = below-last k q qs rises.1 last

tables-in : (s : Register) (tables : Database) (a : Answer) → In s → In (with_tables s tables a)
tables-in s tables (Added e) rises = rises
tables-in s tables other rises = rises

use-in : (s : Register) (e : ℕ) → In s → In (after s (Use e))
unfolding after answer_to
use-in s e rises =
    let stay = past s.next s.schedule in
    choice (λ a. In (with_activation s stay e a)) (has_edition s e) (Used s.next) (NoEdition (count_of_editions s))
    (λ _. rises-one 0 stay (record { from = s.next; edition = e }) (rises-filter (λ q. not (nat_le s.next q.from)) 0 s.schedule rises) (omega arith) (past-below s.next s.schedule))
    (λ _. rises)

use_from-in : (s : Register) (e k : ℕ) → In s → In (after s (UseFrom e k))
unfolding after answer_to
use_from-in s e k rises =
    let n = s.next in
    let P : Answer → Type 0 = λ a. In (with_activation s s.schedule e a) in
    choice P (not (has_edition s e)) (NoEdition (count_of_editions s)) _ (λ h. rises) (λ h.
    choice P (nat_lt k s.next) (Late s.next) _ (λ i. rises) (λ i.
    choice P (is_disorder k (last_pending s)) (Disorder (unwrap_or (last_pending s) 0)) _ (λ j. rises) (λ j.
    choice P (nat_le most_pending (length (pending s))) FullPending (Used k) (λ l. rises)
    (λ l.
    let late = ltb-false k s.next i in
    let early : Below k (past n s.schedule) = all-map (λ (q : Scheduled). q.from < n) (λ (q : Scheduled). q.from < k) (λ q h. omega arith) (past n s.schedule) (past-below n s.schedule) in
    let waiting : Below k (pend n s.schedule) = below-all k 0 (pend n s.schedule) (rises-filter (λ q. nat_le n q.from) 0 s.schedule rises) j in
    rises-one 0 s.schedule (record { from = k; edition = e }) rises (omega arith)
    (subst (Below k) (split n 0 s.schedule rises) (all-append (λ (q : Scheduled). q.from < k) (past n s.schedule) (pend n s.schedule) early waiting))))))

in-step : (s : Register) (e : Entry) → In s → In (after s e)
unfolding after
in-step s Stamp rises = rises
in-step s (Add tables plans) rises = tables-in s tables (answer_to s (Add tables plans)) rises
in-step s (AddOn base tables plans) rises = tables-in s tables (answer_to s (AddOn base tables plans)) rises
in-step s (Use e) rises = use-in s e rises
in-step s (UseFrom e k) rises = use_from-in s e k rises
in-step s Newest rises = rises
in-step s (Look e) rises = rises

-- HISTORIES
pub same-state : (s : Register) (history : RegisterHistory) → In s → state_after bounded_after (bounded s) history ≡ bounded (state_after after s history)
same-state s [] rises = refl
same-state s (m ∷ ms) rises = ap (λ t. state_after bounded_after t ms) (same-after s m.entry rises) ∙ same-state (after s m.entry) ms (in-step s m.entry rises)

legal-there : (s : Register) (history : RegisterHistory) → In s → IsLegal answer_to bounded_after (bounded s) history → IsLegal answer_to after s history
legal-there s [] rises legal = tt
legal-there s (m ∷ ms) rises legal = (
  legal.0 ∙ same-answer s m.entry rises,
  legal-there (after s m.entry) ms (in-step s m.entry rises) (subst (λ t. IsLegal answer_to bounded_after t ms) (same-after s m.entry rises) legal.1),
)

legal-here : (s : Register) (history : RegisterHistory) → In s → IsLegal answer_to after s history → IsLegal answer_to bounded_after (bounded s) history
legal-here s [] rises legal = tt
legal-here s (m ∷ ms) rises legal = (
  legal.0 ∙ sym (same-answer s m.entry rises),
  subst (λ t. IsLegal answer_to bounded_after t ms) (sym (same-after s m.entry rises)) (legal-here (after s m.entry) ms (in-step s m.entry rises) legal.1),
)

pub bounded-serves : BoundedServes
bounded-serves first history =
    let rises : In (opening first) = (omega arith, tt) in (
      (legal-there (opening first) history rises, legal-here (opening first) history rises),
      same-state (opening first) history rises,
    )

-- SIZE
last-length : {X : Type 0} (xs : List X) → length (last_alone xs) ≤ 1
last-length [] = omega arith
last-length (x ∷ []) = omega arith
last-length (x ∷ y ∷ zs) = last-length (y ∷ zs)

pend-step : (b c : Bool) (q : Scheduled) (xs ys : List Scheduled) → (b ≡ true → c ≡ true) → length xs ≤ length ys → length (cond b (q ∷ xs) xs) ≤ length (cond c (q ∷ ys) ys)
pend-step true true q xs ys only le = omega arith
pend-step true false q xs ys only le = absurd (false≢true (only refl))
pend-step false true q xs ys only le = omega arith
pend-step false false q xs ys only le = le

-- fewer activations are pending before a later packet
pend-less : (n m : ℕ) (pairs : List Scheduled) → n ≤ m → length (pend m pairs) ≤ length (pend n pairs)
pend-less n m [] le = omega arith
pend-less n m (q ∷ qs) le =
    pend-step (nat_le m q.from) (nat_le n q.from) q (pend m qs) (pend n qs) (λ h. let above = leb-true m q.from h in le-leb n q.from (omega arith)) (pend-less n m qs le)

pend-one : (n : ℕ) (x : Scheduled) → length (pend n (x ∷ [])) ≤ 1
pend-one n x = choice (λ (l : List Scheduled). length l ≤ 1) (nat_le n x.from) (x ∷ []) [] (λ _. omega arith) (λ _. omega arith)

abbrev Few : Register → Type 0
Few s = length (pending s) ≤ 16

tables-few : (s : Register) (tables : Database) (a : Answer) → Few s → Few (with_tables s tables a)
tables-few s tables (Added e) few = few
tables-few s tables other few = few

use-few : (s : Register) (e : ℕ) → Few s → Few (after s (Use e))
unfolding after answer_to
use-few s e few =
    let n = s.next in let stay = past n s.schedule in let x : Scheduled = record { from = n; edition = e } in
    choice (λ a. Few (with_activation s stay e a)) (has_edition s e) (Used n) (NoEdition (count_of_editions s))
    (λ _. let parts = filter-append (λ q. nat_le n q.from) stay (x ∷ []) ∙ ap (λ (l : List Scheduled). l ++ pend n (x ∷ [])) (below-pend n n stay (omega arith) (past-below n s.schedule)) in
    let one = pend-one n x in let l = ap (λ (y : List Scheduled). length y) parts in omega arith)
    (λ _. few)

use_from-few : (s : Register) (e k : ℕ) → Few s → Few (after s (UseFrom e k))
unfolding after answer_to
use_from-few s e k few =
    let n = s.next in let x : Scheduled = record { from = k; edition = e } in
    let P : Answer → Type 0 = λ a. Few (with_activation s s.schedule e a) in
    choice P (not (has_edition s e)) (NoEdition (count_of_editions s)) _ (λ h. few) (λ h.
    choice P (nat_lt k s.next) (Late s.next) _ (λ i. few) (λ i.
    choice P (is_disorder k (last_pending s)) (Disorder (unwrap_or (last_pending s) 0)) _ (λ j. few) (λ j.
    choice P (nat_le most_pending (length (pending s))) FullPending (Used k) (λ l. few)
    (λ l.
    let room = leb-false most_pending (length (pending s)) l in
    let parts = ap (λ (y : List Scheduled). length y) (filter-append (λ q. nat_le n q.from) s.schedule (x ∷ [])) ∙ length-append (pend n s.schedule) (pend n (x ∷ [])) in
    let one = pend-one n x in omega arith))))

few-step : (s : Register) (e : Entry) → Few s → Few (after s e)
unfolding after
few-step s Stamp few = let less = pend-less s.next (s.next + 1) s.schedule (omega arith) in omega arith
few-step s (Add tables plans) few = tables-few s tables (answer_to s (Add tables plans)) few
few-step s (AddOn base tables plans) few = tables-few s tables (answer_to s (AddOn base tables plans)) few
few-step s (Use e) few = use-few s e few
few-step s (UseFrom e k) few = use_from-few s e k few
few-step s Newest few = few
few-step s (Look e) few = few

few-after : (s : Register) (history : RegisterHistory) → Few s → Few (state_after after s history)
few-after s [] few = few
few-after s (m ∷ ms) few = few-after (after s m.entry) ms (few-step s m.entry few)

trim-few : (s : Register) → Few s → length (bounded s).schedule ≤ 17
trim-few s few =
    let one = last-length (past s.next s.schedule) in let l = length-append (last_alone (past s.next s.schedule)) (pending s) in omega arith

pub few-activations : FewActivations
few-activations first history =
    let rises : In (opening first) = (omega arith, tt) in
    subst (λ (t : Register). length t.schedule ≤ 17) (sym (same-state (opening first) history rises)) (trim-few (state_after after (opening first) history) (few-after (opening first) history (omega arith)))

-- FORM
past-more : (n m : ℕ) (pairs : List Scheduled) → n ≤ m → length (past n pairs) ≤ length (past m pairs)
past-more n m [] le = omega arith
past-more n m (q ∷ qs) le =
    pend-step (not (nat_le n q.from)) (not (nat_le m q.from)) q (past n qs) (past m qs) (λ h. let lt = not-le n q.from h in ap not (lt-not m q.from (omega arith))) (past-more n m qs le)

abbrev Past : Register → Type 0
Past s = 1 ≤ length (past s.next s.schedule)

past-front : (n : ℕ) (xs ys : List Scheduled) → length (past n xs) ≤ length (past n (xs ++ ys))
past-front n xs ys = let l = ap (λ (y : List Scheduled). length y) (filter-append (λ q. not (nat_le n q.from)) xs ys) ∙ length-append (past n xs) (past n ys) in omega arith

tables-past : (s : Register) (tables : Database) (a : Answer) → Past s → Past (with_tables s tables a)
tables-past s tables (Added e) some = some
tables-past s tables other some = some

activation-past : (s : Register) (stay : List Scheduled) (e : ℕ) (a : Answer) → Past s → 1 ≤ length (past s.next stay) → Past (with_activation s stay e a)
activation-past s stay e (Used k) some staying = let l = past-front s.next stay (record { from = k; edition = e } ∷ []) in omega arith
activation-past s stay e other some staying = some

past-step : (s : Register) (e : Entry) → Past s → Past (after s e)
unfolding after
past-step s Stamp some = let more = past-more s.next (s.next + 1) s.schedule (omega arith) in omega arith
past-step s (Add tables plans) some = tables-past s tables (answer_to s (Add tables plans)) some
past-step s (AddOn base tables plans) some = tables-past s tables (answer_to s (AddOn base tables plans)) some
past-step s (Use e) some =
    let l = ap (λ (y : List Scheduled). length y) (below-past s.next s.next (past s.next s.schedule) (omega arith) (past-below s.next s.schedule)) in
    activation-past s (past s.next s.schedule) e (answer_to s (Use e)) some (omega arith)
past-step s (UseFrom e k) some = activation-past s s.schedule e (answer_to s (UseFrom e k)) some some
past-step s Newest some = some
past-step s (Look e) some = some

past-after : (s : Register) (history : RegisterHistory) → Past s → Past (state_after after s history)
past-after s [] some = some
past-after s (m ∷ ms) some = past-after (after s m.entry) ms (past-step s m.entry some)

pub in-after : (s : Register) (history : RegisterHistory) → In s → In (state_after after s history)
in-after s [] rises = rises
in-after s (m ∷ ms) rises = in-after (after s m.entry) ms (in-step s m.entry rises)

last-one : {X : Type 0} (xs : List X) → 1 ≤ length xs → (x : X) × (last_alone xs ≡ x ∷ [])
last-one [] some = absurd (omega arith)
last-one (x ∷ []) some = (x, refl)
last-one (x ∷ y ∷ zs) some = last-one (y ∷ zs) (omega arith)

bounded-kept : (s : Register) → Past s → IsKept (bounded s)
bounded-kept s some =
    let one = last-one (past s.next s.schedule) some in record {
      used = one.0;
      schedule = ap (λ (l : List Scheduled). l ++ pending s) one.1 ∙ ap (λ (l : List Scheduled). one.0 ∷ l) (sym (pend-trim s.next s.schedule));
      before = (subst (Below s.next) one.1 (last-below s.next s.schedule)).0;
    }

-- of rising activations none but the first is from the packet or an earlier one
pub later-none : (n low : ℕ) (pairs : List Scheduled) → n < low → Rises low pairs → filter (λ q. nat_le q.from n) pairs ≡ []
later-none n low [] lt rises = refl
later-none n low (q ∷ qs) lt rises =
    let above = rises.0 in
    ap (λ b. cond b (q ∷ filter (λ r. nat_le r.from n) qs) (filter (λ r. nat_le r.from n) qs)) (lt-not q.from n (omega arith))
    ∙ later-none n (q.from + 1) qs (omega arith) rises.1

pub edition-first : (n : ℕ) (used : Scheduled) (pairs : List Scheduled) → used.from < n → Rises n pairs → edition_in n (used ∷ pairs) ≡ edition_of n used pairs
edition-first n used pairs before rises =
    ap (λ b. unwrap_or (last_or None (map (λ (pair : Scheduled). pair.edition) (cond b (used ∷ filter (λ q. nat_le q.from n) pairs) (filter (λ q. nat_le q.from n) pairs)))) 1) (le-leb used.from n (omega arith))
    ∙ next-edition pairs rises
  where
    begins : (b : Bool) (q : Scheduled) (qs : List Scheduled) → nat_eq q.from n ≡ b → n ≤ q.from → Rises (q.from + 1) qs
        → unwrap_or (last_or (Some used.edition) (map (λ (pair : Scheduled). pair.edition) (filter (λ r. nat_le r.from n) (q ∷ qs)))) 1 ≡ cond b q.edition used.edition
    begins true q qs is le above =
        let same = eqb-true q.from n is in
        ap (λ b. unwrap_or (last_or (Some used.edition) (map (λ (pair : Scheduled). pair.edition) (cond b (q ∷ filter (λ r. nat_le r.from n) qs) (filter (λ r. nat_le r.from n) qs)))) 1) (le-leb q.from n (omega arith))
        ∙ ap (λ (l : List Scheduled). unwrap_or (last_or (Some q.edition) (map (λ (pair : Scheduled). pair.edition) l)) 1) (later-none n (q.from + 1) qs (omega arith) above)
    begins false q qs is le above =
        let other = eqb-false q.from n is in
        ap (λ (l : List Scheduled). unwrap_or (last_or (Some used.edition) (map (λ (pair : Scheduled). pair.edition) l)) 1) (later-none n q.from (q ∷ qs) (omega arith) (omega arith, above))

    next-edition : (pairs : List Scheduled) → Rises n pairs → unwrap_or (last_or (Some used.edition) (map (λ (pair : Scheduled). pair.edition) (filter (λ q. nat_le q.from n) pairs))) 1 ≡ edition_of n used pairs
    next-edition [] rises = refl
    next-edition (q ∷ qs) rises = begins (nat_eq q.from n) q qs refl rises.0 rises.1

rises-pending : (n low : ℕ) (pairs : List Scheduled) → Rises low pairs → AllByRecursion (λ (q : Scheduled). nat_le n q.from ≡ true) pairs → Rises n pairs
rises-pending n low [] rises all = tt
rises-pending n low (q ∷ qs) rises all = (leb-true n q.from all.0, rises.1)

bounded-edition : (s : Register) (kept : IsKept s) → Rises s.next (pending s) → edition_for s s.next ≡ edition_of s.next kept.used (pending s)
bounded-edition s kept rises = ap (edition_in s.next) kept.schedule ∙ edition-first s.next kept.used (pending s) kept.before rises

-- at the end of a history the pending activations rise from the next packet on
waiting-rises : (first : Database) (history : RegisterHistory) → let s = state_after bounded_after (opening first) history in Rises s.next (pending s)
waiting-rises first history =
    let s : Register = state_after after (opening first) history in
    let rises : In (opening first) = (omega arith, tt) in
    let here : In s = in-after (opening first) history rises in
    let waiting : Rises s.next (pend s.next s.schedule) = rises-pending s.next 0 (pend s.next s.schedule) (rises-filter (λ q. nat_le s.next q.from) 0 s.schedule here) (filter-tests (λ q. nat_le s.next q.from) s.schedule) in
    subst (λ (t : Register). Rises t.next (pending t)) (sym (same-state (opening first) history rises)) (subst (Rises s.next) (sym (pend-trim s.next s.schedule)) waiting)

pub keeps-one : KeepsOneInUse
keeps-one first history =
    let rises : In (opening first) = (omega arith, tt) in
    let kept = subst IsKept (sym (same-state (opening first) history rises)) (bounded-kept (state_after after (opening first) history) (past-after (opening first) history (omega arith))) in
    (kept, bounded-edition (state_after bounded_after (opening first) history) kept (waiting-rises first history))

-- MOVES
pub rises-past : (n : ℕ) (pairs : List Scheduled) → Rises n pairs → past n pairs ≡ []
rises-past n pairs rises = filter-none (λ q. not (nat_le n q.from)) pairs (all-map (λ (q : Scheduled). nat_le n q.from ≡ true) (λ (q : Scheduled). not (nat_le n q.from) ≡ false) (λ q h. ap not h) pairs (rises-above n n pairs (omega arith) rises))

pub rises-pend : (n : ℕ) (pairs : List Scheduled) → Rises n pairs → pend n pairs ≡ pairs
rises-pend n pairs rises = filter-all (λ q. nat_le n q.from) pairs (rises-above n n pairs (omega arith) rises)

-- what is past, and then activations that rise from the packet on
pub trim-kept : (n : ℕ) (xs pairs : List Scheduled) → Below n xs → Rises n pairs → trim n (xs ++ pairs) ≡ last_alone xs ++ pairs
trim-kept n xs pairs below rises =
    trim-parts n n xs pairs (omega arith) below
    ∙ ap (λ (l : List Scheduled). last_alone (xs ++ l) ++ pend n pairs) (rises-past n pairs rises)
    ∙ ap (λ (l : List Scheduled). last_alone l ++ pend n pairs) (append-nil xs)
    ∙ ap (λ (l : List Scheduled). last_alone xs ++ l) (rises-pend n pairs rises)

pub stamp-moves : (n : ℕ) (used : Scheduled) (pairs : List Scheduled) → used.from < n → Rises n pairs → trim (n + 1) (used ∷ pairs) ≡ (begun n used pairs).0 ∷ (begun n used pairs).1
stamp-moves n used [] before rises = trim-kept (n + 1) (used ∷ []) [] ((omega arith), tt) tt
stamp-moves n used (q ∷ qs) before rises = by (nat_eq q.from n) refl
  where
    by : (b : Bool) → nat_eq q.from n ≡ b → trim (n + 1) (used ∷ q ∷ qs) ≡ (cond {A = Scheduled × List Scheduled} b (q, qs) (used, q ∷ qs)).0 ∷ (cond {A = Scheduled × List Scheduled} b (q, qs) (used, q ∷ qs)).1
    by true is = let same = eqb-true q.from n is in trim-kept (n + 1) (used ∷ q ∷ []) qs ((omega arith), ((omega arith), tt)) (rises-weaken (n + 1) (q.from + 1) qs (omega arith) rises.1)
    by false is = let other = eqb-false q.from n is in let above = rises.0 in trim-kept (n + 1) (used ∷ []) (q ∷ qs) ((omega arith), tt) ((omega arith), rises.1)

kept-stays : (s : Register) (kept : IsKept s) → Rises s.next (pending s) → trim s.next s.schedule ≡ kept.used ∷ pending s
kept-stays s kept rises = ap (trim s.next) kept.schedule ∙ trim-kept s.next (kept.used ∷ []) (pending s) (kept.before, tt) rises

tables-moves : (s : Register) (kept : IsKept s) (tables : Database) (a : Answer) → Rises s.next (pending s) → (bounded (with_tables s tables a)).schedule ≡ kept.used ∷ pending s
tables-moves s kept tables (Added e) rises = kept-stays s kept rises
tables-moves s kept tables other rises = kept-stays s kept rises

pub past-kept : (s : Register) (kept : IsKept s) → Rises s.next (pending s) → past s.next s.schedule ≡ kept.used ∷ []
past-kept s kept rises =
    ap (past s.next) kept.schedule
    ∙ filter-append (λ q. not (nat_le s.next q.from)) (kept.used ∷ []) (pending s)
    ∙ ap (λ (l : List Scheduled). l ++ past s.next (pending s)) (below-past s.next s.next (kept.used ∷ []) (omega arith) (kept.before, tt))
    ∙ ap (λ (l : List Scheduled). kept.used ∷ l) (rises-past s.next (pending s) rises)

use-moves : (s : Register) (kept : IsKept s) (e : ℕ) → Rises s.next (pending s)
    → (bounded_after s (Use e)).schedule ≡ (kept_after s.next kept.used (pending s) (Use e) (answer_to s (Use e))).0 ∷ (kept_after s.next kept.used (pending s) (Use e) (answer_to s (Use e))).1
unfolding after answer_to
use-moves s kept e rises =
    let n = s.next in let x : Scheduled = record { from = n; edition = e } in
    choice (λ a. (bounded (with_activation s (past n s.schedule) e a)).schedule ≡ (kept_after n kept.used (pending s) (Use e) a).0 ∷ (kept_after n kept.used (pending s) (Use e) a).1)
    (has_edition s e) (Used n) (NoEdition (count_of_editions s))
    (λ _. ap (λ (l : List Scheduled). trim n (l ++ x ∷ [])) (past-kept s kept rises) ∙ trim-kept n (kept.used ∷ []) (x ∷ []) (kept.before, tt) ((omega arith), tt))
    (λ _. kept-stays s kept rises)

use_from-moves : (s : Register) (kept : IsKept s) (e k : ℕ) → Rises s.next (pending s)
    → (bounded_after s (UseFrom e k)).schedule ≡ (kept_after s.next kept.used (pending s) (UseFrom e k) (answer_to s (UseFrom e k))).0 ∷ (kept_after s.next kept.used (pending s) (UseFrom e k) (answer_to s (UseFrom e k))).1
unfolding after answer_to
use_from-moves s kept e k rises =
    let n = s.next in let x : Scheduled = record { from = k; edition = e } in
    let P : Answer → Type 0 = λ a. (bounded (with_activation s s.schedule e a)).schedule ≡ (kept_after n kept.used (pending s) (UseFrom e k) a).0 ∷ (kept_after n kept.used (pending s) (UseFrom e k) a).1 in
    choice P (not (has_edition s e)) (NoEdition (count_of_editions s)) _ (λ h. kept-stays s kept rises) (λ h.
    choice P (nat_lt k s.next) (Late s.next) _ (λ i. kept-stays s kept rises) (λ i.
    choice P (is_disorder k (last_pending s)) (Disorder (unwrap_or (last_pending s) 0)) _ (λ j. kept-stays s kept rises) (λ j.
    choice P (nat_le most_pending (length (pending s))) FullPending (Used k) (λ l. kept-stays s kept rises)
    (λ l.
    let late = ltb-false k s.next i in
    ap (λ (y : List Scheduled). trim n (y ++ x ∷ [])) kept.schedule
    ∙ trim-kept n (kept.used ∷ []) (pending s ++ x ∷ []) (kept.before, tt) (rises-one n (pending s) x rises (omega arith) (below-all k n (pending s) rises j))))))

moves : (s : Register) (kept : IsKept s) (e : Entry) → Rises s.next (pending s)
    → (bounded_after s e).schedule ≡ (kept_after s.next kept.used (pending s) e (answer_to s e)).0 ∷ (kept_after s.next kept.used (pending s) e (answer_to s e)).1
unfolding after
moves s kept Stamp rises = ap (trim (s.next + 1)) kept.schedule ∙ stamp-moves s.next kept.used (pending s) kept.before rises
moves s kept (Add tables plans) rises = tables-moves s kept tables (answer_to s (Add tables plans)) rises
moves s kept (AddOn base tables plans) rises = tables-moves s kept tables (answer_to s (AddOn base tables plans)) rises
moves s kept (Use e) rises = use-moves s kept e rises
moves s kept (UseFrom e k) rises = use_from-moves s kept e k rises
moves s kept Newest rises = kept-stays s kept rises
moves s kept (Look e) rises = kept-stays s kept rises

pub moves-kept : MovesKept
moves-kept first history e kept = moves (state_after bounded_after (opening first) history) kept e (waiting-rises first history)
