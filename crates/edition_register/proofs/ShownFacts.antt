-- What the moves of a seat show stays: editions only grow, and what an answer shows stands.
use Rattle.std.proofs.Common.{◌≡◌, ℕ, zero, suc, ◌+◌, ◌-◌, ◌≤◌, Bool, true, false, cond, not, nat_le, nat_lt, List, [], ◌∷◌, ◌++◌, length, map, get_or, Option, Some, None, refl, sym, ap, subst, ◌∙◌, length-append, arith}
use Rattle.std.specs.Prelude.{◌==◌, ◌&&◌, unwrap_or}
use Rattle.std.specs.List.{AllByRecursion, IsAmong, cons_option, filter, filter_map}
use Rattle.std.proofs.lemmas.Bool.{le-leb, leb-true}
use Rattle.std.proofs.lemmas.List.{append-nil, get_or_append_left}
use Rattle.std.proofs.Math.Seq.{get_or-append_seam}
use Rattle.histories.specs.declared.history.Move.{Move}
use Rattle.histories.specs.History.{moves_of, state_after, IsLegal}
use Rattle.mib_model.specs.declared.database.Database.{Database}
use Rattle.run_model.specs.declared.register.Answer.{Answer}
use Rattle.run_model.specs.declared.register.Answer.TheVariants as answer
use Rattle.run_model.specs.declared.register.Entry.{Entry}
use Rattle.run_model.specs.declared.register.Entry.TheVariants as entry
use Rattle.run_model.specs.declared.register.Register.{Register}
use Rattle.run_model.specs.declared.register.Scheduled.{Scheduled}
use Rattle.mib_model.specs.Database.{no_rows}
use Rattle.run_model.specs.Register.{after, answer_to, has_edition, is_disorder, is_pending, last_pending, most_editions, most_pending, opening, pending, tables_of, with_activation, with_tables}
use Rattle.edition_register.specs.Laws.{ShownStays}
use Rattle.edition_register.specs.Shown.{editions_shown, shown_by}

-- an edition of this number is there, with these tables
record Has (editions : List Database) (shown : ℕ × Database) : Type 0 where
  from : 1 ≤ shown.0
  to : shown.0 ≤ length editions
  tables : get_or editions (shown.0 - 1) no_rows ≡ shown.1

-- editions that begin with others
abbrev Grows : List Database → List Database → Type 0
Grows old new = (more : List Database) × (new ≡ old ++ more)

has-more : (old new : List Database) (shown : ℕ × Database) → Grows old new → Has old shown → Has new shown
has-more old new shown (more, is) h = subst (λ (l : List Database). Has l shown) (sym is) (record {
  from = h.from;
  to = let long = length-append old more in omega (arith, long, h.to);
  tables = get_or_append_left old more no_rows (shown.0 - 1) (omega (arith, h.from, h.to)) ∙ h.tables;
})

stays : (l : List Database) → Grows l l
stays l = ([], sym (append-nil l))

with-tables : (s : Register) (tables : Database) (a : Answer) → Grows s.editions (with_tables s tables a).editions
with-tables s tables (answer.Added e) = (tables ∷ [], refl)
with-tables s tables (answer.Stamped n e t) = stays s.editions
with-tables s tables answer.FullEditions = stays s.editions
with-tables s tables (answer.Stale n) = stays s.editions
with-tables s tables (answer.Used k) = stays s.editions
with-tables s tables (answer.NoEdition n) = stays s.editions
with-tables s tables (answer.Late n) = stays s.editions
with-tables s tables (answer.Disorder n) = stays s.editions
with-tables s tables answer.FullPending = stays s.editions
with-tables s tables (answer.Drawn e t) = stays s.editions

with-activation : (s : Register) (kept : List Scheduled) (e : ℕ) (a : Answer) → Grows s.editions (with_activation s kept e a).editions
with-activation s kept e (answer.Added n) = stays s.editions
with-activation s kept e (answer.Stamped n m t) = stays s.editions
with-activation s kept e answer.FullEditions = stays s.editions
with-activation s kept e (answer.Stale n) = stays s.editions
with-activation s kept e (answer.Used k) = stays s.editions
with-activation s kept e (answer.NoEdition n) = stays s.editions
with-activation s kept e (answer.Late n) = stays s.editions
with-activation s kept e (answer.Disorder n) = stays s.editions
with-activation s kept e answer.FullPending = stays s.editions
with-activation s kept e (answer.Drawn n t) = stays s.editions

pub grows : (s : Register) (e : Entry) → Grows s.editions (after s e).editions
unfolding after
grows s entry.Stamp = stays s.editions
grows s (entry.Add tables plans) = with-tables s tables (answer_to s (entry.Add tables plans))
grows s (entry.AddOn base tables plans) = with-tables s tables (answer_to s (entry.AddOn base tables plans))
grows s (entry.Use e) = with-activation s (filter (λ pair. not (is_pending s pair)) s.schedule) e (answer_to s (entry.Use e))
grows s (entry.UseFrom e k) = with-activation s s.schedule e (answer_to s (entry.UseFrom e k))
grows s entry.Newest = stays s.editions
grows s (entry.Look e) = stays s.editions

-- ANSWERS
abbrev ShownIn : List Database → Option (ℕ × Database) → Type 0
ShownIn editions None = Unit {0}
ShownIn editions (Some shown) = Has editions shown

last-has : (editions : List Database) (tables : Database) → Has (editions ++ tables ∷ []) (length editions + 1, tables)
last-has editions tables =
    let place : length editions ≡ length editions + 1 - 1 = omega arith in record {
      from = omega arith;
      to = let long = length-append editions (tables ∷ []) in omega (arith, long);
      tables = ap (λ (n : ℕ). get_or (editions ++ tables ∷ []) n no_rows) (sym place) ∙ get_or-append_seam editions tables [] no_rows;
    }

added-on : (s : Register) (base : ℕ) (tables : Database) (plans : List _) (same full : Bool)
    → ShownIn (with_tables s tables (cond same (cond full answer.FullEditions (answer.Added (length s.editions + 1))) (answer.Stale (length s.editions)))).editions
    (shown_by (entry.AddOn base tables plans) (cond same (cond full answer.FullEditions (answer.Added (length s.editions + 1))) (answer.Stale (length s.editions))))
added-on s base tables plans false full = tt
added-on s base tables plans true true = tt
added-on s base tables plans true false = last-has s.editions tables

added-not : (s : Register) (tables : Database) (plans : List _) (editions : List Database) (full : Bool)
    → ShownIn editions (shown_by (entry.Add tables plans) (cond full answer.FullEditions (answer.Added (length s.editions + 1))))
added-not s tables plans editions true = tt
added-not s tables plans editions false = tt

used-not : (e k count : ℕ) (editions : List Database) (has : Bool) → ShownIn editions (shown_by (entry.Use e) (cond has (answer.Used k) (answer.NoEdition count)))
used-not e k count editions true = tt
used-not e k count editions false = tt

used-from-not : (e k count next last : ℕ) (editions : List Database) (none late disorder full : Bool)
    → ShownIn editions (shown_by (entry.UseFrom e k) (cond none (answer.NoEdition count) (cond late (answer.Late next) (cond disorder (answer.Disorder last) (cond full answer.FullPending (answer.Used k))))))
used-from-not e k count next last editions true late disorder full = tt
used-from-not e k count next last editions false true disorder full = tt
used-from-not e k count next last editions false false true full = tt
used-from-not e k count next last editions false false false true = tt
used-from-not e k count next last editions false false false false = tt

and-left : (a b : Bool) → (a && b) ≡ true → a ≡ true
and-left true b e = refl
and-left false b e = e

and-right : (a b : Bool) → (a && b) ≡ true → b ≡ true
and-right true b e = e
and-right false b e = absurd (cc e)

looked : (s : Register) (e : ℕ) (has : Bool) → has_edition s e ≡ has
    → ShownIn s.editions (shown_by (entry.Look e) (cond has (answer.Drawn e (tables_of s e)) (answer.NoEdition (length s.editions))))
looked s e false is = tt
looked s e true is = record {
  from = leb-true 1 e (and-left (nat_le 1 e) (nat_le e (length s.editions)) is);
  to = leb-true e (length s.editions) (and-right (nat_le 1 e) (nat_le e (length s.editions)) is);
  tables = refl;
}

answers-show : (s : Register) → 1 ≤ length s.editions → (e : Entry) → ShownIn (after s e).editions (shown_by e (answer_to s e))
unfolding after answer_to
answers-show s some entry.Stamp = tt
answers-show s some (entry.Add tables plans) = added-not s tables plans _ (nat_le most_editions (length s.editions))
answers-show s some (entry.AddOn base tables plans) = added-on s base tables plans (base == length s.editions) (nat_le most_editions (length s.editions))
answers-show s some (entry.Use e) = used-not e s.next (length s.editions) _ (has_edition s e)
answers-show s some (entry.UseFrom e k) =
    used-from-not e k (length s.editions) s.next (unwrap_or (last_pending s) 0) _ (not (has_edition s e)) (nat_lt k s.next) (is_disorder k (last_pending s)) (nat_le most_pending (length (pending s)))
answers-show s some entry.Newest = record { from = some; to = omega arith; tables = refl }
answers-show s some (entry.Look e) = looked s e (has_edition s e) refl

-- HISTORIES
all-more : (old new : List Database) (list : List (ℕ × Database)) → Grows old new → AllByRecursion (Has old) list → AllByRecursion (Has new) list
all-more old new [] g all = tt
all-more old new (shown ∷ list) g all = (has-more old new shown g all.0, all-more old new list g all.1)

all-grow : (s : Register) (history : List (Move Entry Answer)) → Grows s.editions (state_after after s history).editions
all-grow s [] = stays s.editions
all-grow s (m ∷ ms) =
    let one = grows s m.entry in
    let rest = all-grow (after s m.entry) ms in
    (one.0 ++ rest.0, rest.1 ∙ (ap (λ (l : List Database). l ++ rest.0) one.1 ∙ Rattle.std.proofs.lemmas.List.append_assoc s.editions one.0 rest.0))

in-front : (editions : List Database) (o : Option (ℕ × Database)) (list : List (ℕ × Database)) → ShownIn editions o → AllByRecursion (Has editions) list → AllByRecursion (Has editions) (cons_option o list)
in-front editions None list one all = all
in-front editions (Some shown) list one all = (one, all)

shown-more : (old new : List Database) (o : Option (ℕ × Database)) → Grows old new → ShownIn old o → ShownIn new o
shown-more old new None g h = tt
shown-more old new (Some shown) g h = has-more old new shown g h

-- the editions that moves show
abbrev shown_of : List (Move Entry Answer) → List (ℕ × Database)
shown_of moves = filter_map (λ (m : Move Entry Answer). shown_by m.entry m.reply) moves

by-seat : (editions : List Database) (own : Bool) (m : Move Entry Answer) (ms : List (Move Entry Answer)) → ShownIn editions (shown_by m.entry m.reply) → AllByRecursion (Has editions) (shown_of ms)
    → AllByRecursion (Has editions) (shown_of (cond own (m ∷ ms) ms))
by-seat editions true m ms one all = in-front editions (shown_by m.entry m.reply) (shown_of ms) one all
by-seat editions false m ms one all = all

longer : (s : Register) (e : Entry) → 1 ≤ length s.editions → 1 ≤ length (after s e).editions
longer s e some = let g = grows s e in let long = ap length g.1 ∙ length-append s.editions g.0 in omega (arith, long, some)

history-shows : (s : Register) (history : List (Move Entry Answer)) (seat : ℕ) → 1 ≤ length s.editions → IsLegal answer_to after s history
    → AllByRecursion (Has (state_after after s history).editions) (shown_of (filter (λ m. m.seat == seat) history))
history-shows s [] seat some legal = tt
history-shows s (m ∷ ms) seat some legal =
    let next = after s m.entry in
    let shown : ShownIn next.editions (shown_by m.entry m.reply) =
    subst (λ (a : Answer). ShownIn next.editions (shown_by m.entry a)) (sym legal.0) (answers-show s some m.entry) in
    by-seat (state_after after next ms).editions (m.seat == seat) m (filter (λ m. m.seat == seat) ms)
    (shown-more next.editions (state_after after next ms).editions (shown_by m.entry m.reply) (all-grow next ms) shown)
    (history-shows next ms seat (longer s m.entry some) legal.1)

stands : (s : Register) (list : List (ℕ × Database)) → AllByRecursion (Has s.editions) list → AllByRecursion (λ shown. (has_edition s shown.0 ≡ true) × (tables_of s shown.0 ≡ shown.1)) list
stands s [] all = tt
stands s (shown ∷ list) all =
    let has : has_edition s shown.0 ≡ true =
    ap (λ (b : Bool). b && nat_le shown.0 (length s.editions)) (le-leb 1 shown.0 all.0.from) ∙ le-leb shown.0 (length s.editions) all.0.to in
    ((has, all.0.tables), stands s list all.1)

pub shown-stays : ShownStays
shown-stays first history seat legal =
    let end = state_after after (opening first) history in
    let one : Has (opening first).editions (1, first) = record { from = omega arith; to = omega arith; tables = refl } in
    stands end (editions_shown first (moves_of seat history))
    (has-more (first ∷ []) end.editions (1, first) (all-grow (opening first) history) one, history-shows (opening first) history seat (omega arith) legal)

-- what holds of all holds of each
pub all-at : {X : Type 0} (P : X → Type 0) (xs : List X) (x : X) → AllByRecursion P xs → IsAmong xs x → P x
all-at P [] x all (k, is) = let below = is.0 in absurd (omega arith)
all-at P (y ∷ ys) x all (zero, is) = subst P (sym is.1) all.0
all-at P (y ∷ ys) x all (suc k, is) = let below = is.0 in all-at P ys x all.1 (k, (omega arith, is.1))
