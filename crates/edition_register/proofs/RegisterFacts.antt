-- What the moves of each seat tell of the register.
use Rattle.std.proofs.Common.{◌≡◌, ◌≢◌, ℕ, zero, suc, ◌+◌, ◌-◌, ◌<◌, ◌≤◌, Bool, true, false, not, cond, List, [], ◌∷◌, ◌++◌, map, filter, length, Option, Some, None, is_some, unwrap_or, sym, refl, ap, subst, ◌∙◌, arith, nat_le, nat_lt, ◌==◌, length-append, append_assoc}
use Rattle.std.proofs.lemmas.Grind.{common_steps}
use Rattle.std.proofs.lemmas.List.{append-nil, get_or_append_left}
use Rattle.std.proofs.lemmas.Bool.{false≢true}
use Rattle.std.proofs.lemmas.Bool.Decides.{nat_tests}
use Rattle.std.specs.List.{AllByRecursion, last_or, slice_index_or}
use Rattle.histories.specs.History.{IsLegal, IsOfSeatsBelow, Permits, move, moves_of, state_after}
use Rattle.mib_model.specs.declared.database.Database.{Database}
use Rattle.run_model.specs.declared.register.Answer.{Answer}
use Rattle.run_model.specs.declared.register.Answer.TheVariants.{Stamped, Added, Used, NoEdition, Late, Disorder, FullPending}
use Rattle.run_model.specs.declared.register.Entry.{Entry}
use Rattle.run_model.specs.declared.register.Entry.TheVariants.{Stamp, Add, AddOn, Use, UseFrom, Newest, Look}
use Rattle.run_model.specs.declared.register.Register.{Register}
use Rattle.run_model.specs.declared.register.Scheduled.{Scheduled}
use Rattle.mib_model.specs.Database.{no_rows}
use Rattle.run_model.specs.Register.{opening, answer_to, after, with_tables, with_activation, is_pending, edition_for, has_edition, count_of_editions, is_disorder, last_pending, pending, most_pending, tables_of}
use Rattle.run_model.specs.RegisterHistories.{RegisterHistory, MayEnter, is_stamp, register_after, stamp_in}
use Rattle.mib_laws.proofs.Choices.{choice}
use Rattle.run_laws.proofs.RegisterFacts.{quiet, stays-stamped, with_activation-next, with_tables-next}
use Rattle.edition_register.specs.Shown.{stamped_by, last_stamped, added_by, added_in, HasItsTables, NoneBegins}
use Rattle.edition_register.specs.Laws.{IntakeCounts, DeskShowsEditions, StampGoesOn, TablesStay}

-- LISTS
pub all-filter : {X : Type 0} (P : X → Type 0) (test : X → Bool) (xs : List X) → AllByRecursion P xs → AllByRecursion P (filter test xs)
all-filter P test [] all = tt
all-filter P test (x ∷ xs) all =
    let rest = all-filter P test xs all.1 in
    choice (λ l. AllByRecursion P l) (test x) (x ∷ filter test xs) (filter test xs) (λ _. (all.0, rest)) (λ _. rest)

pub all-one : {X : Type 0} (P : X → Type 0) (xs : List X) (x : X) → AllByRecursion P xs → P x → AllByRecursion P (xs ++ x ∷ [])
all-one P [] x all here = (here, tt)
all-one P (y ∷ ys) x all here = (all.0, all-one P ys x all.1 here)

-- EDITIONS
tables-added : (s : Register) (tables : Database) (plans : List _) (a : Answer) → (with_tables s tables a).editions ≡ s.editions ++ added_by (Add tables plans) a
tables-added s tables plans (Added e) = refl
tables-added s tables plans other = sym (append-nil s.editions)

tables-added_on : (s : Register) (base : ℕ) (tables : Database) (plans : List _) (a : Answer) → (with_tables s tables a).editions ≡ s.editions ++ added_by (AddOn base tables plans) a
tables-added_on s base tables plans (Added e) = refl
tables-added_on s base tables plans other = sym (append-nil s.editions)

activation-editions : (s : Register) (stay : List Scheduled) (e : ℕ) (a : Answer) → (with_activation s stay e a).editions ≡ s.editions
activation-editions s stay e (Used k) = refl
activation-editions s stay e other = refl

-- an entry appends the tables that it adds
editions-step : (s : Register) (e : Entry) → (after s e).editions ≡ s.editions ++ added_by e (answer_to s e)
unfolding after
editions-step s Stamp = sym (append-nil s.editions)
editions-step s (Add tables plans) = tables-added s tables plans (answer_to s (Add tables plans))
editions-step s (AddOn base tables plans) = tables-added_on s base tables plans (answer_to s (AddOn base tables plans))
editions-step s (Use e) = activation-editions s (filter (λ pair. not (is_pending s pair)) s.schedule) e (answer_to s (Use e)) ∙ sym (append-nil s.editions)
editions-step s (UseFrom e k) = activation-editions s s.schedule e (answer_to s (UseFrom e k)) ∙ sym (append-nil s.editions)
editions-step s Newest = sym (append-nil s.editions)
editions-step s (Look e) = sym (append-nil s.editions)

-- the editions after a history are those before and those that it added
pub editions-of : (s : Register) (history : RegisterHistory) → IsLegal answer_to after s history → (state_after after s history).editions ≡ s.editions ++ added_in history
editions-of s [] legal = sym (append-nil s.editions)
editions-of s (m ∷ ms) legal =
    editions-of (after s m.entry) ms legal.1
    ∙ ap (λ (l : List Database). l ++ added_in ms) (editions-step s m.entry)
    ∙ append_assoc s.editions (added_by m.entry (answer_to s m.entry)) (added_in ms)
    ∙ ap (λ a. s.editions ++ (added_by m.entry a ++ added_in ms)) (sym legal.0)

stamp-adds_none : (e : Entry) (a : Answer) → is_stamp e ≡ true → added_by e a ≡ []
stamp-adds_none Stamp a stamp = refl
stamp-adds_none (Add tables plans) a stamp = absurd (false≢true stamp)
stamp-adds_none (AddOn base tables plans) a stamp = absurd (false≢true stamp)
stamp-adds_none (Use e) a stamp = refl
stamp-adds_none (UseFrom e k) a stamp = refl
stamp-adds_none Newest a stamp = refl
stamp-adds_none (Look e) a stamp = refl

desk-adds_step : (seat : ℕ) (e : Entry) (a : Answer) (ms : RegisterHistory) → MayEnter seat e → seat < 2 → added_in ms ≡ added_in (moves_of 1 ms) → added_by e a ++ added_in ms ≡ added_in (moves_of 1 (move seat e a ∷ ms))
desk-adds_step zero e a ms may below same = ap (λ (l : List Database). l ++ added_in ms) (stamp-adds_none e a may) ∙ same
desk-adds_step (suc zero) e a ms may below same = ap (λ (l : List Database). added_by e a ++ l) same
desk-adds_step (suc (suc n)) e a ms may below same = absurd (omega arith)

-- with one desk all tables are added by its moves
desk-adds : (history : RegisterHistory) → Permits MayEnter history → IsOfSeatsBelow 2 history → added_in history ≡ added_in (moves_of 1 history)
desk-adds [] permits below = refl
desk-adds (m ∷ ms) permits below = desk-adds_step m.seat m.entry m.reply ms permits.0 below.0 (desk-adds ms permits.1 below.1)

pub desk-shows : DeskShowsEditions
desk-shows first history legal permits below = editions-of (opening first) history legal ∙ ap (λ (l : List Database). first ∷ l) (desk-adds history permits below)

-- NUMBERS
next-stays : (s : Register) (e : Entry) → is_stamp e ≡ false → (after s e).next ≡ s.next
unfolding after
next-stays s Stamp other = absurd (false≢true (sym other))
next-stays s (Add tables plans) other = with_tables-next s tables (answer_to s (Add tables plans))
next-stays s (AddOn base tables plans) other = with_tables-next s tables (answer_to s (AddOn base tables plans))
next-stays s (Use e) other = with_activation-next s (filter (λ pair. not (is_pending s pair)) s.schedule) e (answer_to s (Use e))
next-stays s (UseFrom e k) other = with_activation-next s s.schedule e (answer_to s (UseFrom e k))
next-stays s Newest other = refl
next-stays s (Look e) other = refl

stamp-is : (e : Entry) → is_stamp e ≡ true → e ≡ Stamp
stamp-is Stamp stamp = refl
stamp-is (Add tables plans) stamp = absurd (false≢true stamp)
stamp-is (AddOn base tables plans) stamp = absurd (false≢true stamp)
stamp-is (Use e) stamp = absurd (false≢true stamp)
stamp-is (UseFrom e k) stamp = absurd (false≢true stamp)
stamp-is Newest stamp = absurd (false≢true stamp)
stamp-is (Look e) stamp = absurd (false≢true stamp)

next-stamped : (s : Register) → (after s Stamp).next ≡ s.next + 1
unfolding after
next-stamped s = refl

-- a move of another seat isn't the intake's
not-intake : (n : ℕ) (e : Entry) (a : Answer) (ms : RegisterHistory) → moves_of 0 (move (suc n) e a ∷ ms) ≡ moves_of 0 ms
not-intake n e a ms =
    let other : (suc n == 0) ≡ false = search arith in
    ap (λ b. cond b (move (suc n) e a ∷ moves_of 0 ms) (moves_of 0 ms)) other

next-step : (s : Register) (seat : ℕ) (e : Entry) (a : Answer) (ms : RegisterHistory) → MayEnter seat e → (after s e).next + length (moves_of 0 ms) ≡ s.next + length (moves_of 0 (move seat e a ∷ ms))
next-step s zero e a ms may = let n = ap (λ x. (after s x).next) (stamp-is e may) ∙ next-stamped s in omega arith
next-step s (suc n) e a ms may =
    ap (λ k. k + length (moves_of 0 ms)) (next-stays s e may) ∙ ap (λ (l : RegisterHistory). s.next + length l) (sym (not-intake n e a ms))

next-of : (s : Register) (history : RegisterHistory) → Permits MayEnter history → (state_after after s history).next ≡ s.next + length (moves_of 0 history)
next-of s [] permits = omega arith
next-of s (m ∷ ms) permits = next-of (after s m.entry) ms permits.1 ∙ next-step s m.seat m.entry m.reply ms permits.0

pub intake-counts : IntakeCounts
intake-counts first history legal permits = next-of (opening first) history permits

-- WHAT STAMPS SHOW
-- an edition of this number stands among these
abbrev Stands : List Database → ℕ → Type 0
Stands editions e = (1 ≤ e) × (e ≤ length editions)

stands-more : (editions more : List Database) (e : ℕ) → Stands editions e → Stands (editions ++ more) e
stands-more editions more e ok = let low = ok.0 in let high = ok.1 in let l = length-append editions more in (low, omega arith)

all-more : (editions more : List Database) (pairs : List Scheduled) → AllByRecursion (λ (q : Scheduled). Stands editions q.edition) pairs → AllByRecursion (λ (q : Scheduled). Stands (editions ++ more) q.edition) pairs
all-more editions more [] all = tt
all-more editions more (q ∷ qs) all = (stands-more editions more q.edition all.0, all-more editions more qs all.1)

last-stands : (editions : List Database) (pairs : List Scheduled) (o : Option ℕ) → Stands editions (unwrap_or o 1) → AllByRecursion (λ (q : Scheduled). Stands editions q.edition) pairs
    → Stands editions (unwrap_or (last_or o (map (λ (q : Scheduled). q.edition) pairs)) 1)
last-stands editions [] o ok all = ok
last-stands editions (q ∷ qs) o ok all = last-stands editions qs (Some q.edition) all.0 all.1

-- each activation is of an edition that stands
abbrev AllStand : Register → Type 0
AllStand s = AllByRecursion (λ (q : Scheduled). Stands s.editions q.edition) s.schedule

tables-all : (s : Register) (tables : Database) (a : Answer) → AllStand s → AllStand (with_tables s tables a)
tables-all s tables (Added e) all = all-more s.editions (tables ∷ []) s.schedule all
tables-all s tables other all = all

pub has_edition-stands : (s : Register) (e : ℕ) → has_edition s e ≡ true → Stands s.editions e
has_edition-stands s e has = grind (arith, common_steps)

use-all : (s : Register) (e : ℕ) → AllStand s → AllStand (after s (Use e))
unfolding after answer_to
use-all s e all =
    let stay = filter (λ q. not (is_pending s q)) s.schedule in
    choice (λ a. AllStand (with_activation s stay e a)) (has_edition s e) (Used s.next) (NoEdition (count_of_editions s))
    (λ has. all-one (λ (q : Scheduled). Stands s.editions q.edition) stay (record { from = s.next; edition = e })
    (all-filter (λ (q : Scheduled). Stands s.editions q.edition) (λ q. not (is_pending s q)) s.schedule all) (has_edition-stands s e has))
    (λ _. all)

not-false : (b : Bool) → not b ≡ false → b ≡ true
not-false true h = refl
not-false false h = absurd (false≢true (sym h))

use_from-all : (s : Register) (e k : ℕ) → AllStand s → AllStand (after s (UseFrom e k))
unfolding after answer_to
use_from-all s e k all =
    let P : Answer → Type 0 = λ a. AllStand (with_activation s s.schedule e a) in
    choice P (not (has_edition s e)) (NoEdition (count_of_editions s)) _ (λ h. all) (λ h.
    choice P (nat_lt k s.next) (Late s.next) _ (λ i. all) (λ i.
    choice P (is_disorder k (last_pending s)) (Disorder (unwrap_or (last_pending s) 0)) _ (λ j. all) (λ j.
    choice P (nat_le most_pending (length (pending s))) FullPending (Used k) (λ l. all)
    (λ l. all-one (λ (q : Scheduled). Stands s.editions q.edition) s.schedule (record { from = k; edition = e }) all (has_edition-stands s e (not-false (has_edition s e) h))))))

all-step : (s : Register) (e : Entry) → AllStand s → AllStand (after s e)
unfolding after
all-step s Stamp all = all
all-step s (Add tables plans) all = tables-all s tables (answer_to s (Add tables plans)) all
all-step s (AddOn base tables plans) all = tables-all s tables (answer_to s (AddOn base tables plans)) all
all-step s (Use e) all = use-all s e all
all-step s (UseFrom e k) all = use_from-all s e k all
all-step s Newest all = all
all-step s (Look e) all = all

-- the register after stamps of which the last gave this edition and these tables
pub record Goes (s : Register) (p : ℕ × Database) : Type 0 where
  pub next : 1 ≤ s.next
  pub some : 1 ≤ length s.editions
  pub all : AllByRecursion (λ (q : Scheduled). (1 ≤ q.edition) × (q.edition ≤ length s.editions)) s.schedule
  pub stands : (1 ≤ p.0) × (p.0 ≤ length s.editions)
  pub tables : p.1 ≡ tables_of s p.0
  pub edition : p.0 ≡ edition_for s (s.next - 1)

edition-stands : (s : Register) (n : ℕ) → 1 ≤ length s.editions → AllStand s → Stands s.editions (edition_for s n)
edition-stands s n some all =
    last-stands s.editions (filter (λ q. nat_le q.from n) s.schedule) None (omega arith, some)
    (all-filter (λ (q : Scheduled). Stands s.editions q.edition) (λ q. nat_le q.from n) s.schedule all)

-- an edition that stands keeps its tables
tables-more : (editions more : List Database) (e : ℕ) → Stands editions e → slice_index_or (editions ++ more) (e - 1) no_rows ≡ slice_index_or editions (e - 1) no_rows
tables-more editions more e ok = let low = ok.0 in let high = ok.1 in get_or_append_left editions more no_rows (e - 1) (omega arith)

goes-stamp : (s : Register) (p : ℕ × Database) → Goes s p → Goes (after s Stamp) (stamped_by p (answer_to s Stamp))
unfolding after answer_to
goes-stamp s p g = record {
  next = omega arith;
  some = g.some;
  all = g.all;
  stands = edition-stands s s.next g.some g.all;
  tables = refl;
  edition = ap (edition_for s) (let e : s.next ≡ s.next + 1 - 1 = omega arith in e);
}

stamped-none : (p : ℕ × Database) (a : Answer) → stamp_in a ≡ None → stamped_by p a ≡ p
stamped-none p (Stamped n e t) none = absurd (false≢true (sym (ap is_some none)))
stamped-none p other none = refl

goes-other : (s : Register) (e : Entry) (p : ℕ × Database) → is_stamp e ≡ false → Goes s p → Goes (after s e) p
goes-other s e p other g =
    let n = next-stays s e other in let one = g.next in
    let more : List Database = added_by e (answer_to s e) in let grown = editions-step s e in
    record {
      next = omega arith;
      some = (let l = ap (λ (x : List Database). length x) grown ∙ length-append s.editions more in let some = g.some in omega arith);
      all = all-step s e g.all;
      stands = subst (λ x. Stands x p.0) (sym grown) (stands-more s.editions more p.0 g.stands);
      tables = g.tables ∙ sym (tables-more s.editions more p.0 g.stands) ∙ ap (λ (x : List Database). slice_index_or x (p.0 - 1) no_rows) (sym grown);
      edition = g.edition ∙ sym (stays-stamped s e (s.next - 1) (omega arith)) ∙ ap (λ k. edition_for (after s e) (k - 1)) (sym n);
    }

goes-step_by : (b : Bool) (s : Register) (e : Entry) (p : ℕ × Database) → is_stamp e ≡ b → Goes s p → Goes (after s e) (stamped_by p (answer_to s e))
goes-step_by true s e p stamp g = subst (λ x. Goes (after s x) (stamped_by p (answer_to s x))) (sym (stamp-is e stamp)) (goes-stamp s p g)
goes-step_by false s e p other g = subst (λ q. Goes (after s e) q) (sym (stamped-none p (answer_to s e) (quiet s e other))) (goes-other s e p other g)

pub goes-after : (s : Register) (history : RegisterHistory) (p : ℕ × Database) → IsLegal answer_to after s history → Goes s p → Goes (state_after after s history) (last_stamped p history)
goes-after s [] p legal g = g
goes-after s (m ∷ ms) p legal g =
    goes-after (after s m.entry) ms (stamped_by p m.reply) legal.1
    (subst (λ a. Goes (after s m.entry) (stamped_by p a)) (sym legal.0) (goes-step_by (is_stamp m.entry) s m.entry p refl g))

pub goes-first : (first : Database) → Goes (opening first) (1, first)
goes-first first = record {
  next = omega arith;
  some = omega arith;
  all = ((omega arith, omega arith), tt);
  stands = (omega arith, omega arith);
  tables = refl;
  edition = refl;
}

intake-stamps_step : (s : Register) (seat : ℕ) (e : Entry) (a : Answer) (ms : RegisterHistory) (p : ℕ × Database) → a ≡ answer_to s e → MayEnter seat e
    → ((q : ℕ × Database) → last_stamped q ms ≡ last_stamped q (moves_of 0 ms)) → last_stamped (stamped_by p a) ms ≡ last_stamped p (moves_of 0 (move seat e a ∷ ms))
intake-stamps_step s zero e a ms p is may same = same (stamped_by p a)
intake-stamps_step s (suc n) e a ms p is may same =
    ap (λ q. last_stamped q ms) (stamped-none p a (ap stamp_in is ∙ quiet s e may)) ∙ same p ∙ ap (last_stamped p) (sym (not-intake n e a ms))

-- all stamps are the intake's
pub intake-stamps : (s : Register) (history : RegisterHistory) (p : ℕ × Database) → IsLegal answer_to after s history → Permits MayEnter history → last_stamped p history ≡ last_stamped p (moves_of 0 history)
intake-stamps s [] p legal permits = refl
intake-stamps s (m ∷ ms) p legal permits =
    intake-stamps_step s m.seat m.entry m.reply ms p legal.0 permits.0 (λ q. intake-stamps (after s m.entry) ms q legal.1 permits.1)

test-same : (k n : ℕ) → 1 ≤ n → k ≢ n → nat_le k n ≡ nat_le k (n - 1)
test-same k n one other = grind (arith, nat_tests)

-- where no activation begins, the next packet has the edition of the one before
none-begins : (n : ℕ) (pairs : List Scheduled) → 1 ≤ n → AllByRecursion (λ pair. pair.from ≢ n) pairs → filter (λ q. nat_le q.from n) pairs ≡ filter (λ q. nat_le q.from (n - 1)) pairs
none-begins n [] one none = refl
none-begins n (q ∷ qs) one none =
    ap (λ b. cond b (q ∷ filter (λ r. nat_le r.from n) qs) (filter (λ r. nat_le r.from n) qs)) (test-same q.from n one none.0)
    ∙ ap (λ (l : List Scheduled). cond (nat_le q.from (n - 1)) (q ∷ l) l) (none-begins n qs one none.1)

stamp-goes : (s : Register) (p : ℕ × Database) (n e : ℕ) (tables : Database) → Goes s p → answer_to s Stamp ≡ Stamped n e tables → NoneBegins s → (e, tables) ≡ p
unfolding answer_to
stamp-goes s p n e tables g given none =
    let same : edition_for s s.next ≡ p.0 = ap (λ (l : List Scheduled). unwrap_or (last_or None (map (λ pair. pair.edition) l)) 1) (none-begins s.next s.schedule g.next none) ∙ sym g.edition in
    sym (ap (stamped_by p) given) ∙ (λ i. (same i, (ap (tables_of s) same ∙ sym g.tables) i))

pub goes-on : StampGoesOn
goes-on first history n e tables legal permits given none =
    stamp-goes (register_after first history) (last_stamped (1, first) history) n e tables (goes-after (opening first) history (1, first) legal (goes-first first)) given none
    ∙ intake-stamps (opening first) history (1, first) legal permits

-- TABLES
has-none : (editions : List Database) (a : Answer) → stamp_in a ≡ None → HasItsTables editions a
has-none editions (Stamped n e t) none = absurd (false≢true (sym (ap is_some none)))
has-none editions other none = tt

has-tables_by : (b : Bool) (s : Register) (e : Entry) (p : ℕ × Database) (more : List Database) → is_stamp e ≡ b → Goes s p → HasItsTables (s.editions ++ more) (answer_to s e)
unfolding answer_to
has-tables_by true s e p more stamp g =
    subst (λ x. HasItsTables (s.editions ++ more) (answer_to s x)) (sym (stamp-is e stamp)) (sym (tables-more s.editions more (edition_for s s.next) (edition-stands s s.next g.some g.all)))
has-tables_by false s e p more other g = has-none (s.editions ++ more) (answer_to s e) (quiet s e other)

has-from : (s : Register) (history : RegisterHistory) (p : ℕ × Database) → IsLegal answer_to after s history → Goes s p → AllByRecursion (λ m. HasItsTables (state_after after s history).editions m.reply) history
has-from s [] p legal g = tt
has-from s (m ∷ ms) p legal g = (
  subst (λ (x : List Database × Answer). HasItsTables x.0 x.1) (λ i. (sym (editions-of s (m ∷ ms) legal) i, sym legal.0 i)) (has-tables_by (is_stamp m.entry) s m.entry p (added_in (m ∷ ms)) refl g),
  has-from (after s m.entry) ms (stamped_by p m.reply) legal.1 (subst (λ a. Goes (after s m.entry) (stamped_by p a)) (sym legal.0) (goes-step_by (is_stamp m.entry) s m.entry p refl g)),
)

pub tables-stay : TablesStay
tables-stay first history legal = has-from (opening first) history (1, first) legal (goes-first first)
