-- What the seat of a desk among several knows when it has its turn.
use Rattle.std.proofs.Common.{◌≡◌, ◌≢◌, ℕ, zero, suc, ◌+◌, ◌-◌, ◌<◌, ◌==◌, arith, append_assoc, inl, inr, eq-eqb, Bool, true, false, cond, List, [], ◌∷◌, ◌++◌, Option, Some, None, IsSome, length, sym, refl, ap, subst, ◌∙◌}
use Rattle.std.specs.Arc.{arc_value}
use Rattle.std.specs.List.{AllByRecursion}
use Rattle.histories.specs.History.{StartsWith, moves_of}
use Rattle.mib_model.specs.declared.database.Database.{Database}
use Rattle.run_model.specs.declared.register.Answer.{Answer}
use Rattle.run_model.specs.declared.register.Answer.TheVariants as answer
use Rattle.run_model.specs.declared.register.Entry.{Entry}
use Rattle.run_model.specs.declared.register.Entry.TheVariants as entry
use Rattle.run_model.specs.declared.register.Register.{Register}
use Rattle.mib_model.specs.Database.{no_rows}
use Rattle.run_model.specs.Register.{answer_to, count_of_editions, has_edition, opening, tables_of}
use Rattle.run_model.specs.RegisterHistories.{RegisterHistory, register_after}
use Rattle.histories.specs.History.{state_after}
use Rattle.std.proofs.lemmas.List.Sums.{sum_by-append, sum_by-cons}
use Rattle.std.proofs.lemmas.Bool.{cases_lt}
use Rattle.turn_cell.specs.Standings.{bit}
use Rattle.turn_cell.specs.declared.view.Holding.{Holding}
use Rattle.turn_cell.specs.Views.{AreListed, handed, holding, holdings_below, kept, times}
use Rattle.edition_register.specs.declared.start.Start.{Start}
use Rattle.edition_register.specs.Bounded.{bounded_after}
use Rattle.edition_register.specs.Panels.{IsShown}
use Rattle.edition_register.specs.Shown.{Stands, editions_shown}
use Rattle.edition_register.specs.Stored.{FitsUse}
use Rattle.edition_register.proofs.SeatFacts.{Turns, legal-of, state-of}
use Rattle.edition_register.proofs.ShownFacts.{all-at, shown-stays}

-- an edition that the seat's moves show stands in the machine, with these tables
pub start-shown : {E B : Type 0} (tables : E → Database) (made_for : Database → B → Bool) (first : Database) (s : Register) (log own : RegisterHistory) (number e : ℕ) (start : Start E B)
    → s ≡ opening first → Turns s log → moves_of number log ≡ own
    → IsShown tables made_for first own e start → FitsUse tables made_for (state_after bounded_after s log) e (Some start)
start-shown tables made_for first s log own number e start is legal same shown =
    let end = register_after first log in
    let now = state_after bounded_after s log in
    let editions : now.editions ≡ end.editions = ap (λ (x : Register). x.editions) (state-of first s log is) in
    let all = subst (λ l. AllByRecursion (Stands end) (editions_shown first l)) same (shown-stays first log number (legal-of first s log is legal)) in
    let stands : Stands end (e, tables (arc_value start.handle)) = all-at (Stands end) (editions_shown first own) (e, tables (arc_value start.handle)) all shown.0 in
    let over : List Database → Register = λ l. record { next = 0; editions = l; schedule = [] } in
    let same : tables (arc_value start.handle) ≡ tables_of now e = sym stands.1 ∙ sym (ap (λ l. tables_of (over l) e) editions) in
    (ap (λ l. has_edition (over l) e) editions ∙ stands.0, (same, subst (λ t. made_for t start.board ≡ true) same shown.1))

-- the number of the edition that an answer hands out, or 0
abbrev drawn_number : Answer → ℕ
drawn_number (answer.Drawn k t) = k
drawn_number other = 0

looked-by : (e k count : ℕ) (t shown : Database) (has : Bool) → answer.Drawn k t ≡ cond has (answer.Drawn e shown) (answer.NoEdition count) → k ≡ e
looked-by e k count t shown true is = ap drawn_number is
looked-by e k count t shown false is = absurd (cc is)

-- the edition that is handed out is the one that was asked for
pub looked-same : (s : Register) (e k : ℕ) (t : Database) → answer.Drawn k t ≡ answer_to s (entry.Look e) → k ≡ e
unfolding answer_to
looked-same s e k t is = looked-by e k (count_of_editions s) t (tables_of s e) (has_edition s e) is

-- SEATS
-- of the numbers below, the split hands on the greatest
pub handed-greatest : (n : ℕ) → n < 4 → (kept (holdings_below {E = Entry} {A = Answer} (n + 2)) ≡ holdings_below (n + 1)) × (handed (holdings_below {E = Entry} {A = Answer} (n + 2)) ≡ holding (n + 1) [] ∷ [])
handed-greatest zero few = (refl, refl)
handed-greatest (suc zero) few = (refl, refl)
handed-greatest (suc (suc zero)) few = (refl, refl)
handed-greatest (suc (suc (suc zero))) few = (refl, refl)
handed-greatest (suc (suc (suc (suc n)))) few = absurd (omega arith)

-- a history that begins with another begins with what that one begins with
pub starts-more : (initial old new : RegisterHistory) → StartsWith old initial → StartsWith new old → StartsWith new initial
starts-more initial old new (a, is) (b, more) = (a ++ b, more ∙ ap (λ (l : RegisterHistory). l ++ b) is ∙ append_assoc initial a b)

abbrev Held : Type 0
Held = Holding Entry Answer

times-same : (n : ℕ) (h : Held) (hs : List Held) → h.number ≡ n → times n (h ∷ hs) ≡ suc (times n hs)
times-same n h hs is =
    let one : bit (h.number == n) ≡ 1 = ap bit (eq-eqb h.number n is) in
    omega (arith, one, sum_by-cons (λ (k : Held). bit (k.number == n)) h hs)

-- a number that is held, by one more holding
pub times-more : (n : ℕ) (ms : RegisterHistory) (hs : List Held) → ((k : ℕ) → k < n → times k hs ≢ 0) → (k : ℕ) → k < n + 1 → times k (hs ++ holding n ms ∷ []) ≢ 0
times-more n ms hs all k low none =
    let sum : times k (hs ++ holding n ms ∷ []) ≡ times k hs + times k (holding n ms ∷ []) = sum_by-append (λ (h : Held). bit (h.number == k)) hs (holding n ms ∷ []) in
    elim (cases_lt k n) [
      | inl below ↦ all k below (omega arith)
      | inr past ↦ let same : n ≡ k = omega arith in let one = times-same k (holding n ms) [] same in absurd (omega arith)
    ]

-- what is listed of more holdings
pub listed-parts : (log : RegisterHistory) (n : ℕ) (ms : RegisterHistory) (hs : List Held) → AreListed log (hs ++ holding n ms ∷ []) → AreListed log hs × (moves_of n log ≡ ms)
listed-parts log n ms [] all = (tt, all.0)
listed-parts log n ms (h ∷ hs) all = let rest = listed-parts log n ms hs all.1 in ((all.0, rest.0), rest.1)

-- a list of which none was popped has none
pub none-left : {X Y : Type 0} (xs : List X) (o : Option Y) → o ≡ None → (0 < length xs → IsSome o) → xs ≡ []
none-left [] o is some = refl
none-left (x ∷ xs) o is some = absurd (cc (subst IsSome is (some (omega arith))))
