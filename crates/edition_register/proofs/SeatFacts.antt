-- What a seat of a register knows when it has its turn.
use Rattle.std.proofs.Common.{◌≡◌, ◌≢◌, ℕ, ◌+◌, ◌<◌, Bool, true, false, cond, ◌||◌, List, [], ◌∷◌, ◌++◌, length, Option, Some, None, Result, MatchOption, IfSome, is_some, sym, refl, ap, subst, ◌∙◌, arith, nat_eq, ◌==◌, eq-eqb}
use Rattle.std.proofs.lemmas.Bool.{false≢true, eqb-false}
use Rattle.std.specs.List.{AllByRecursion, list_any}
use Rattle.histories.specs.declared.history.Move.{Move}
use Rattle.histories.specs.History.{IsLegal, IsOfSeatsBelow, Permits, StartsWith, move, moves_of, state_after}
use Rattle.mib_model.specs.declared.database.Database.{Database}
use Rattle.run_model.specs.declared.register.Answer as seen_answer
use Rattle.run_model.specs.declared.register.Answer.TheVariants.{Stamped}
use Rattle.run_model.specs.declared.register.Entry as seen_entry
use Rattle.run_model.specs.declared.register.Entry.TheVariants.{Stamp}
use Rattle.run_model.specs.declared.register.Register.{Register}
use Rattle.run_model.specs.declared.register.Scheduled.{Scheduled}
use Rattle.run_model.specs.Register.{answer_to, opening}
use Rattle.run_model.specs.RegisterHistories.{IsRegisterHistory, MayEnter, RegisterHistory, register_after}
use Rattle.turn_cell.specs.declared.view.Holding.{Holding}
use Rattle.turn_cell.specs.Seats.{holdings_of, number_of, own_moves, seen_by}
use Rattle.turn_cell.specs.Views.{AreListed, holding, least, listed}
use Rattle.edition_register.specs.declared.start.Start.{Start}
use Rattle.edition_register.specs.Bounded.{bounded, bounded_after}
use Rattle.edition_register.specs.declared.entry.Reply.{Reply}
use Rattle.edition_register.specs.declared.entry.Reply.TheVariants as reply
use Rattle.edition_register.specs.declared.outcome.UseFault.{UseFault}
use Rattle.edition_register.specs.Seats.{IsUsed, Moves, RegisterSeat, StartFits, UsesAt, shown_in}
use Rattle.edition_register.specs.Shown.{HasItsTables, last_stamped}
use Rattle.edition_register.specs.Starts.{IsStart}
use Rattle.edition_register.specs.Stored.{FitsUse, GivesUse, answer_of, begins}
use Rattle.edition_register.proofs.BoundedFacts.{In, Below, bounded-serves, in-after, past, pend, past-below, last-below, same-answer, split}
use Rattle.edition_register.proofs.RegisterFacts.{all-filter, all-one, desk-shows, goes-on, intake-counts, tables-stay}

-- THE HISTORY: what the turn tells of it, in the words of the register
abbrev pub Turns : Register → RegisterHistory → Type 0
Turns s log = IsLegal answer_to bounded_after s log

pub legal-of : (first : Database) (s : Register) (log : RegisterHistory) → s ≡ opening first → Turns s log → IsRegisterHistory first log
legal-of first s log is legal = (bounded-serves first log).0.0 (subst (λ x. Turns x log) is legal)

pub state-of : (first : Database) (s : Register) (log : RegisterHistory) → s ≡ opening first → state_after bounded_after s log ≡ bounded (register_after first log)
state-of first s log is = ap (λ x. state_after bounded_after x log) is ∙ (bounded-serves first log).1

pub in-of : (first : Database) (log : RegisterHistory) → In (register_after first log)
in-of first log = in-after (opening first) log (omega arith, tt)

pub answer-of : (first : Database) (s : Register) (log : RegisterHistory) (e : seen_entry.Entry) → s ≡ opening first → answer_to (state_after bounded_after s log) e ≡ answer_to (register_after first log) e
answer-of first s log e is = ap (λ x. answer_to x e) (state-of first s log is) ∙ same-answer (register_after first log) e (in-of first log)

-- NUMBERS
pub next-fits : (first : Database) (s : Register) (log : RegisterHistory) → s ≡ opening first → Turns s log → Permits MayEnter log → length (moves_of 0 log) < 1000000000 → (state_after bounded_after s log).next < 18446744073709551615
next-fits first s log is legal permits few =
    let n = ap (λ (x : Register). x.next) (state-of first s log is) ∙ intake-counts first log (legal-of first s log is legal) permits in omega arith

-- STARTS
pub start-fits : {E B : Type 0} (tables : E → Database) (made_for : Database → B → Bool) (first : Database) (s : Register) (log own : RegisterHistory) (e : ℕ) (start : Option (Start E B))
    → s ≡ opening first → Turns s log → Permits MayEnter log → IsOfSeatsBelow 2 log → moves_of 1 log ≡ own
    → StartFits tables made_for (shown_in first own) e start → FitsUse tables made_for (state_after bounded_after s log) e start
start-fits tables made_for first s log own e start is legal permits below same fits =
    let shown : shown_in first own ≡ (state_after bounded_after s log).editions =
    sym (ap (λ (x : Register). x.editions) (state-of first s log is) ∙ desk-shows first log (legal-of first s log is legal) permits below ∙ ap (shown_in first) same) in
    subst (λ (l : List Database). StartFits tables made_for l e start) shown fits

-- ACTIVATIONS
any-parts : (n : ℕ) (xs ys : List Scheduled) → Below n xs → list_any (λ pair. pair.from == n) (xs ++ ys) ≡ list_any (λ pair. pair.from == n) ys
any-parts n [] ys below = refl
any-parts n (q ∷ qs) ys below =
    let before = below.0 in
    let other : (q.from == n) ≡ false = search arith in
    ap (λ b. b || list_any (λ pair. pair.from == n) (qs ++ ys)) other ∙ any-parts n qs ys below.1

any-pend : (n : ℕ) (pairs : List Scheduled) → In (record { next = n; editions = []; schedule = pairs }) → list_any (λ pair. pair.from == n) pairs ≡ list_any (λ pair. pair.from == n) (pend n pairs)
any-pend n pairs rises = ap (list_any (λ pair. pair.from == n)) (sym (split n 0 pairs rises)) ∙ any-parts n (past n pairs) (pend n pairs) (past-below n pairs)

begins-of : (s : Register) → In s → begins (bounded s) ≡ begins s
begins-of s rises =
    any-parts s.next _ (pend s.next s.schedule) (last-below s.next s.schedule)
    ∙ sym (any-pend s.next s.schedule rises)

none-by : (n : ℕ) (q : Scheduled) (b rest : Bool) (P : Type 0) → nat_eq q.from n ≡ b → (b || rest) ≡ false → (rest ≡ false → P) → (q.from ≢ n) × P
none-by n q true rest P is none of = absurd (false≢true (sym none))
none-by n q false rest P is none of = (eqb-false q.from n is, of none)

none-of : (n : ℕ) (pairs : List Scheduled) → list_any (λ pair. pair.from == n) pairs ≡ false → AllByRecursion (λ (pair : Scheduled). pair.from ≢ n) pairs
none-of n [] none = tt
none-of n (q ∷ qs) none = none-by n q (q.from == n) (list_any (λ pair. pair.from == n) qs) (AllByRecursion (λ (pair : Scheduled). pair.from ≢ n) qs) refl none (λ h. none-of n qs h)

-- MOVES
below-more : (callers : ℕ) (log : RegisterHistory) (m : Move seen_entry.Entry seen_answer.Answer) → IsOfSeatsBelow callers log → m.seat < callers → IsOfSeatsBelow callers (log ++ m ∷ [])
below-more callers [] m below low = (low, tt)
below-more callers (first ∷ more) m below low = (below.0, below-more callers more m below.1 low)

pub own-listed : (n : ℕ) (hs : List (Holding seen_entry.Entry seen_answer.Answer)) (ms : RegisterHistory) → hs ≡ holding n ms ∷ [] → listed (least hs) hs ≡ ms
own-listed n hs ms is = ap (λ (l : List (Holding seen_entry.Entry seen_answer.Answer)). listed (least l) l) is ∙ ap (λ b. cond b ms []) (eq-eqb n n refl)

pub own-in : (n : ℕ) (log : RegisterHistory) (hs : List (Holding seen_entry.Entry seen_answer.Answer)) (ms : RegisterHistory) → hs ≡ holding n ms ∷ [] → AreListed log hs → moves_of n log ≡ ms
own-in n log hs ms is all = (subst (λ l. AreListed log l) is all).0

abbrev pub moves-of : {P : Type 0} (number : ℕ) (first : Database) (s : Register) (old entered new : RegisterSeat P) (e : seen_entry.Entry) (a : seen_answer.Answer) (ms : RegisterHistory)
    → s ≡ opening first → holdings_of old ≡ holding number ms ∷ [] → holdings_of entered ≡ holdings_of old → StartsWith (seen_by entered) (seen_by old)
    → Turns s (seen_by entered) → Permits MayEnter (seen_by entered)
    → a ≡ answer_to (state_after bounded_after s (seen_by entered)) e
    → seen_by new ≡ seen_by entered ++ move (number_of entered) e a ∷ [] → own_moves new ≡ own_moves entered ++ move (number_of entered) e a ∷ []
    → Moves number first old new e a
moves-of number first s old entered new e a ms is holds same later legal permits answers seen own =
    let n : number_of entered ≡ number = ap least (same ∙ holds) in
    record {
      before = seen_by entered;
      later = later;
      legal = legal-of first s (seen_by entered) is legal;
      permitted = permits;
      answers = answers ∙ answer-of first s (seen_by entered) e is;
      seen = seen ∙ ap (λ k. seen_by entered ++ move k e a ∷ []) n;
      own = own ∙ ap (λ (l : RegisterHistory). l ++ move (number_of entered) e a ∷ []) (ap (λ hs. listed (least hs) hs) same) ∙ ap (λ k. own_moves old ++ move k e a ∷ []) n;
    }

-- each move that the seat has seen is of a seat below this number, that of its own entry too
pub below-of : {P : Type 0} (number callers : ℕ) (entered new : RegisterSeat P) (e : seen_entry.Entry) (a : seen_answer.Answer) (ms : RegisterHistory)
    → number < callers → holdings_of entered ≡ holding number ms ∷ [] → IsOfSeatsBelow callers (seen_by entered) → seen_by new ≡ seen_by entered ++ move (number_of entered) e a ∷ []
    → IsOfSeatsBelow callers (seen_by new)
below-of number callers entered new e a ms low holds below seen =
    subst (IsOfSeatsBelow callers) (sym (seen ∙ ap (λ hs. seen_by entered ++ move (least hs) e a ∷ []) holds))
    (below-more callers (seen_by entered) (move number e a) below low)

-- STAMPS
pub exactly-of : (first : Database) (s : Register) (log : RegisterHistory) (b : Bool) → s ≡ opening first → b ≡ begins (state_after bounded_after s log) → b ≡ begins (register_after first log)
exactly-of first s log b is same = same ∙ ap begins (state-of first s log is) ∙ begins-of (register_after first log) (in-of first log)

pub begins-as : {E B : Type 0} (tables : E → Database) (made_for : Database → B → Bool) (first : Database) (log own : RegisterHistory) (n e : ℕ) (t : Database) (start : Option (Start E B))
    → IsRegisterHistory first log → Permits MayEnter log → moves_of 0 log ≡ own → Stamped n e t ≡ answer_to (register_after first log) Stamp
    → is_some start ≡ begins (register_after first log) → IfSome start (λ x. IsStart tables made_for t x)
    → MatchOption start ((e, t) ≡ last_stamped (1, first) own) (λ x. IsStart tables made_for t x)
begins-as tables made_for first log own n e t None legal permits same given exactly fits =
    let s = register_after first log in
    goes-on first log n e t legal permits (sym given) (none-of s.next s.schedule (sym exactly)) ∙ ap (last_stamped (1, first)) same
begins-as tables made_for first log own n e t (Some x) legal permits same given exactly fits = fits

stamped-has : (s : Register) → HasItsTables s.editions (answer_to s Stamp)
unfolding answer_to
stamped-has s = refl

pub throughout-of : (first : Database) (log own : RegisterHistory) (a : seen_answer.Answer) → IsRegisterHistory first log → moves_of 0 log ≡ own → a ≡ answer_to (register_after first log) Stamp
    → AllByRecursion (λ m. HasItsTables (register_after first log).editions m.reply) (own ++ move 0 Stamp a ∷ [])
throughout-of first log own a legal same answers =
    let eds = (register_after first log).editions in
    let P : _ → Type 0 = λ m. HasItsTables eds m.reply in
    all-one P own (move 0 Stamp a) (subst (AllByRecursion P) same (all-filter P (λ m. m.seat == 0) log (tables-stay first log legal)))
    (subst (HasItsTables eds) (sym answers) (stamped-has (register_after first log)))

-- ACTIVATIONS: what the caller is given
module _ {E B P : Type 0} (tables : E → Database) where
  pub uses-of : (number : ℕ) (first : Database) (old new : RegisterSeat P) (e : seen_entry.Entry) (start : Option (Start E B)) (given : Reply E B) (result : Result ℕ (UseFault E B))
      → IsUsed given result → GivesUse start given → Moves number first old new e (answer_of tables given) → UsesAt number first old new e start result
  uses-of number first old new e start (reply.Used k) result is gives moves = subst (UsesAt number first old new e start) (sym is) moves
  uses-of number first old new e start (reply.NoEdition count back) result is gives moves = subst (UsesAt number first old new e start) (sym is) (moves, gives)
  uses-of number first old new e start (reply.Late next back) result is gives moves = subst (UsesAt number first old new e start) (sym is) (moves, gives)
  uses-of number first old new e start (reply.Disorder last back) result is gives moves = subst (UsesAt number first old new e start) (sym is) (moves, gives)
  uses-of number first old new e start (reply.FullPending back) result is gives moves = subst (UsesAt number first old new e start) (sym is) (moves, gives)
  uses-of number first old new e start (reply.Stamped n edition t begun) result is gives moves = absurd is
  uses-of number first old new e start (reply.Added edition) result is gives moves = absurd is
  uses-of number first old new e start (reply.FullEditions payload) result is gives moves = absurd is
  uses-of number first old new e start (reply.Stale newest payload) result is gives moves = absurd is
  uses-of number first old new e start (reply.Drawn edition t handle) result is gives moves = absurd is
