-- The steps of one seat keep the rule.
use Rattle.std.proofs.Common.{◌≡◌, ◌≢◌, ◌⊎◌, ℕ, zero, suc, Bool, true, false, true≢false, ◌+◌, ◌%◌, ◌<◌, ◌≤◌, List, [], ◌∷◌, ◌++◌, length, set, Option, Some, None, is_some, sym, refl, ap, ◌∙◌, subst, ⊎_elim, inl, inr, arith, length-append, append-nil, append_assoc, slice_index}
use Rattle.std.proofs.Math.Nat.{mod-eq_of_lt}
use mathlib.Core.Option.{some, some-ne-none, some-injective}
use mathlib.Core.Option as maybe
use mathlib.Core.Logic.{dite}
use native.Mathlib.Decide.{ℕ_discrete, dec_lt}
use lib.ListN.{get_elem?}
use Rattle.std.specs.List.{AllByRecursion}
use Rattle.atomic_table.specs.Table.{State, Me, Act, Valid, stepped, carried_after, put_back, keeps, takes, gives, Allows, rest}
use Rattle.atomic_table.proofs.Lists.{at_set, set_else, set_again}
use Rattle.histories.specs.declared.history.Move.{Move}
use Rattle.histories.specs.History.{move, moves_of, IsLegal, IsOfSeatsBelow, StartsWith, state_after}
use Rattle.histories.proofs.HistoryFacts.{state_after-append, IsLegal-append, IsOfSeatsBelow-append, Permits-append}
use Rattle.turn_cell.specs.declared.slot.Slot.{Slot}
use Rattle.turn_cell.specs.declared.slot.Slot.TheVariants.{Home, Noted, Out}
use Rattle.turn_cell.specs.declared.view.Standing.{Standing}
use Rattle.turn_cell.specs.declared.view.Standing.TheVariants.{Idle, Waiting, InTurn, Entered}
use Rattle.turn_cell.specs.declared.view.Origin.{Origin}
use Rattle.turn_cell.specs.declared.view.View.{View}
use Rattle.turn_cell.specs.Standings.{bit, has_ticket, has_turn, has_entered, ticket_of}
use Rattle.turn_cell.specs.Views.{times, least, listed, AreListed, origin_of, view, drawn, turned, entered, idle, spent}
use Rattle.turn_cell.specs.Rule.{Fits, IsSound, Free, Busy, Kept, Looks, Makes, Settles}
use Rattle.turn_cell.proofs.Sums.{sum_by-set_at, one-le-sum_by, two-le-sum_by, sum_by-le_at}
use Rattle.turn_cell.proofs.Holdings.{least_held, moves_of_is, moves_of-own, moves_of-other, AreListed-with_move, AreListed-other, times-with_move, length-with_move}
use Rattle.turn_cell.proofs.Histories.{length-le}

pub at_here : {V : Type 0} (views : List V) (i : ℕ) (v w : V) → get_elem? views i ≡ some v → get_elem? (set views i w) i ≡ some w
at_here [] i v w at = absurd (some-ne-none v (sym at))
at_here (x ∷ xs) zero v w at = refl
at_here (x ∷ xs) (suc i) v w at = at_here xs i v w at

pub at_same : {V : Type 0} (views : List V) (i j : ℕ) (u v : V) → get_elem? views i ≡ some u → get_elem? views j ≡ some v → i ≡ j → u ≡ v
at_same views i j u v a b same = some-injective u v (sym a ∙ ap (get_elem? views) same ∙ b)

bit_le : (n : ℕ) (b : Bool) → (b ≡ true → 1 ≤ n) → bit b ≤ n
bit_le n true le = le refl
bit_le n false le = omega arith

pub not_true : (b : Bool) → b ≢ true → b ≡ false
not_true true n = absurd (n refl)
not_true false n = refl

pub no_true : (b : Bool) → b ≡ false → b ≢ true
no_true b off on = true≢false (sym on ∙ off)

pub turn_has_ticket : (s : Standing) → has_turn s ≡ true → has_ticket s ≡ true
turn_has_ticket Idle e = e
turn_has_ticket (Waiting t) e = refl
turn_has_ticket (InTurn t) e = refl
turn_has_ticket (Entered t) e = refl

pub entered_has_turn : (s : Standing) → has_entered s ≡ true → has_turn s ≡ true
entered_has_turn Idle e = e
entered_has_turn (Waiting t) e = e
entered_has_turn (InTurn t) e = refl
entered_has_turn (Entered t) e = refl

pub some_same : {C : Type 0} (c d : C) → Some c ≡ Some d → c ≡ d
some_same {C} c d e = ap (within c) e
  where
    within : {C : Type 0} → C → Option C → C
    within c None = c
    within c (Some d) = d

abbrev note_in : {S N : Type 0} → N → Slot S N → N
note_in x (Home s) = x
note_in x (Noted y) = y
note_in x Out = x

abbrev note_at : {S N : Type 0} → N → List (ℕ × Slot S N) → N
note_at x [] = x
note_at x (y ∷ ys) = note_in x y.1

module _ {C E A : Type 0} (start : Origin C) where
  -- a view that knows some origin, or that holds a number, is of a seat that is not spent
  pub known_origin : (tickets serving : ℕ) (log : List (Move E A)) (v : View C E A) → Fits start tickets serving log v → (c : Origin C) → v.origin ≡ Some c → v.origin ≡ Some start
  known_origin tickets serving log v ok c is = ⊎_elim (λ known. known) (λ gone. absurd (true≢false (ap is_some (sym is ∙ ap (λ (w : View C E A). w.origin) gone)))) ok.known

  pub holder_origin : (tickets serving : ℕ) (log : List (Move E A)) (v : View C E A) → Fits start tickets serving log v → 1 ≤ length v.holdings → v.origin ≡ Some start
  holder_origin tickets serving log v ok some_number = ⊎_elim (λ known. known) (λ gone. let e = ap (λ (w : View C E A). length w.holdings) gone in absurd (omega arith)) ok.known

  -- the view of a seat without a ticket
  pub resting : (tickets serving : ℕ) (log : List (Move E A)) (v : View C E A) → has_ticket v.standing ≡ false → has_turn v.standing ≡ false
      → ((v.origin ≡ Some start) ⊎ (v ≡ spent)) → StartsWith log v.seen → AreListed v.seen v.holdings → AreListed log v.holdings → AllByRecursion (StartsWith v.seen) v.fronts
      → Fits start tickets serving log v
  resting tickets serving log v out off known seen within all fronts = record {
    known = known;
    ticket = (λ e. absurd (no_true (has_ticket v.standing) out e));
    turn = (λ e. absurd (no_true (has_turn v.standing) off e));
    seen = seen;
    within = within;
    all = all;
    fronts = fronts;
    room = (λ e _. absurd (no_true (has_ticket v.standing) out e));
  }

  -- the same view, standing elsewhere
  pub stand : (tickets serving tickets' serving' : ℕ) (log : List (Move E A)) (v : View C E A) (s : Standing) → Fits start tickets serving log v → v.origin ≡ Some start
      → (has_ticket s ≡ true → (serving' ≤ ticket_of s) × (ticket_of s < tickets') × (1 ≤ length v.holdings))
      → has_turn s ≡ false
      → (has_ticket s ≡ true → length (moves_of (least v.holdings) log) < 4294967296)
      → Fits start tickets' serving' log (view v.origin v.holdings s v.seen)
  stand tickets serving tickets' serving' log v s ok known ticket out room = record {
    known = inl known;
    ticket = ticket;
    turn = (λ e. absurd (no_true (has_turn s) out e));
    seen = ok.seen;
    within = ok.within;
    all = ok.all;
    fronts = tt;
    room = (λ has _. room has);
  }

-- the state after one more move
pub state_after-move : {C E A : Type 0} (after : C → E → C) (c d : C) (seen seen' : List (Move E A)) (m : Move E A) → seen' ≡ seen ++ m ∷ [] → d ≡ after (state_after after c seen) m.entry → d ≡ state_after after c seen'
state_after-move after c d seen seen' m is so = so ∙ sym (state_after-append after c seen (m ∷ [])) ∙ ap (state_after after c) (sym is)

module _ {S C E A : Type 0} (N : Type 0) (mean : S → C) (reply : C → E → A) (after : C → E → C) (may : ℕ → E → Type 0) (start : Origin C) where
  abbrev opening : C
  opening = start.state

  abbrev callers : ℕ
  callers = start.callers

  abbrev V : Type 0
  V = View C E A

  abbrev St : Type 0
  St = State (Slot S N) V

  abbrev M : Type 0
  M = Me (Slot S N) V

  abbrev L : Type 0
  L = List (Move E A)

  abbrev Homes : Type 0
  Homes = List (maybe.Option (Slot S N))

  abbrev K : St → Type 0
  K = Kept mean reply after may start

  abbrev Desk : ℕ → L → Homes → List V → Type 0
  Desk serving log homes views = Free mean reply after may opening serving log homes views ⊎ Busy mean reply after may serving log homes views

  -- no word wraps
  count_small : (s : St) (k : K s) → length k.log ≤ 1095216660480
  count_small s k = let a = length-le callers k.log k.sound.seats k.sound.short in let f = k.sound.few in omega arith

  serving_small : (s : St) (k : K s) → k.serving ≤ length k.log
  serving_small s k = ⊎_elim (λ free. let e = free.1 in omega arith) (λ busy. let e = busy.4 in omega arith) k.desk

  tickets_small : (s : St) (k : K s) → k.tickets ≤ 1095216660735
  tickets_small s k =
      let a = sum_by-le_at (λ (v : V). bit (has_ticket v.standing)) (λ (v : V). length v.holdings) s.views (λ i v at. bit_le (length v.holdings) (has_ticket v.standing) (λ has. ((k.each i v at).ticket has).2)) in
      let b = k.waiting in let c = k.shared.held in let d = k.sound.few in let e = count_small s k in let f = serving_small s k in
      omega arith

  -- a step of one view that leaves its numbers
  moved : (s : St) (k : K s) (id : ℕ) (v w : V) → get_elem? s.views id ≡ some v
      → (words' : List ℕ) (homes' : Homes) (tickets' serving' : ℕ) (log' : L)
      → words' ≡ tickets' ∷ serving' ∷ length log' ∷ callers ∷ []
      → IsSound reply after may start log'
      → ((n : ℕ) → times n w.holdings ≡ times n v.holdings) → length w.holdings ≡ length v.holdings
      → k.tickets + bit (has_ticket w.standing) + serving' ≡ tickets' + bit (has_ticket v.standing) + k.serving
      → Fits start tickets' serving' log' w
      → ((j : ℕ) (u : V) → j ≢ id → get_elem? s.views j ≡ some u → Fits start tickets' serving' log' u)
      → ((j : ℕ) (u : V) → j ≢ id → get_elem? s.views j ≡ some u → has_ticket u.standing ≡ true → has_ticket w.standing ≡ true → ticket_of u.standing ≢ ticket_of w.standing)
      → Desk serving' log' homes' (set s.views id w)
      → K record { words = words'; homes = homes'; views = set s.views id w }
  moved s k id v w at words' homes' tickets' serving' log' words sound same as_many tickets mine others alone desk = record {
    tickets = tickets';
    serving = serving';
    log = log';
    words = words;
    sound = sound;
    shared = record {
      held = (let t = sum_by-set_at (λ (y : V). length y.holdings) s.views id v w at in let a = k.shared.held in omega arith);
      once = (λ n lt. let t = sum_by-set_at (λ (y : V). times n y.holdings) s.views id v w at in let e = same n in let a = k.shared.once n lt in omega arith);
      never = (λ n le. let t = sum_by-set_at (λ (y : V). times n y.holdings) s.views id v w at in let e = same n in let a = k.shared.never n le in omega arith);
    };
    waiting = (let t = sum_by-set_at (λ (y : V). bit (has_ticket y.standing)) s.views id v w at in let a = k.waiting in omega arith);
    each = (λ i y here. ⊎_elim (λ (x : (i ≡ id) × (w ≡ y)). subst (Fits start tickets' serving' log') x.1 mine) (λ (x : (i ≢ id) × (get_elem? s.views i ≡ some y)). others i y x.0 x.1) (at_set s.views id i w y here));
    apart = (λ i j y z at_i at_j y_has z_has same_ticket.
        ⊎_elim
        (λ (x : (i ≡ id) × (w ≡ y)). ⊎_elim
        (λ (x' : (j ≡ id) × (w ≡ z)). x.0 ∙ sym x'.0)
        (λ (x' : (j ≢ id) × (get_elem? s.views j ≡ some z)). absurd (alone j z x'.0 x'.1 z_has (ap (λ (a : V). has_ticket a.standing) x.1 ∙ y_has) (sym same_ticket ∙ sym (ap (λ (a : V). ticket_of a.standing) x.1))))
        (at_set s.views id j w z at_j))
        (λ (x : (i ≢ id) × (get_elem? s.views i ≡ some y)). ⊎_elim
        (λ (x' : (j ≡ id) × (w ≡ z)). absurd (alone i y x.0 x.1 y_has (ap (λ (a : V). has_ticket a.standing) x'.1 ∙ z_has) (same_ticket ∙ sym (ap (λ (a : V). ticket_of a.standing) x'.1))))
        (λ (x' : (j ≢ id) × (get_elem? s.views j ≡ some z)). k.apart i j y z x.1 x'.1 y_has z_has same_ticket)
        (at_set s.views id j w z at_j))
        (at_set s.views id i w y at_i));
    desk = desk;
  }

  -- who has the turn is the seat whose ticket is served
  turn_is : (s : St) (k : K s) (id j : ℕ) (v u : V) → get_elem? s.views id ≡ some v → get_elem? s.views j ≡ some u → has_ticket v.standing ≡ true → ticket_of v.standing ≡ k.serving → has_turn u.standing ≡ true → j ≡ id
  turn_is s k id j v u at at' waits ticket turn = let t = (k.each j u at').turn turn in k.apart j id u v at' at (turn_has_ticket u.standing turn) waits (t.0 ∙ sym ticket)

  -- a step of a view without the turn leaves the desk
  desk_stays : (s : St) (k : K s) (id : ℕ) (v w : V) → get_elem? s.views id ≡ some v → has_turn v.standing ≡ false → has_turn w.standing ≡ false → Desk k.serving k.log s.homes (set s.views id w)
  desk_stays s k id v w at off off' = ⊎_elim
      (λ (free : Free mean reply after may opening k.serving k.log s.homes s.views). inl (
        (λ i y here. ⊎_elim (λ (z : (i ≡ id) × (w ≡ y)). ap (λ (a : V). has_turn a.standing) (sym z.1) ∙ off') (λ (z : (i ≢ id) × (get_elem? s.views i ≡ some y)). free.0 i y z.1) (at_set s.views id i w y here)),
        free.1,
        free.2,
      ))
      (λ (busy : Busy mean reply after may k.serving k.log s.homes s.views).
      let other : busy.0 ≢ id = λ e. no_true (has_turn v.standing) off (ap (λ (a : V). has_turn a.standing) (at_same s.views id busy.0 v busy.1 at busy.2 (sym e)) ∙ busy.3) in
      inr (busy.0, busy.1, set_else s.views id busy.0 w other ∙ busy.2, busy.3, busy.4, busy.5))
      k.desk

  pub draws : (slots id : ℕ) (me : M) → me.0.standing ≡ Idle → 1 ≤ length me.0.holdings → length (listed (least me.0.holdings) me.0.holdings) < 4294967296
      → Allows K slots id me 0 (λ n. (n + 1) % 18446744073709551616) (λ found n. n ≡ (drawn me.0 found, me.1))
  draws slots id me standing some_number room s k wide at _ =
      let v : V = me.0 in let n : ℕ = slice_index s.words 0 in let w : V = drawn v n in
      let is : n ≡ k.tickets = ap (λ (ws : List ℕ). slice_index ws 0) k.words in
      let small = tickets_small s k in
      let next : (n + 1) % 18446744073709551616 ≡ k.tickets + 1 = mod-eq_of_lt (omega arith) ∙ (omega arith) in
      let ok = k.each id v at in
      let off : has_turn v.standing ≡ false = ap has_turn standing in
      let none : bit (has_ticket v.standing) ≡ 0 = ap (λ t. bit (has_ticket t)) standing in (
        w,
        keeps,
        tt,
        moved s k id v w at (set s.words 0 ((n + 1) % 18446744073709551616)) s.homes (k.tickets + 1) k.serving k.log
            (ap (λ (ws : List ℕ). set ws 0 ((n + 1) % 18446744073709551616)) k.words ∙ ap (λ (t : ℕ). t ∷ k.serving ∷ length k.log ∷ callers ∷ []) next)
            k.sound (λ _. refl) refl (omega arith)
            (stand start k.tickets k.serving (k.tickets + 1) k.serving k.log v (Waiting n) ok (holder_origin start k.tickets k.serving k.log v ok some_number)
            (λ _. ((let a = k.waiting in omega arith), (omega arith), some_number))
            refl
            (λ _. let e = ap (λ (l : L). length l) (moves_of_is k.log (least v.holdings) v.holdings ok.all (least_held v.holdings some_number)) in omega arith))
            (λ j u other there. let f = k.each j u there in record {
              known = f.known;
              ticket = (λ has. let x = f.ticket has in let a = x.1 in (x.0, (omega arith), x.2));
              turn = f.turn;
              seen = f.seen;
              within = f.within;
              all = f.all;
              fronts = f.fronts;
              room = f.room;
            })
            (λ j u other there has _ same. let x = (k.each j u there).ticket has in let a = x.1 in absurd (omega arith))
            (desk_stays s k id v w at off refl),
        refl,
      )

  -- a step that changes nothing
  stays : (s : St) (k : K s) (id : ℕ) (v : V) → get_elem? s.views id ≡ some v → (word : ℕ) → word ≡ k.serving → K record { words = set s.words 1 word; homes = s.homes; views = set s.views id v }
  stays s k id v at word is =
      moved s k id v v at (set s.words 1 word) s.homes k.tickets k.serving k.log
      (ap (λ (ws : List ℕ). set ws 1 word) k.words ∙ ap (λ (t : ℕ). k.tickets ∷ t ∷ length k.log ∷ callers ∷ []) is)
      k.sound (λ _. refl) refl (omega arith) (k.each id v at) (λ j u other there. k.each j u there)
      (λ j u other there u_has v_has same. other (k.apart j id u v there at u_has v_has same))
      (subst (λ (vs : List V). Desk k.serving k.log s.homes vs) (sym (set_again s.views id v at)) k.desk)

  look_hit : (s : St) (k : K s) (id : ℕ) (me : M) → get_elem? s.views id ≡ some me.0 → has_ticket me.0.standing ≡ true → has_turn me.0.standing ≡ false → ticket_of me.0.standing ≡ k.serving
      → (found : ℕ) → found ≡ k.serving
      → (w : V) × (a : Act (Slot S N)) × Valid s.homes me.1 a × K (stepped s 1 found id me.1 w a) × Looks mean reply after may me found (w, carried_after me.1 a)
  unfolding origin_of
  look_hit s k id me at waits off mine found is =
      let v : V = me.0 in let w : V = turned v k.log in let ok = k.each id v at in
      let known = holder_origin start k.tickets k.serving k.log v ok (ok.ticket waits).2 in
      let fresh : has_entered v.standing ≡ false = not_true (has_entered v.standing) (λ e. no_true (has_turn v.standing) off (entered_has_turn v.standing e)) in
      ⊎_elim
      (λ (free : Free mean reply after may opening k.serving k.log s.homes s.views). (
        w,
        takes 0 (Home free.2.0),
        ap (λ (hs : Homes). get_elem? hs 0) free.2.1,
        moved s k id v w at (set s.words 1 found) (set s.homes 0 maybe.none) k.tickets k.serving k.log
            (ap (λ (ws : List ℕ). set ws 1 found) k.words ∙ ap (λ (t : ℕ). k.tickets ∷ t ∷ length k.log ∷ callers ∷ []) is)
            k.sound (λ _. refl) refl (let a = ap bit waits in omega arith)
            record {
              known = inl known;
              ticket = (λ _. ok.ticket waits);
              turn = (λ _. (mine, refl));
              seen = ([], sym (append-nil k.log));
              within = ok.all;
              all = ok.all;
              fronts = tt;
              room = (λ _ _. ok.room waits fresh);
            }
            (λ j u other there. k.each j u there)
            (λ j u other there u_has _ same. other (k.apart j id u v there at u_has waits same))
            (inr (id, w, at_here s.views id v w at, refl, (let a = free.1 in omega arith), ap (λ (hs : Homes). set hs 0 maybe.none) free.2.1)),
        (
          (λ _. (
            free.2.0,
            k.log,
            refl,
            ok.seen,
            ok.all,
            k.sound.permitted,
            (λ c n c_is.
                let same : start ≡ origin_of c n = some_same start (origin_of c n) (sym known ∙ c_is) in
                subst (λ (d : Origin C). (mean free.2.0 ≡ state_after after d.state k.log) × IsLegal reply after d.state k.log × IsOfSeatsBelow d.callers k.log) same (free.2.2, k.sound.legal, k.sound.seats)),
          )),
          (λ miss. absurd (miss (is ∙ sym mine))),
        ),
      ))
      (λ (busy : Busy mean reply after may k.serving k.log s.homes s.views).
      let same : busy.0 ≡ id = turn_is s k id busy.0 v busy.1 at busy.2 waits mine busy.3 in
      let e : v ≡ busy.1 = at_same s.views id busy.0 v busy.1 at busy.2 (sym same) in
      absurd (no_true (has_turn v.standing) off (ap (λ (a : V). has_turn a.standing) e ∙ busy.3)))
      k.desk

  pub looks : (slots id : ℕ) (me : M) → has_ticket me.0.standing ≡ true → has_turn me.0.standing ≡ false → Allows K slots id me 1 (λ n. n) (Looks mean reply after may me)
  looks slots id me waits off s k wide at _ =
      let found : ℕ = slice_index s.words 1 in
      let is : found ≡ k.serving = ap (λ (ws : List ℕ). slice_index ws 1) k.words in
      dite (ℕ_discrete found (ticket_of me.0.standing))
      (λ hit. look_hit s k id me at waits off (sym hit ∙ is) found is)
      (λ miss. (me.0, keeps, tt, stays s k id me.0 at found is, ((λ hit. absurd (miss hit)), λ _. refl)))

  -- who holds a number is the only one
  pub apart_numbers : (s : St) (k : K s) (i j n : ℕ) (u v : V) → get_elem? s.views i ≡ some u → get_elem? s.views j ≡ some v → i ≢ j → times n u.holdings ≢ 0 → times n v.holdings ≡ 0
  apart_numbers s k i j n u v at at' apart some_n =
      let both = two-le-sum_by (λ (y : V). times n y.holdings) s.views i j u v at at' apart in
      dite (dec_lt n callers)
      (λ lt. let e = k.shared.once n lt in omega arith)
      (λ ge. let e = k.shared.never n (omega arith) in omega arith)

  pub in_callers : (s : St) (k : K s) (i n : ℕ) (u : V) → get_elem? s.views i ≡ some u → times n u.holdings ≢ 0 → n < callers
  in_callers s k i n u at some_n =
      let one = one-le-sum_by (λ (y : V). times n y.holdings) s.views i u at in
      dite (dec_lt n callers) (λ lt. lt) (λ ge. let e = k.shared.never n (omega arith) in absurd (omega arith))

  -- another seat's view after an entry
  seen_by_others : (s : St) (k : K s) (id j : ℕ) (v u : V) (m : Move E A) → get_elem? s.views id ≡ some v → get_elem? s.views j ≡ some u → j ≢ id → has_ticket v.standing ≡ true → ticket_of v.standing ≡ k.serving → times m.seat v.holdings ≢ 0
      → Fits start k.tickets k.serving (k.log ++ m ∷ []) u
  seen_by_others s k id j v u m at there other waits ticket own =
      let f = k.each j u there in
      let none : times m.seat u.holdings ≡ 0 = apart_numbers s k id j m.seat v u at there (λ q. other (sym q)) own in
      record {
        known = f.known;
        ticket = f.ticket;
        turn = (λ e. absurd (other (turn_is s k id j v u at there waits ticket e)));
        seen = (f.seen.0 ++ m ∷ [], ap (λ (l : L). l ++ m ∷ []) f.seen.1 ∙ append_assoc u.seen f.seen.0 (m ∷ []));
        within = f.within;
        all = AreListed-other k.log m u.holdings none f.all;
        fronts = f.fronts;
        room = (λ has fresh.
            let mine = least_held u.holdings (f.ticket has).2 in
            let e = ap (λ (l : L). length l) (moves_of-other (least u.holdings) k.log m (λ e. mine (ap (λ (q : ℕ). times q u.holdings) (sym e) ∙ none))) in
            let r = f.room has fresh in omega arith);
      }

  -- no number gets too many entries
  short_after : (s : St) (k : K s) (m : Move E A) → length (moves_of m.seat k.log) < 4294967296 → (n : ℕ) → length (moves_of n (k.log ++ m ∷ [])) ≤ 4294967296
  short_after s k m room n = dite (ℕ_discrete m.seat n)
      (λ is.
      let e = ap (λ (l : L). length l) (moves_of-own n k.log m is) ∙ length-append (moves_of n k.log) (m ∷ []) in
      let r = subst (λ (i : ℕ). length (moves_of i k.log) < 4294967296) is room in
      omega arith)
      (λ other. let short = k.sound.short n in let e = ap (λ (l : L). length l) (moves_of-other n k.log m other) in omega arith)

  pub makes : (event : N → E) (slots id : ℕ) (me : M) (note : N) → has_turn me.0.standing ≡ true → has_entered me.0.standing ≡ false → me.1 ≡ (0, Noted note) ∷ [] → may (least me.0.holdings) (event note)
      → Allows K slots id me 2 (λ n. (n + 1) % 18446744073709551616) (λ _. Makes reply after event me)
  unfolding origin_of
  makes event slots id me note turn fresh slot allowed s k wide at _ =
      let v : V = me.0 in let ok = k.each id v at in let t = ok.turn turn in let waits = turn_has_ticket v.standing turn in let number : ℕ = least v.holdings in
      let known = holder_origin start k.tickets k.serving k.log v ok (ok.ticket waits).2 in
      let a : A = reply (state_after after opening v.seen) (event note) in
      let m : Move E A = move number (event note) a in
      let w : V = entered v (event note) a in
      let log' : L = k.log ++ m ∷ [] in
      let n : ℕ = slice_index s.words 2 in
      let is : n ≡ length k.log = ap (λ (ws : List ℕ). slice_index ws 2) k.words in
      let small = count_small s k in
      let longer : length log' ≡ length k.log + 1 = length-append k.log (m ∷ []) in
      let next : (n + 1) % 18446744073709551616 ≡ length log' = mod-eq_of_lt (omega arith) ∙ (omega arith) in
      let own : times number v.holdings ≢ 0 = least_held v.holdings (ok.ticket waits).2 in
      let lt : number < callers = in_callers s k id number v at own in
      let seen_is : w.seen ≡ log' = ap (λ (l : L). l ++ m ∷ []) t.1 in (
        w,
        keeps,
        tt,
        moved s k id v w at (set s.words 2 ((n + 1) % 18446744073709551616)) s.homes k.tickets k.serving log'
            (ap (λ (ws : List ℕ). set ws 2 ((n + 1) % 18446744073709551616)) k.words ∙ ap (λ (c : ℕ). k.tickets ∷ k.serving ∷ c ∷ callers ∷ []) next)
            record {
              few = k.sound.few;
              legal = IsLegal-append after reply opening k.log (m ∷ []) k.sound.legal (ap (λ (l : L). reply (state_after after opening l) (event note)) t.1, tt);
              permitted = Permits-append may k.log (m ∷ []) k.sound.permitted (allowed, tt);
              seats = IsOfSeatsBelow-append callers k.log (m ∷ []) k.sound.seats (lt, tt);
              short = short_after s k m (ok.room waits fresh);
            }
            (λ i. times-with_move i m v.holdings) (length-with_move m v.holdings) (let b = ap bit waits in omega arith)
            record {
              known = inl known;
              ticket = (λ _. let x = ok.ticket waits in let some_number = x.2 in let e = length-with_move m v.holdings in (x.0, x.1, omega arith));
              turn = (λ _. (t.0, seen_is));
              seen = ([], sym seen_is ∙ sym (append-nil w.seen));
              within = AreListed-with_move v.seen m v.holdings ok.within;
              all = AreListed-with_move k.log m v.holdings ok.all;
              fronts = tt;
              room = (λ _ e. absurd (true≢false e));
            }
            (λ j u other there. seen_by_others s k id j v u m at there other waits t.0 own)
            (λ j u other there u_has _ same. other (k.apart j id u v there at u_has waits same))
            (⊎_elim
            (λ (free : Free mean reply after may opening k.serving k.log s.homes s.views). absurd (no_true (has_turn v.standing) (free.0 id v at) turn))
            (λ (busy : Busy mean reply after may k.serving k.log s.homes s.views).
            let same : busy.0 ≡ id = turn_is s k id busy.0 v busy.1 at busy.2 waits t.0 busy.3 in
            let e : v ≡ busy.1 = at_same s.views id busy.0 v busy.1 at busy.2 (sym same) in
            let b : bit (has_entered busy.1.standing) ≡ 0 = ap (λ (y : V). bit (has_entered y.standing)) (sym e) ∙ ap bit fresh in
            let c = busy.4 in
            inr (id, w, at_here s.views id v w at, refl, (omega arith), busy.5))
            k.desk),
        (λ y c n e c_is.
            let same : note ≡ y = ap (λ (l : List (ℕ × Slot S N)). note_at note l) (sym slot ∙ e) in
            let same_origin : start ≡ origin_of c n = some_same start (origin_of c n) (sym known ∙ c_is) in
            λ i. (entered v (event (same i)) (reply (state_after after (same_origin i).state v.seen) (event (same i))), me.1)),
      )

  pub passes : (slots id : ℕ) (me : M) (x : S) (c : C) (n : ℕ) → has_entered me.0.standing ≡ true → me.1 ≡ (0, Home x) ∷ [] → me.0.origin ≡ Some (origin_of c n) → mean x ≡ state_after after c me.0.seen
      → Allows K slots id me 1 (λ n. (n + 1) % 18446744073709551616) (λ _ n. n ≡ (idle me.0, rest me.1))
  unfolding origin_of
  passes slots id me x c callers' made slot c_is means s k wide at _ =
      let v : V = me.0 in let ok = k.each id v at in let turn = entered_has_turn v.standing made in let t = ok.turn turn in let waits = turn_has_ticket v.standing turn in let w : V = idle v in
      let known = known_origin start k.tickets k.serving k.log v ok (origin_of c callers') c_is in
      let n : ℕ = slice_index s.words 1 in
      let is : n ≡ k.serving = ap (λ (ws : List ℕ). slice_index ws 1) k.words in
      let small = tickets_small s k in let r = ok.ticket waits in let r1 = r.1 in let r0 = t.0 in
      let next : (n + 1) % 18446744073709551616 ≡ k.serving + 1 = mod-eq_of_lt (omega arith) ∙ (omega arith) in (
        w,
        gives,
        tt,
        moved s k id v w at (set s.words 1 ((n + 1) % 18446744073709551616)) (put_back s.homes me.1) k.tickets (k.serving + 1) k.log
            (ap (λ (ws : List ℕ). set ws 1 ((n + 1) % 18446744073709551616)) k.words ∙ ap (λ (d : ℕ). k.tickets ∷ d ∷ length k.log ∷ callers ∷ []) next)
            k.sound (λ _. refl) refl (let b = ap bit waits in omega arith)
            (stand start k.tickets k.serving k.tickets (k.serving + 1) k.log v Idle ok known (λ e. absurd (true≢false (sym e))) refl (λ e. absurd (true≢false (sym e))))
            (λ j u other there. let f = k.each j u there in record {
              known = f.known;
              ticket = (λ has. let q = f.ticket has in let q0 = q.0 in let ne : ticket_of u.standing ≢ k.serving = λ e. other (k.apart j id u v there at has waits (e ∙ sym t.0)) in ((omega arith), q.1, q.2));
              turn = (λ e. absurd (other (turn_is s k id j v u at there waits t.0 e)));
              seen = f.seen;
              within = f.within;
              all = f.all;
              fronts = f.fronts;
              room = f.room;
            })
            (λ j u other there u_has w_has same. absurd (true≢false (sym w_has)))
            (⊎_elim
            (λ (free : Free mean reply after may opening k.serving k.log s.homes s.views). absurd (no_true (has_turn v.standing) (free.0 id v at) turn))
            (λ (busy : Busy mean reply after may k.serving k.log s.homes s.views).
            let same : busy.0 ≡ id = turn_is s k id busy.0 v busy.1 at busy.2 waits t.0 busy.3 in
            let e : v ≡ busy.1 = at_same s.views id busy.0 v busy.1 at busy.2 (sym same) in
            let b : bit (has_entered busy.1.standing) ≡ 1 = ap (λ (y : V). bit (has_entered y.standing)) (sym e) ∙ ap bit made in
            let d = busy.4 in
            inl (
              (λ i y here. ⊎_elim (λ (z : (i ≡ id) × (w ≡ y)). ap (λ (q : V). has_turn q.standing) (sym z.1))
                  (λ (z : (i ≢ id) × (get_elem? s.views i ≡ some y)). not_true (has_turn y.standing) (λ yt. z.0 (turn_is s k id i v y at z.1 waits t.0 yt))) (at_set s.views id i w y here)),
              (omega arith),
              (
                x,
                ap (λ (l : List (ℕ × Slot S N)). put_back s.homes l) slot ∙ ap (λ (hs : Homes). set hs 0 (some (Home x))) busy.5,
                means ∙ ap (λ (p : C × L). state_after after p.0 p.1) (λ i. ((some_same (origin_of c callers') start (sym c_is ∙ known) i).state, t.1 i)),
              ),
            ))
            k.desk),
        refl,
      )

  -- after a join
  pub settles : (slots id : ℕ) (me : M) (c : Origin C) → me.0.standing ≡ Idle → me.0.origin ≡ Some c → Allows K slots id me 0 (λ n. n) (λ _. Settles me)
  settles slots id me c standing c_is s k wide at _ =
      let v : V = me.0 in let ok = k.each id v at in let w : V = idle v in let n : ℕ = slice_index s.words 0 in
      let is : n ≡ k.tickets = ap (λ (ws : List ℕ). slice_index ws 0) k.words in
      let none : bit (has_ticket v.standing) ≡ 0 = ap (λ t. bit (has_ticket t)) standing in (
        w,
        keeps,
        tt,
        moved s k id v w at (set s.words 0 n) s.homes k.tickets k.serving k.log
            (ap (λ (ws : List ℕ). set ws 0 n) k.words ∙ ap (λ (t : ℕ). t ∷ k.serving ∷ length k.log ∷ callers ∷ []) is)
            k.sound (λ _. refl) refl (omega arith)
            (stand start k.tickets k.serving k.tickets k.serving k.log v Idle ok (known_origin start k.tickets k.serving k.log v ok c c_is) (λ e. absurd (true≢false (sym e))) refl (λ e. absurd (true≢false (sym e))))
            (λ j u other there. k.each j u there)
            (λ j u other there u_has w_has same. absurd (true≢false (sym w_has)))
            (desk_stays s k id v w at (ap has_turn standing) refl),
        (refl, ok.fronts, ok.within),
      )
