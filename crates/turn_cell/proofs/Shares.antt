-- A turn's begin and end, and the splits and joins of its seats, keep the rule.
use Rattle.std.proofs.Common.{◌≡◌, ◌≢◌, ◌⊎◌, ℕ, zero, suc, Bool, true, ◌+◌, ◌<◌, ◌≤◌, List, [], ◌∷◌, ◌++◌, length, set, Some, sym, refl, ap, ◌∙◌, subst, ⊎_elim, inl, inr, not, arith, length-append}
use Rattle.std.specs.List.{filter, sum_by}
use Rattle.std.proofs.lemmas.List.Sums.{sum_by_push}
use mathlib.Core.Option.{some, some-ne-none, some-injective}
use mathlib.Core.Option as maybe
use mathlib.Core.Logic.{dite}
use native.Mathlib.Decide.{ℕ_discrete}
use lib.ListN.{get_elem?}
use Rattle.atomic_table.specs.Table as table
use Rattle.atomic_table.specs.Table.{State, Final, Seen, Splits, Joins}
use Rattle.atomic_table.proofs.Lists.{at_set, set_else, at_snoc, at_longer}
use Rattle.histories.specs.declared.history.Move.{Move}
use Rattle.histories.specs.History.{IsLegal, IsOfSeatsBelow, Permits, state_after}
use Rattle.turn_cell.specs.declared.slot.Slot.{Slot}
use Rattle.turn_cell.specs.declared.slot.Slot.TheVariants.{Home}
use Rattle.turn_cell.specs.declared.view.Standing.TheVariants.{Idle}
use Rattle.turn_cell.specs.declared.view.Holding.{Holding}
use Rattle.turn_cell.specs.declared.view.Origin.{Origin}
use Rattle.turn_cell.specs.declared.view.View.{View}
use Rattle.turn_cell.specs.Standings.{bit, has_ticket, has_turn}
use Rattle.turn_cell.specs.Views.{times, least, AreListed, is_handed, longer, origin_of, view, newcomer, split_left, split_right, joined, spent}
use Rattle.turn_cell.specs.Rule.{Fits, Free, Busy, Kept}
use Rattle.turn_cell.proofs.Sums.{sum_by-set_at}
use Rattle.turn_cell.proofs.Holdings.{least_held, times-append, times-split, length-split, times-below_none, times-below_one, length-below, AreListed-append, AreListed-filter, AreListed-below}
use Rattle.turn_cell.proofs.Histories.{longer_front, AreListed-between, whole_front}
use Rattle.turn_cell.proofs.Steps.{apart_numbers, at_same, in_callers, no_true, turn_has_ticket, known_origin, resting, some_same}

first_of_one : {V : Type 0} (a : V) (i : ℕ) (v : V) → get_elem? (a ∷ []) i ≡ some v → (i ≡ 0) × (a ≡ v)
first_of_one a zero v at = (refl, some-injective a v at)
first_of_one a (suc i) v at = absurd (some-ne-none v (sym at))

module _ {S C E A : Type 0} (N : Type 0) (mean : S → C) (reply : C → E → A) (after : C → E → C) (may : ℕ → E → Type 0) (start : Origin C) where
  abbrev opening : C
  opening = start.state

  abbrev callers : ℕ
  callers = start.callers

  abbrev V : Type 0
  V = View C E A

  abbrev St : Type 0
  St = State (Slot S N) V

  abbrev L : Type 0
  L = List (Move E A)

  abbrev Homes : Type 0
  Homes = List (maybe.Option (Slot S N))

  abbrev K : St → Type 0
  K = Kept mean reply after may start

  begins : (x : S) → callers ≤ 255 → mean x ≡ opening → K (table.opening (0 ∷ 0 ∷ 0 ∷ callers ∷ []) (Home x ∷ []) (newcomer start))
  begins x few is =
      let v : V = newcomer start in record {
        tickets = 0;
        serving = 0;
        log = [];
        words = refl;
        sound = record {
          few = few;
          legal = tt;
          permitted = tt;
          seats = tt;
          short = (λ n. omega arith);
        };
        shared = record {
          held = (let e = length-below E A callers in omega arith);
          once = (λ n lt. let e = times-below_one E A callers n lt in omega arith);
          never = (λ n le. let e = times-below_none E A callers n le in omega arith);
        };
        waiting = refl;
        apart = (λ i j y z at_i at_j _ _ _. (first_of_one v i y at_i).0 ∙ sym (first_of_one v j z at_j).0);
        each = (λ i y at. subst (Fits start 0 0 []) (first_of_one v i y at).1 (resting start 0 0 [] v refl refl (inl refl) ([], refl) (AreListed-below E A callers) (AreListed-below E A callers) tt));
        desk = inl ((λ i y at. ap (λ (a : V). has_turn a.standing) (sym (first_of_one v i y at).1)), refl, (x, refl, is));
      }

  pub begins_so : (x : S) (n : ℕ) (slots : List (Slot S N)) → n ≡ callers → slots ≡ Home x ∷ [] → callers ≤ 255 → mean x ≡ opening → K (table.opening (0 ∷ 0 ∷ 0 ∷ n ∷ []) slots (newcomer start))
  begins_so x n slots e f few is = subst (λ (p : ℕ × List (Slot S N)). K (table.opening (0 ∷ 0 ∷ 0 ∷ p.0 ∷ []) p.1 (newcomer start))) (λ i. (sym e i, sym f i)) (begins x few is)

  -- where one idle seat holds every number, nobody has the turn
  all_home : (s : St) (k : K s) (id : ℕ) (v : V) → get_elem? s.views id ≡ some v → v.standing ≡ Idle → ((n : ℕ) → n < callers → times n v.holdings ≢ 0) → Free mean reply after may opening k.serving k.log s.homes s.views
  all_home s k id v at standing all = ⊎_elim
      (λ free. free)
      (λ (busy : Busy mean reply after may k.serving k.log s.homes s.views).
      let j : ℕ = busy.0 in let u : V = busy.1 in let f = k.each j u busy.2 in
      let has = turn_has_ticket u.standing busy.3 in
      dite (ℕ_discrete j id)
      (λ same. absurd (no_true (has_turn v.standing) (ap has_turn standing) (ap (λ (a : V). has_turn a.standing) (sym (at_same s.views j id u v busy.2 at same)) ∙ busy.3)))
      (λ other. let own = least_held u.holdings (f.ticket has).2 in
      let lt = in_callers N mean reply after may start s k j (least u.holdings) u busy.2 own in
      absurd (all (least u.holdings) lt (apart_numbers N mean reply after may start s k j id (least u.holdings) u v busy.2 at other own))))
      k.desk

  pub ends : (id : ℕ) (v : V) (words : List ℕ) (xs : List (Slot S N)) (y : Slot S N) (c : C) (n : ℕ) → Final (Seen K id v) words xs → v.origin ≡ Some (origin_of c n) → v.standing ≡ Idle → ((n : ℕ) → n < callers → times n v.holdings ≢ 0) → get_elem? xs 0 ≡ some y
      → (x : S) × (y ≡ Home x) × (mean x ≡ state_after after c v.seen) × IsLegal reply after c v.seen × Permits may v.seen × IsOfSeatsBelow n v.seen × AreListed v.seen v.holdings
  unfolding origin_of
  ends id v words xs y c n final c_is standing all there =
      let s : St = final.0 in let k = final.1.0 in let at = final.1.1 in let f = k.each id v at in
      let free = all_home s k id v at standing all in
      let x : S = free.2.0 in
      let home = final.4 0 (Home x) (ap (λ (hs : Homes). get_elem? hs 0) free.2.1) in
      let is : k.log ≡ v.seen = f.seen.1 ∙ whole_front callers v.holdings v.seen f.seen.0 (subst (IsOfSeatsBelow callers) f.seen.1 k.sound.seats) all (subst (λ (l : L). AreListed l v.holdings) f.seen.1 f.all) f.within in
      let same : start ≡ origin_of c n = some_same start (origin_of c n) (sym (known_origin start k.tickets k.serving k.log v f (origin_of c n) c_is) ∙ c_is) in (
        x,
        some-injective y (Home x) (sym there ∙ home),
        free.2.2 ∙ ap (λ (p : Origin C × L). state_after after p.0.state p.1) (λ i. (same i, is i)),
        subst (λ (p : Origin C × L). IsLegal reply after p.0.state p.1) (λ i. (same i, is i)) k.sound.legal,
        subst (Permits may) is k.sound.permitted,
        subst (λ (p : Origin C × L). IsOfSeatsBelow p.0.callers p.1) (λ i. (same i, is i)) k.sound.seats,
        f.within,
      )

  -- the rule goes by views: each is as it was or one that fits without a ticket, who has the turn stays, and the sums are as before
  regrouped : (s : St) (k : K s) (views : List V)
      → sum_by (λ (v : V). bit (has_ticket v.standing)) views ≡ sum_by (λ (v : V). bit (has_ticket v.standing)) s.views
      → sum_by (λ (v : V). length v.holdings) views ≡ sum_by (λ (v : V). length v.holdings) s.views
      → ((n : ℕ) → sum_by (λ (v : V). times n v.holdings) views ≡ sum_by (λ (v : V). times n v.holdings) s.views)
      → ((i : ℕ) (y : V) → get_elem? views i ≡ some y → ((y.standing ≡ Idle) × Fits start k.tickets k.serving k.log y) ⊎ (get_elem? s.views i ≡ some y))
      → ((i : ℕ) (y : V) → get_elem? s.views i ≡ some y → has_turn y.standing ≡ true → get_elem? views i ≡ some y)
      → K record { words = s.words; homes = s.homes; views = views }
  regrouped s k views waiting held times_as parts stays =
      let waiter : (i : ℕ) (y : V) → get_elem? views i ≡ some y → has_ticket y.standing ≡ true → get_elem? s.views i ≡ some y =
      λ i y here has. ⊎_elim (λ (x : (y.standing ≡ Idle) × Fits start k.tickets k.serving k.log y). absurd (no_true (has_ticket y.standing) (ap has_ticket x.0) has)) (λ was. was) (parts i y here) in
      record {
        tickets = k.tickets;
        serving = k.serving;
        log = k.log;
        words = k.words;
        sound = k.sound;
        shared = record {
          held = held ∙ k.shared.held;
          once = (λ n lt. times_as n ∙ k.shared.once n lt);
          never = (λ n le. times_as n ∙ k.shared.never n le);
        };
        waiting = (let a = k.waiting in omega arith);
        apart = (λ i j y z at_i at_j y_has z_has same. k.apart i j y z (waiter i y at_i y_has) (waiter j z at_j z_has) y_has z_has same);
        each = (λ i y here. ⊎_elim (λ (x : (y.standing ≡ Idle) × Fits start k.tickets k.serving k.log y). x.1) (λ was. k.each i y was) (parts i y here));
        desk = (⊎_elim
            (λ free. inl ((λ i y here. ⊎_elim (λ (x : (y.standing ≡ Idle) × Fits start k.tickets k.serving k.log y). ap has_turn x.0) (λ was. free.0 i y was) (parts i y here)), free.1, free.2))
            (λ busy. inr (busy.0, busy.1, stays busy.0 busy.1 busy.2 busy.3, busy.3, busy.4, busy.5))
            k.desk);
      }

  -- a view without a ticket is not the one that has the turn
  not_in_turn : (s : St) (id j : ℕ) (v y : V) → get_elem? s.views id ≡ some v → v.standing ≡ Idle → get_elem? s.views j ≡ some y → has_turn y.standing ≡ true → j ≢ id
  not_in_turn s id j v y at standing there turn = λ e. no_true (has_turn v.standing) (ap has_turn standing) (ap (λ (a : V). has_turn a.standing) (at_same s.views id j v y at there (sym e)) ∙ turn)

  pub splits : (id : ℕ) (v : V) (c : Origin C) → v.standing ≡ Idle → v.origin ≡ Some c → Splits K id v (split_left v) (split_right v)
  splits id v c standing c_is s k at =
      let l : V = split_left v in let r : V = split_right v in let vs : List V = set s.views id l in
      let ok = k.each id v at in
      let known = known_origin start k.tickets k.serving k.log v ok c c_is in
      let none : bit (has_ticket v.standing) ≡ 0 = ap (λ t. bit (has_ticket t)) standing in
      let part : (test : Holding E A → Bool) → Fits start k.tickets k.serving k.log (view v.origin (filter test v.holdings) Idle v.seen) =
      λ test. resting start k.tickets k.serving k.log (view v.origin (filter test v.holdings) Idle v.seen) refl refl (inl known) ok.seen (AreListed-filter v.seen test v.holdings ok.within) (AreListed-filter k.log test v.holdings ok.all) tt in
      let sums : (f : V → ℕ) → sum_by f (vs ++ r ∷ []) + f v ≡ sum_by f s.views + f l + f r =
      λ f. let t = sum_by-set_at f s.views id v l at in let u = sum_by_push f vs r in omega arith in
      regrouped s k (vs ++ r ∷ [])
      (let t = sums (λ (y : V). bit (has_ticket y.standing)) in omega arith)
      (let t = sums (λ (y : V). length y.holdings) in let p = length-split v.holdings in omega arith)
      (λ n. let t = sums (λ (y : V). times n y.holdings) in let p = times-split n v.holdings in omega arith)
      (λ i y here. ⊎_elim
      (λ x. ⊎_elim (λ (z : (i ≡ id) × (l ≡ y)). inl (subst (λ (a : V). (a.standing ≡ Idle) × Fits start k.tickets k.serving k.log a) z.1 (refl, part (λ h. not (is_handed v.holdings h)))))
      (λ (z : (i ≢ id) × (get_elem? s.views i ≡ some y)). inr z.1) (at_set s.views id i l y x))
      (λ (is : r ≡ y). inl (subst (λ (a : V). (a.standing ≡ Idle) × Fits start k.tickets k.serving k.log a) is (refl, part (is_handed v.holdings))))
      (at_snoc vs r y i here))
      (λ j y there turn. at_longer vs (r ∷ []) j y (set_else s.views id j l (not_in_turn s id j v y at standing there turn) ∙ there))

  pub joins : (id : ℕ) (v : V) (other : ℕ) (w : V) (c : Origin C) → v.standing ≡ Idle → v.origin ≡ Some c → w.standing ≡ Idle → Joins K id v other w (joined v w) spent
  joins id v other w c standing c_is standing' s k at two at' =
      let both : V = joined v w in let gone : V = spent in let vs : List V = set s.views id both in
      let was : get_elem? s.views other ≡ some w = ⊎_elim (λ x. absurd (two x.0)) (λ x. x.1) (at_set s.views id other both w at') in
      let ok = k.each id v at in let ok' = k.each other w was in
      let known = known_origin start k.tickets k.serving k.log v ok c c_is in
      let none : bit (has_ticket v.standing) ≡ 0 = ap (λ t. bit (has_ticket t)) standing in
      let none' : bit (has_ticket w.standing) ≡ 0 = ap (λ t. bit (has_ticket t)) standing' in
      let front = longer_front k.log v.seen w.seen ok.seen ok'.seen in
      let fits_both : Fits start k.tickets k.serving k.log both = resting start k.tickets k.serving k.log both refl refl (inl known) front.0
      (AreListed-append (longer v.seen w.seen) v.holdings w.holdings
      (AreListed-between k.log (longer v.seen w.seen) v.seen v.holdings front.0 front.1 ok.all ok.within)
      (AreListed-between k.log (longer v.seen w.seen) w.seen w.holdings front.0 front.2 ok'.all ok'.within))
      (AreListed-append k.log v.holdings w.holdings ok.all ok'.all) (front.1, (front.2, tt)) in
      let fits_gone : Fits start k.tickets k.serving k.log gone = resting start k.tickets k.serving k.log gone refl refl (inr refl) (k.log, refl) tt tt tt in
      let sums : (f : V → ℕ) → sum_by f (set vs other gone) + f v + f w ≡ sum_by f s.views + f both + f gone =
      λ f. let t = sum_by-set_at f s.views id v both at in let u = sum_by-set_at f vs other w gone at' in omega arith in
      regrouped s k (set vs other gone)
      (let t = sums (λ (y : V). bit (has_ticket y.standing)) in omega arith)
      (let t = sums (λ (y : V). length y.holdings) in let p = length-append v.holdings w.holdings in omega arith)
      (λ n. let t = sums (λ (y : V). times n y.holdings) in let p = times-append n v.holdings w.holdings in omega arith)
      (λ i y here. ⊎_elim
      (λ (x : (i ≡ other) × (gone ≡ y)). inl (subst (λ (a : V). (a.standing ≡ Idle) × Fits start k.tickets k.serving k.log a) x.1 (refl, fits_gone)))
      (λ (x : (i ≢ other) × (get_elem? vs i ≡ some y)). ⊎_elim
      (λ (z : (i ≡ id) × (both ≡ y)). inl (subst (λ (a : V). (a.standing ≡ Idle) × Fits start k.tickets k.serving k.log a) z.1 (refl, fits_both)))
      (λ (z : (i ≢ id) × (get_elem? s.views i ≡ some y)). inr z.1) (at_set s.views id i both y x.1))
      (at_set vs other i gone y here))
      (λ j y there turn. set_else vs other j gone (not_in_turn s other j w y was standing' there turn) ∙ (set_else s.views id j both (not_in_turn s id j v y at standing there turn) ∙ there))
