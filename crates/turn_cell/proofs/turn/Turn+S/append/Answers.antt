use Rattle.std.proofs.Common.{rules, sym, ap, subst, ◌∙◌, ◌≡◌, List, ◌∷◌, arith}
use Rattle.atomic_table.specs.Table.{rest}
use Rattle.histories.specs.declared.history.Move.{Move}
use Rattle.histories.specs.History.{move}
use Rattle.turn_cell.specs.declared.slot.Slot.TheVariants.{Noted}
use Rattle.turn_cell.specs.declared.view.Holding.{Holding}
use Rattle.turn_cell.specs.Standings.{has_entered, has_turn}
use Rattle.turn_cell.specs.Views.{least}
use Rattle.turn_cell.proofs.Holdings.{least-with_move, own-with_move}
use Rattle.turn_cell.proofs.Steps.{makes, state_after-move}
use Rattle.turn_cell.proofs.turn.Turn+S.append.Goals as goal

pub fetch_add-requires : goal.fetch_add-requires
fetch_add-requires g c =
    let sized = c.args.self.now.sized.0 in let e = c.exchange.ensures.3 in let v = ap (λ m. m.0) e in let note = c.of-note.result in (
      search rules,
      (omega arith),
      makes _ _ _ _ _ _ (λ x. g.S.Machine.event x.value) _ _ _ note (ap (λ w. has_turn w.standing) v ∙ c.requires.turn.1.0) (ap (λ w. has_entered w.standing) v ∙ c.requires.turn.1.1)
          (ap (λ m. m.1) e ∙ ap (λ l. (0, Noted note) ∷ rest l) c.requires.turn.1.2)
          (subst (λ (p : List (Holding _ _) × _). g.S.Machine.may (least p.0) (g.S.Machine.event p.1)) (λ i. (sym (ap (λ w. w.holdings) v) i, sym c.of-note.ensures i)) c.requires.may),
    )

pub returns-clause-entered : goal.returns-clause-entered
returns-clause-entered g c =
    let e = c.exchange.ensures.3 in let note = c.of-note.result in
    let slot = ap (λ m. m.1) e ∙ ap (λ l. (0, Noted note) ∷ rest l) c.requires.turn.1.2 in
    let full = c.fetch_add.ensures.2 note _ _ (slot ∙ ap (λ l. (0, Noted note) ∷ rest l) (sym slot)) (ap (λ m. m.0.origin) e ∙ c.requires.turn.0.1) in
    (search rules, (ap (λ m. has_entered m.0.standing) full, (note, ap (λ m. m.1) full ∙ slot)))

pub returns-clause-seen : goal.returns-clause-seen
returns-clause-seen g c =
    let e = c.exchange.ensures.3 in let note = c.of-note.result in
    let slot = ap (λ m. m.1) e ∙ ap (λ l. (0, Noted note) ∷ rest l) c.requires.turn.1.2 in
    let full = c.fetch_add.ensures.2 note _ _ (slot ∙ ap (λ l. (0, Noted note) ∷ rest l) (sym slot)) (ap (λ m. m.0.origin) e ∙ c.requires.turn.0.1) in
    search rules

pub returns-clause-numbers : goal.returns-clause-numbers
returns-clause-numbers g c =
    let e = c.exchange.ensures.3 in let note = c.of-note.result in
    let slot = ap (λ m. m.1) e ∙ ap (λ l. (0, Noted note) ∷ rest l) c.requires.turn.1.2 in
    let full = c.fetch_add.ensures.2 note _ _ (slot ∙ ap (λ l. (0, Noted note) ∷ rest l) (sym slot)) (ap (λ m. m.0.origin) e ∙ c.requires.turn.0.1) in
    search rules

pub returns-clause-state : goal.returns-clause-state
returns-clause-state g c =
    let v = c.args.seat.now.me.0 in let event = g.S.Machine.event c.args.entry in
    let is : c.deref_mut.result.now ≡ c.args.held.now = search rules in
    state_after-move g.S.Machine.after (g.S.Machine.state c.args.self.now.table.shared.key.state.value) _ v.seen c.fetch_add.new.seat.me.0.seen (move (least v.holdings) event (g.S.Machine.answer c.act-reply.result)) (returns-clause-seen g c)
    (c.act-reply.ensures.after ∙ ap (λ d. g.S.Machine.after d event) (ap g.S.Machine.state is ∙ c.requires.state))

pub returns-clause-number : goal.returns-clause-number
returns-clause-number g c =
    let old = c.args.seat.now.me.0.holdings in let m : Move _ _ = move (least old) (g.S.Machine.event c.args.entry) (g.S.Machine.answer c.act-reply.result) in
    ap least (returns-clause-numbers g c) ∙ least-with_move m old

pub returns-clause-own : goal.returns-clause-own
returns-clause-own g c =
    own-with_move c.args.seat.now.me.0.holdings c.fetch_add.new.seat.me.0.holdings (g.S.Machine.event c.args.entry) (g.S.Machine.answer c.act-reply.result) c.requires.turn.1.3 (returns-clause-numbers g c)
