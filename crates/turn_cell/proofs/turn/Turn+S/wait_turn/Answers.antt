use Rattle.std.proofs.Common.{sym, ap, subst, ◌∙◌, arith}
use Rattle.turn_cell.specs.Standings.{has_ticket, has_turn, ticket_of}
use Rattle.turn_cell.specs.Rule.{Seizes}
use Rattle.turn_cell.proofs.Steps.{looks}
use Rattle.turn_cell.proofs.turn.Turn+S.wait_turn.Goals as goal

pub load-requires : goal.load-requires
load-requires g c =
    let sized = c.args.self.now.sized.0 in let m = c.loop.invariant.1 in
    (c.loop.invariant.0 ∙ c.requires.seat, (omega arith), looks _ _ _ _ _ _ _ _ _ (ap (λ y. has_ticket y.0.standing) m ∙ c.requires.waits) (ap (λ y. has_turn y.0.standing) m ∙ c.requires.early))

pub returns-then-load-ticket-clause-seat : goal.returns-then-load-ticket-clause-seat
returns-then-load-ticket-clause-seat g c = c.load.ensures.0 ∙ c.loop.invariant.0

pub returns-then-load-ticket-clause-turn : goal.returns-then-load-ticket-clause-turn
returns-then-load-ticket-clause-turn g c =
    let m = c.loop.invariant.1 in
    subst (λ y. Seizes (λ x. g.S.Machine.state x.value) g.S.Machine.reply g.S.Machine.after g.S.Machine.may y c.load.new.seat.me) m
    (c.load.ensures.2.0 (c.if-load-ticket.true ∙ sym c.requires.ticket ∙ sym (ap (λ y. ticket_of y.0.standing) m)))
