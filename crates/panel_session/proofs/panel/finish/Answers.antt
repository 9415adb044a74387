use Rattle.std.proofs.Common.{◌∙◌, ◌+◌, ap, length, subst}
use Rattle.std.proofs.lemmas.List.{length-map}
use Rattle.edition_register.specs.Panels.{ListFrom}
use Rattle.edition_register.specs.Seats.{history_of}
use Rattle.histories.specs.History.{IsOfSeatsBelow}
use Rattle.panel_session.proofs.panel.finish.Goals as goal

pub returns-clause-seats : goal.returns-clause-seats
returns-clause-seats c =
    subst (λ n. IsOfSeatsBelow (n + 1) (history_of c.close_desks.result)) (ap (λ l. length l) c.take_seats-seats.ensures ∙ length-map c.args.sides.items (λ side. side.seat)) c.close_desks.ensures.seats

pub returns-clause-desks : goal.returns-clause-desks
returns-clause-desks c = subst (λ l. ListFrom 1 (history_of c.close_desks.result) l) c.take_seats-seats.ensures c.close_desks.ensures.desks
