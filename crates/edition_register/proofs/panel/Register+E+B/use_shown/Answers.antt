use Rattle.std.proofs.Common.{Some, ap, sym, subst, ◌∙◌}
use Rattle.run_model.specs.declared.register.Entry.TheVariants as event
use Rattle.turn_cell.specs.Views.{least, listed}
use Rattle.turn_cell.specs.Seats.{callers_of, holdings_of, number_of, own_moves, seen_by}
use Rattle.edition_register.specs.Seats.{first_of}
use Rattle.edition_register.specs.Stored.{answer_of}
use Rattle.edition_register.proofs.PanelFacts.{start-shown}
use Rattle.edition_register.proofs.SeatFacts.{below-of, moves-of, own-in, own-listed, uses-of}
use Rattle.edition_register.proofs.panel.Register+E+B.use_shown.Goals as goal

pub append-reply-requires-clause-fits : goal.append-reply-requires-clause-fits
append-reply-requires-clause-fits g c =
    let seat = c.enter-held.new.seat in let is = c.requires.seat in let e = c.enter-held.ensures in
    let n = number_of c.args.seat.now in
    let listed_here = own-in n (seen_by seat) (holdings_of seat) _ (e.numbers ∙ is.holds) e.listed ∙ sym (own-listed n _ _ is.holds) in
    start-shown g.E.Rows.tables g.B.MadeFor.made_for (first_of c.args.self.now) _ (seen_by seat) (own_moves c.args.seat.now) n c.args.edition c.args.start is.opens e.legal listed_here c.requires.start

pub returns-clause-uses : goal.returns-clause-uses
returns-clause-uses g c =
    let seat = c.enter-held.new.seat in let is = c.requires.seat in let e = c.enter-held.ensures in
    let made = c.append-reply.ensures in let reply = c.append-reply.result in let n = number_of c.args.seat.now in
    uses-of g.E.Rows.tables n (first_of c.args.self.now) c.args.seat.now c.leave.new.seat (event.Use c.args.edition) (Some c.args.start) reply c.used.result c.used.ensures made.gives
    (moves-of n (first_of c.args.self.now) _ c.args.seat.now seat c.leave.new.seat (event.Use c.args.edition) (answer_of g.E.Rows.tables reply) is.moves is.opens is.holds e.numbers e.seen e.legal e.permitted made.reply
    (c.leave.ensures.seen ∙ made.seen) (ap (λ hs. listed (least hs) hs) c.leave.ensures.numbers ∙ made.own))

pub returns-clause-seats : goal.returns-clause-seats
returns-clause-seats g c =
    let is = c.requires.seat in let e = c.enter-held.ensures in
    below-of (number_of c.args.seat.now) (callers_of c.args.self.now.turn) c.enter-held.new.seat c.leave.new.seat (event.Use c.args.edition) _ is.moves is.callers.1
    (e.numbers ∙ is.holds) e.seats (c.leave.ensures.seen ∙ c.append-reply.ensures.seen)
