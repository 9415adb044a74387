use Rattle.std.proofs.Common.{arith, ap, sym, subst, ◌∙◌}
use Rattle.histories.specs.History.{IsOfSeatsBelow}
use Rattle.run_model.specs.declared.register.Entry.TheVariants as event
use Rattle.turn_cell.specs.Views.{least, listed}
use Rattle.turn_cell.specs.Seats.{callers_of, holdings_of, own_moves, seen_by}
use Rattle.edition_register.specs.Seats.{first_of}
use Rattle.edition_register.specs.Stored.{answer_of}
use Rattle.edition_register.proofs.SeatFacts.{below-of, moves-of, own-in, own-listed, start-fits, uses-of}
use Rattle.edition_register.proofs.register.Register+E+B.use_from.Goals as goal

pub append-reply-requires-clause-fits : goal.append-reply-requires-clause-fits
append-reply-requires-clause-fits g c =
    let seat = c.enter-held.new.seat in let is = c.requires.seat in let e = c.enter-held.ensures in
    let holds = e.numbers ∙ is.holds in
    let listed_here = own-in 1 (seen_by seat) (holdings_of seat) _ holds e.listed ∙ sym (own-listed 1 _ _ is.holds) in
    let below = subst (λ k. IsOfSeatsBelow k (seen_by seat)) is.callers e.seats in
    start-fits g.E.Rows.tables g.B.MadeFor.made_for (first_of c.args.self.now) _ (seen_by seat) (own_moves c.args.seat.now) c.args.edition c.args.start is.opens e.legal e.permitted below listed_here c.requires.start

pub returns-clause-uses : goal.returns-clause-uses
returns-clause-uses g c =
    let seat = c.enter-held.new.seat in let is = c.requires.seat in let e = c.enter-held.ensures in
    let made = c.append-reply.ensures in let reply = c.append-reply.result in
    uses-of g.E.Rows.tables 1 (first_of c.args.self.now) c.args.seat.now c.leave.new.seat (event.UseFrom c.args.edition c.args.from) c.args.start reply c.used.result c.used.ensures made.gives
    (moves-of 1 (first_of c.args.self.now) _ c.args.seat.now seat c.leave.new.seat (event.UseFrom c.args.edition c.args.from) (answer_of g.E.Rows.tables reply) is.moves is.opens is.holds e.numbers e.seen e.legal e.permitted made.reply
    (c.leave.ensures.seen ∙ made.seen) (ap (λ hs. listed (least hs) hs) c.leave.ensures.numbers ∙ made.own))

pub returns-clause-seats : goal.returns-clause-seats
returns-clause-seats g c =
    let is = c.requires.seat in let e = c.enter-held.ensures in let callers = is.callers in
    below-of 1 (callers_of c.args.self.now.turn) c.enter-held.new.seat c.leave.new.seat (event.UseFrom c.args.edition c.args.from) _ is.moves (omega arith)
    (e.numbers ∙ is.holds) e.seats (c.leave.ensures.seen ∙ c.append-reply.ensures.seen)
