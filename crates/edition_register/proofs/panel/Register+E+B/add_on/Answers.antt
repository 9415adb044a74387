use Rattle.std.proofs.Common.{ap, sym, subst, ◌∙◌}
use Rattle.std.specs.Arc.{arc_value}
use Rattle.run_model.specs.declared.register.Answer.TheVariants as answer
use Rattle.run_model.specs.declared.register.Entry.TheVariants as event
use Rattle.turn_cell.specs.Views.{least, listed}
use Rattle.turn_cell.specs.Seats.{callers_of, number_of}
use Rattle.edition_register.specs.Seats.{Moves, first_of}
use Rattle.edition_register.proofs.PanelFacts.{looked-same}
use Rattle.edition_register.proofs.SeatFacts.{below-of, moves-of}
use Rattle.edition_register.proofs.panel.Register+E+B.add_on.Goals as goal

pub returns-in-Added-clause-adds : goal.returns-in-Added-clause-adds
returns-in-Added-clause-adds g c =
    let seat = c.enter-held.new.seat in let is = c.requires.seat in let e = c.enter-held.ensures in
    let made = c.in-Added.ensures in let n = number_of c.args.seat.now in
    let moves = moves-of n (first_of c.args.self.now) _ c.args.seat.now seat c.leave.new.seat (event.AddOn c.args.base (g.E.Rows.tables (arc_value c.args.payload)) (g.E.Rows.plans (arc_value c.args.payload))) (answer.Added c.in-Added.edition) is.moves is.opens is.holds e.numbers e.seen e.legal e.permitted made.reply
    (c.leave.ensures.seen ∙ made.seen) (ap (λ hs. listed (least hs) hs) c.leave.ensures.numbers ∙ made.own) in
    moves

pub returns-in-Added-clause-seats : goal.returns-in-Added-clause-seats
returns-in-Added-clause-seats g c =
    let is = c.requires.seat in let e = c.enter-held.ensures in
    below-of (number_of c.args.seat.now) (callers_of c.args.self.now.turn) c.enter-held.new.seat c.leave.new.seat (event.AddOn c.args.base (g.E.Rows.tables (arc_value c.args.payload)) (g.E.Rows.plans (arc_value c.args.payload))) _ is.moves is.callers.1
    (e.numbers ∙ is.holds) e.seats (c.leave.ensures.seen ∙ c.in-Added.ensures.seen)

pub returns-in-Stale-clause-adds : goal.returns-in-Stale-clause-adds
returns-in-Stale-clause-adds g c =
    let seat = c.enter-held.new.seat in let is = c.requires.seat in let e = c.enter-held.ensures in
    let made = c.in-Stale.ensures in let n = number_of c.args.seat.now in
    let moves = moves-of n (first_of c.args.self.now) _ c.args.seat.now seat c.leave.new.seat (event.AddOn c.args.base (g.E.Rows.tables (arc_value c.args.payload)) (g.E.Rows.plans (arc_value c.args.payload))) (answer.Stale c.in-Stale.newest) is.moves is.opens is.holds e.numbers e.seen e.legal e.permitted made.reply
    (c.leave.ensures.seen ∙ made.seen) (ap (λ hs. listed (least hs) hs) c.leave.ensures.numbers ∙ made.own) in
    (moves, made.gives)

pub returns-in-Stale-clause-seats : goal.returns-in-Stale-clause-seats
returns-in-Stale-clause-seats g c =
    let is = c.requires.seat in let e = c.enter-held.ensures in
    below-of (number_of c.args.seat.now) (callers_of c.args.self.now.turn) c.enter-held.new.seat c.leave.new.seat (event.AddOn c.args.base (g.E.Rows.tables (arc_value c.args.payload)) (g.E.Rows.plans (arc_value c.args.payload))) _ is.moves is.callers.1
    (e.numbers ∙ is.holds) e.seats (c.leave.ensures.seen ∙ c.in-Stale.ensures.seen)

pub returns-in-FullEditions-clause-adds : goal.returns-in-FullEditions-clause-adds
returns-in-FullEditions-clause-adds g c =
    let seat = c.enter-held.new.seat in let is = c.requires.seat in let e = c.enter-held.ensures in
    let made = c.in-FullEditions.ensures in let n = number_of c.args.seat.now in
    let moves = moves-of n (first_of c.args.self.now) _ c.args.seat.now seat c.leave.new.seat (event.AddOn c.args.base (g.E.Rows.tables (arc_value c.args.payload)) (g.E.Rows.plans (arc_value c.args.payload))) (answer.FullEditions) is.moves is.opens is.holds e.numbers e.seen e.legal e.permitted made.reply
    (c.leave.ensures.seen ∙ made.seen) (ap (λ hs. listed (least hs) hs) c.leave.ensures.numbers ∙ made.own) in
    (moves, made.gives)

pub returns-in-FullEditions-clause-seats : goal.returns-in-FullEditions-clause-seats
returns-in-FullEditions-clause-seats g c =
    let is = c.requires.seat in let e = c.enter-held.ensures in
    below-of (number_of c.args.seat.now) (callers_of c.args.self.now.turn) c.enter-held.new.seat c.leave.new.seat (event.AddOn c.args.base (g.E.Rows.tables (arc_value c.args.payload)) (g.E.Rows.plans (arc_value c.args.payload))) _ is.moves is.callers.1
    (e.numbers ∙ is.holds) e.seats (c.leave.ensures.seen ∙ c.in-FullEditions.ensures.seen)
