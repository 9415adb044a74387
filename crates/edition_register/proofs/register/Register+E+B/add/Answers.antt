use Rattle.std.proofs.Common.{arith, ap, subst, ◌∙◌}
use Rattle.std.specs.Arc.{arc_value}
use Rattle.run_model.specs.declared.register.Answer.TheVariants as answer
use Rattle.run_model.specs.declared.register.Entry.TheVariants as event
use Rattle.turn_cell.specs.Views.{least, listed}
use Rattle.turn_cell.specs.Seats.{callers_of, seen_by}
use Rattle.edition_register.specs.declared.outcome.AddFault.TheVariants as add_fault
use Rattle.edition_register.specs.Seats.{first_of}
use Rattle.edition_register.proofs.SeatFacts.{below-of, moves-of}
use Rattle.edition_register.proofs.register.Register+E+B.add.Goals as goal

pub returns-in-Added-clause-adds : goal.returns-in-Added-clause-adds
returns-in-Added-clause-adds g c =
    let seat = c.enter-held.new.seat in let is = c.requires.seat in let e = c.enter-held.ensures in
    let made = c.in-Added.ensures in
    moves-of 1 (first_of c.args.self.now) _ c.args.seat.now seat c.leave.new.seat (event.Add (g.E.Rows.tables (arc_value c.args.payload)) (g.E.Rows.plans (arc_value c.args.payload))) (answer.Added c.in-Added.edition) is.moves is.opens is.holds e.numbers e.seen e.legal e.permitted made.reply
    (c.leave.ensures.seen ∙ made.seen) (ap (λ hs. listed (least hs) hs) c.leave.ensures.numbers ∙ made.own)

pub returns-in-FullEditions-clause-adds : goal.returns-in-FullEditions-clause-adds
returns-in-FullEditions-clause-adds g c =
    let seat = c.enter-held.new.seat in let is = c.requires.seat in let e = c.enter-held.ensures in
    let made = c.in-FullEditions.ensures in (
      moves-of 1 (first_of c.args.self.now) _ c.args.seat.now seat c.leave.new.seat (event.Add (g.E.Rows.tables (arc_value c.args.payload)) (g.E.Rows.plans (arc_value c.args.payload))) (answer.FullEditions) is.moves is.opens is.holds e.numbers e.seen e.legal e.permitted made.reply
          (c.leave.ensures.seen ∙ made.seen) (ap (λ hs. listed (least hs) hs) c.leave.ensures.numbers ∙ made.own),
      ap add_fault.Full made.gives,
    )

pub returns-in-Added-clause-seats : goal.returns-in-Added-clause-seats
returns-in-Added-clause-seats g c =
    let is = c.requires.seat in let e = c.enter-held.ensures in let callers = is.callers in
    below-of 1 (callers_of c.args.self.now.turn) c.enter-held.new.seat c.leave.new.seat (event.Add (g.E.Rows.tables (arc_value c.args.payload)) (g.E.Rows.plans (arc_value c.args.payload))) _ is.moves (omega arith)
    (e.numbers ∙ is.holds) e.seats (c.leave.ensures.seen ∙ c.in-Added.ensures.seen)

pub returns-in-FullEditions-clause-seats : goal.returns-in-FullEditions-clause-seats
returns-in-FullEditions-clause-seats g c =
    let is = c.requires.seat in let e = c.enter-held.ensures in let callers = is.callers in
    below-of 1 (callers_of c.args.self.now.turn) c.enter-held.new.seat c.leave.new.seat (event.Add (g.E.Rows.tables (arc_value c.args.payload)) (g.E.Rows.plans (arc_value c.args.payload))) _ is.moves (omega arith)
    (e.numbers ∙ is.holds) e.seats (c.leave.ensures.seen ∙ c.in-FullEditions.ensures.seen)
