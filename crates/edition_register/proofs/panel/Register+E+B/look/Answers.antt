use Rattle.std.proofs.Common.{◌≡◌, IfOk, ap, sym, subst, ◌∙◌}
use Rattle.std.specs.Arc.{arc_value}
use Rattle.run_model.specs.declared.register.Answer.TheVariants as answer
use Rattle.run_model.specs.declared.register.Entry.TheVariants as event
use Rattle.turn_cell.specs.Views.{least, listed}
use Rattle.turn_cell.specs.Seats.{callers_of, number_of}
use Rattle.edition_register.specs.Seats.{Moves, first_of}
use Rattle.edition_register.proofs.PanelFacts.{looked-same}
use Rattle.edition_register.proofs.SeatFacts.{below-of, moves-of}
use Rattle.edition_register.proofs.panel.Register+E+B.look.Goals as goal

pub returns-in-Ok-clause-looks : goal.returns-in-Ok-clause-looks
returns-in-Ok-clause-looks g c =
    let seat = c.enter-held.new.seat in let is = c.requires.seat in let e = c.enter-held.ensures in
    let made = c.in-Drawn.ensures in let n = number_of c.args.seat.now in
    let moves = moves-of n (first_of c.args.self.now) _ c.args.seat.now seat c.leave.new.seat (event.Look c.args.edition) (answer.Drawn c.in-Drawn.edition (g.E.Rows.tables c.in-Drawn.tables.value)) is.moves is.opens is.holds e.numbers e.seen e.legal e.permitted made.reply
    (c.leave.ensures.seen ∙ made.seen) (ap (λ hs. listed (least hs) hs) c.leave.ensures.numbers ∙ made.own) in
    let same : g.E.Rows.tables (arc_value c.in-Ok.handle) ≡ g.E.Rows.tables c.in-Drawn.tables.value = subst (λ h. IfOk h (λ a. g.E.Rows.tables (arc_value a) ≡ g.E.Rows.tables c.in-Drawn.tables.value)) c.in-Ok.is made.gives in
    let number = looked-same _ c.args.edition c.in-Drawn.edition _ made.reply in
    subst (λ t. Moves n (first_of c.args.self.now) c.args.seat.now c.leave.new.seat (event.Look c.args.edition) (answer.Drawn c.args.edition t)) (sym same)
    (subst (λ k. Moves n (first_of c.args.self.now) c.args.seat.now c.leave.new.seat (event.Look c.args.edition) (answer.Drawn k (g.E.Rows.tables c.in-Drawn.tables.value))) number moves)

pub returns-in-Ok-clause-seats : goal.returns-in-Ok-clause-seats
returns-in-Ok-clause-seats g c =
    let is = c.requires.seat in let e = c.enter-held.ensures in
    below-of (number_of c.args.seat.now) (callers_of c.args.self.now.turn) c.enter-held.new.seat c.leave.new.seat (event.Look c.args.edition) _ is.moves is.callers.1
    (e.numbers ∙ is.holds) e.seats (c.leave.ensures.seen ∙ c.in-Drawn.ensures.seen)

pub returns-in-Drawn-clause-looks : goal.returns-in-Drawn-clause-looks
returns-in-Drawn-clause-looks g c =
    let seat = c.enter-held.new.seat in let is = c.requires.seat in let e = c.enter-held.ensures in
    let made = c.in-Drawn.ensures in let n = number_of c.args.seat.now in
    let moves = moves-of n (first_of c.args.self.now) _ c.args.seat.now seat c.leave.new.seat (event.Look c.args.edition) (answer.Drawn c.in-Drawn.edition (g.E.Rows.tables c.in-Drawn.tables.value)) is.moves is.opens is.holds e.numbers e.seen e.legal e.permitted made.reply
    (c.leave.ensures.seen ∙ made.seen) (ap (λ hs. listed (least hs) hs) c.leave.ensures.numbers ∙ made.own) in
    let number = looked-same _ c.args.edition c.in-Drawn.edition _ made.reply in
    (g.E.Rows.tables c.in-Drawn.tables.value, subst (λ k. Moves n (first_of c.args.self.now) c.args.seat.now c.leave.new.seat (event.Look c.args.edition) (answer.Drawn k (g.E.Rows.tables c.in-Drawn.tables.value))) number moves)

pub returns-in-Drawn-clause-seats : goal.returns-in-Drawn-clause-seats
returns-in-Drawn-clause-seats g c =
    let is = c.requires.seat in let e = c.enter-held.ensures in
    below-of (number_of c.args.seat.now) (callers_of c.args.self.now.turn) c.enter-held.new.seat c.leave.new.seat (event.Look c.args.edition) _ is.moves is.callers.1
    (e.numbers ∙ is.holds) e.seats (c.leave.ensures.seen ∙ c.in-Drawn.ensures.seen)

pub returns-in-NoEdition-clause-looks : goal.returns-in-NoEdition-clause-looks
returns-in-NoEdition-clause-looks g c =
    let seat = c.enter-held.new.seat in let is = c.requires.seat in let e = c.enter-held.ensures in
    let made = c.in-NoEdition.ensures in let n = number_of c.args.seat.now in
    let moves = moves-of n (first_of c.args.self.now) _ c.args.seat.now seat c.leave.new.seat (event.Look c.args.edition) (answer.NoEdition c.in-NoEdition.count) is.moves is.opens is.holds e.numbers e.seen e.legal e.permitted made.reply
    (c.leave.ensures.seen ∙ made.seen) (ap (λ hs. listed (least hs) hs) c.leave.ensures.numbers ∙ made.own) in
    moves

pub returns-in-NoEdition-clause-seats : goal.returns-in-NoEdition-clause-seats
returns-in-NoEdition-clause-seats g c =
    let is = c.requires.seat in let e = c.enter-held.ensures in
    below-of (number_of c.args.seat.now) (callers_of c.args.self.now.turn) c.enter-held.new.seat c.leave.new.seat (event.Look c.args.edition) _ is.moves is.callers.1
    (e.numbers ∙ is.holds) e.seats (c.leave.ensures.seen ∙ c.in-NoEdition.ensures.seen)
