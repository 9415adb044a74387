use Rattle.std.proofs.Common.{ap, sym, subst, ◌∙◌, length, arith}
use Rattle.std.specs.List.{AllByRecursion}
use Rattle.run_model.specs.RegisterHistories.{register_after}
use Rattle.edition_register.specs.Shown.{HasItsTables}
use Rattle.run_model.specs.declared.register.Answer.TheVariants as answer
use Rattle.run_model.specs.declared.register.Entry.TheVariants as event
use Rattle.turn_cell.specs.Views.{least, listed}
use Rattle.turn_cell.specs.Seats.{callers_of, holdings_of, own_moves, seen_by}
use Rattle.edition_register.specs.Seats.{first_of}
use Rattle.edition_register.proofs.SeatFacts.{begins-as, below-of, exactly-of, moves-of, next-fits, own-in, own-listed, throughout-of}
use Rattle.edition_register.proofs.register.Register+E+B.stamp.Goals as goal

pub append-reply-requires-clause-fits : goal.append-reply-requires-clause-fits
append-reply-requires-clause-fits g c =
    let seat = c.enter-held.new.seat in let is = c.requires.seat in let e = c.enter-held.ensures in
    let holds = e.numbers ∙ is.holds in
    let listed_here = own-in 0 (seen_by seat) (holdings_of seat) _ holds e.listed ∙ sym (own-listed 0 _ _ is.holds) in
    let few = ap length listed_here in let room = c.requires.room in
    next-fits (first_of c.args.self.now) _ (seen_by seat) is.opens e.legal e.permitted (omega arith)

pub returns-clause-stamps : goal.returns-clause-stamps
returns-clause-stamps g c =
    let seat = c.enter-held.new.seat in let is = c.requires.seat in let e = c.enter-held.ensures in
    let holds = e.numbers ∙ is.holds in
    let listed_here = own-in 0 (seen_by seat) (holdings_of seat) _ holds e.listed ∙ sym (own-listed 0 _ _ is.holds) in
    let made = c.in-Stamped.ensures in let first = first_of c.args.self.now in
    let shown = g.E.Rows.tables c.in-Stamped.tables.value in
    let a = answer.Stamped c.in-Stamped.number c.in-Stamped.edition shown in
    let moves = moves-of 0 first _ c.args.seat.now seat c.leave.new.seat event.Stamp a is.moves is.opens is.holds e.numbers e.seen e.legal e.permitted made.reply
    (c.leave.ensures.seen ∙ made.seen) (ap (λ hs. listed (least hs) hs) c.leave.ensures.numbers ∙ made.own) in
    let exactly = exactly-of first _ (seen_by seat) _ is.opens made.gives.0 in
    record {
      shown = shown;
      moves = moves;
      exactly = exactly;
      begins = begins-as g.E.Rows.tables g.B.MadeFor.made_for first (seen_by seat) (own_moves c.args.seat.now) c.in-Stamped.number c.in-Stamped.edition shown c.in-Stamped.start moves.legal e.permitted listed_here moves.answers exactly made.gives.1;
      throughout = subst (λ l. AllByRecursion (λ m. HasItsTables (register_after first (seen_by seat)).editions m.reply) l) (sym moves.own) (throughout-of first (seen_by seat) (own_moves c.args.seat.now) a moves.legal listed_here moves.answers);
    }

pub returns-clause-seats : goal.returns-clause-seats
returns-clause-seats g c =
    let is = c.requires.seat in let e = c.enter-held.ensures in let callers = is.callers in
    below-of 0 (callers_of c.args.self.now.turn) c.enter-held.new.seat c.leave.new.seat (event.Stamp) _ is.moves (callers)
    (e.numbers ∙ is.holds) e.seats (c.leave.ensures.seen ∙ c.in-Stamped.ensures.seen)
