use Rattle.std.proofs.Common.{ap, sym, subst, ◌∙◌, length}
use Rattle.run_model.specs.RegisterHistories.{IsRegisterHistory, register_after}
use Rattle.turn_cell.specs.Seats.{seen_by}
use Rattle.edition_register.specs.Seats.{first_of}
use Rattle.edition_register.proofs.SeatFacts.{legal-of, state-of}
use Rattle.edition_register.proofs.register.Register+E+B.close.Goals as goal

pub returns-clause-legal : goal.returns-clause-legal
returns-clause-legal g c =
    let first = first_of c.args.self in
    subst (λ x. IsRegisterHistory first (seen_by x)) (sym c.of-told.ensures) (legal-of first _ (seen_by c.join.new.seat) c.requires.intake.opens c.close.ensures.legal)

pub returns-clause-next : goal.returns-clause-next
returns-clause-next g c =
    let first = first_of c.args.self in
    c.end-next.ensures.next ∙ ap (λ x. x.next) (c.close.ensures.state ∙ state-of first _ (seen_by c.join.new.seat) c.requires.intake.opens) ∙ ap (λ x. (register_after first (seen_by x)).next) (sym c.of-told.ensures)

pub returns-clause-editions : goal.returns-clause-editions
returns-clause-editions g c =
    let first = first_of c.args.self in
    c.end-next.ensures.editions ∙ ap (λ x. length x.editions) (c.close.ensures.state ∙ state-of first _ (seen_by c.join.new.seat) c.requires.intake.opens) ∙ ap (λ x. length (register_after first (seen_by x)).editions) (sym c.of-told.ensures)
