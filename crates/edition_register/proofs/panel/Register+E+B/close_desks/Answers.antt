use Rattle.std.proofs.Common.{◌≡◌, [], ap, sym, subst, ◌∙◌, length}
use Rattle.std.proofs.lemmas.List.{append-nil}
use Rattle.histories.specs.History.{StartsWith, moves_of}
use Rattle.run_model.specs.RegisterHistories.{IsRegisterHistory, register_after}
use Rattle.turn_cell.specs.Seats.{own_moves, seen_by}
use Rattle.edition_register.specs.Panels.{ListFrom}
use Rattle.edition_register.specs.Seats.{first_of}
use Rattle.edition_register.proofs.SeatFacts.{legal-of, state-of}
use Rattle.edition_register.proofs.panel.Register+E+B.close_desks.Goals as goal

pub returns-clause-legal : goal.returns-clause-legal
returns-clause-legal g c =
    let first = first_of c.args.self in
    subst (λ x. IsRegisterHistory first (seen_by x)) (sym c.of-told.ensures) (legal-of first _ (seen_by c.join_all.new.seat) c.requires.intake.opens c.close.ensures.legal)

pub returns-clause-intake : goal.returns-clause-intake
returns-clause-intake g c =
    let seen = seen_by c.join_all.new.seat in
    subst (λ x. moves_of 0 (seen_by x) ≡ own_moves c.args.intake) (sym c.of-told.ensures) (c.join_all.ensures.shows seen c.close.ensures.listed ([], sym (append-nil seen))).0

pub returns-clause-seen : goal.returns-clause-seen
returns-clause-seen g c =
    let seen = seen_by c.join_all.new.seat in
    subst (λ x. StartsWith (seen_by x) (seen_by c.args.intake)) (sym c.of-told.ensures) (c.join_all.ensures.shows seen c.close.ensures.listed ([], sym (append-nil seen))).1

pub returns-clause-desks : goal.returns-clause-desks
returns-clause-desks g c =
    let seen = seen_by c.join_all.new.seat in
    subst (λ x. ListFrom 1 (seen_by x) c.args.desks.items) (sym c.of-told.ensures) (c.join_all.ensures.shows seen c.close.ensures.listed ([], sym (append-nil seen))).2

pub returns-clause-next : goal.returns-clause-next
returns-clause-next g c =
    let first = first_of c.args.self in
    c.end-next.ensures.next ∙ ap (λ x. x.next) (c.close.ensures.state ∙ state-of first _ (seen_by c.join_all.new.seat) c.requires.intake.opens) ∙ ap (λ x. (register_after first (seen_by x)).next) (sym c.of-told.ensures)

pub returns-clause-editions : goal.returns-clause-editions
returns-clause-editions g c =
    let first = first_of c.args.self in
    c.end-next.ensures.editions ∙ ap (λ x. length x.editions) (c.close.ensures.state ∙ state-of first _ (seen_by c.join_all.new.seat) c.requires.intake.opens) ∙ ap (λ x. length (register_after first (seen_by x)).editions) (sym c.of-told.ensures)
