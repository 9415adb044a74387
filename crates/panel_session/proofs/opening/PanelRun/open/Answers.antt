use Rattle.std.proofs.Common.{◌≡◌, ◌∙◌, [], ap, length, rules, subst, sym}
use Rattle.std.proofs.lemmas.List.{length-map}
use Rattle.std.specs.Arc.{arc_value}
use Rattle.std.specs.List.{AllByRecursion}
use Rattle.edition_register.specs.Panels.{AreDesksFrom}
use Rattle.edition_register.specs.Seats.{first_of}
use Rattle.panel_session.specs.Opened.{IsNewSide}
use Rattle.panel_session.proofs.opening.PanelRun.open.Goals as goal
use Rattle.turn_cell.specs.Seats.{own_moves}

pub returns-clause-opened : goal.returns-clause-opened
returns-clause-opened c =
    let made = c.in_ok-register.ensures in let register = c.in_ok-register.register in let sides = c.in_ok-sides.sides.items in let first = c.in_ok-start.start.handle in
    let seats = sym c.in_ok-sides.ensures.seats in
    let same : arc_value first ≡ first_of register = search rules in
    record {
      intake = made.intake.0;
      unused = made.intake.1;
      ready = search rules;
      seats = subst (λ l. AreDesksFrom 1 register l) seats made.desks;
      unmoved = subst (λ l. AllByRecursion (λ seat. own_moves seat ≡ []) l) seats made.unmoved;
      many = sym (length-map sides (λ side. side.seat)) ∙ ap (λ l. length l) c.in_ok-sides.ensures.seats ∙ made.count;
      new = subst (λ d. AllByRecursion (IsNewSide d) sides) same c.in_ok-sides.ensures.new;
      room = search rules;
    }
