use Rattle.std.specs.Arc.{arc_value}
use Rattle.turn_cell.specs.Seats.{number_of}
use Rattle.edition_register.specs.Seats.{first_of}
use Rattle.panel_desk.specs.State.{panel_state}
use Rattle.panel_desk.proofs.PanelFacts.{took-handled, took-none}
use Rattle.panel_desk.proofs.panel_desk.PanelDesk.take.Goals as goal

pub returns-in-Ok-new-clause-handles : goal.returns-in-Ok-new-clause-handles
returns-in-Ok-new-clause-handles g c = let drawn = c.in-Ok.field-0 in
    took-handled (number_of c.args.seat.now) (panel_state c.args.self.now) (first_of c.args.register.now) c.args.seat.now c.newest.new.seat drawn.edition (arc_value drawn.handle) c.in-Ok.ensures.draws c.in-Ok-new.draft c.in-Ok-new.ensures

pub returns-in-Err-new-clause-handles : goal.returns-in-Err-new-clause-handles
returns-in-Err-new-clause-handles g c = let drawn = c.in-Ok.field-0 in
    took-none (number_of c.args.seat.now) (panel_state c.args.self.now) (first_of c.args.register.now) c.args.seat.now c.newest.new.seat drawn.edition (arc_value drawn.handle) c.in-Ok.ensures.draws

pub returns-in-Err-clause-handles : goal.returns-in-Err-clause-handles
returns-in-Err-clause-handles g c = let draws = c.in-Err.ensures.draws in
    took-none (number_of c.args.seat.now) (panel_state c.args.self.now) (first_of c.args.register.now) c.args.seat.now c.newest.new.seat draws.0 draws.1 draws.2
