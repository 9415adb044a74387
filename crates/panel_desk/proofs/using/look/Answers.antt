use Rattle.edition_register.specs.Seats.{first_of}
use Rattle.turn_cell.specs.Seats.{number_of}
use Rattle.panel_desk.proofs.PanelFacts.{looks-start}
use Rattle.panel_desk.proofs.using.look.Goals as goal

pub returns-in-Ok-start-clause-looks : goal.returns-in-Ok-start-clause-looks
returns-in-Ok-start-clause-looks g c =
    looks-start (number_of c.args.seat.now) (first_of c.args.register.now) c.args.seat.now c.look.new.seat c.args.edition _ c.in-Ok-start.start c.in-Ok.ensures.looks c.in-Ok-start.ensures
