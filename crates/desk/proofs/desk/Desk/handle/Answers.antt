use Rattle.turn_cell.specs.Seats.{own_moves}
use Rattle.desk_lines.specs.Requests.{asked}
use Rattle.std.proofs.Common.{false}
use Rattle.std.specs.Prelude.{option_map}
use Rattle.run_model.specs.Desk.{Plain}
use Rattle.desk.proofs.HandlingFacts.{handled-edit, ticks-none}
use Rattle.desk.proofs.desk.Desk.handle.Goals as goal

pub returns-in-Ok-clause-handles : goal.returns-in-Ok-clause-handles
returns-in-Ok-clause-handles g c = handled-edit false 1 (asked c.args.request) c.args.self.now.edition c.args.self.now.draft c.edit.new.draft (own_moves c.args.seat.now) c.in-Ok.reply c.in-Ok.ensures.edits

pub returns-in-Ok-clause-steps : goal.returns-in-Ok-clause-steps
returns-in-Ok-clause-steps g c = ticks-none (asked c.args.request) (option_map Plain c.in-Ok.reply) _ c.in-Ok.ensures.unentered
