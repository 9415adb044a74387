use Rattle.std.proofs.Common.{false}
use Rattle.run_model.specs.declared.register.Entry.TheVariants as entry
use Rattle.run_model.specs.DeskLines as Spec
use Rattle.edition_register.specs.Seats.{first_of}
use Rattle.desk.specs.State.{desk_of}
use Rattle.desk.proofs.HandlingFacts.{way-use_from}
use Rattle.desk.proofs.ShownFacts.{used-handled, used-seen}
use Rattle.desk.proofs.desk.Desk.use_from.Goals as goal

pub returns-clause-handles : goal.returns-clause-handles
returns-clause-handles g c =
    used-handled (Spec.UseFrom c.args.edition c.args.from) (desk_of c.args.self.now) c.args.edition (first_of c.args.register.now) c.args.seat.now c.use_from.new.seat (entry.UseFrom c.args.edition c.args.from) _ c.use_from.result c.reply_of.result
    (way-use_from false (desk_of c.args.self.now) c.args.edition c.args.from) c.use_from.ensures.uses c.reply_of.ensures

pub returns-clause-seen : goal.returns-clause-seen
returns-clause-seen g c = used-seen 1 (first_of c.args.register.now) c.args.seat.now c.use_from.new.seat (entry.UseFrom c.args.edition c.args.from) _ c.use_from.result c.use_from.ensures.uses
