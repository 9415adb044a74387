use Rattle.std.proofs.Common.{true, Some, ap, arith, refl, subst}
use Rattle.std.specs.Arc.{arc_value}
use Rattle.run_model.specs.declared.register.Entry.TheVariants as entry
use Rattle.run_model.specs.DeskLines as Spec
use Rattle.edition_register.specs.Panels.{IsDeskSeat}
use Rattle.edition_register.specs.Seats.{UsesAt, first_of}
use Rattle.edition_register.proofs.PanelFacts.{starts-more}
use Rattle.turn_cell.specs.Seats.{number_of, seen_by}
use Rattle.turn_cell.specs.Views.{least}
use Rattle.desk.proofs.HandlingFacts.{way-use}
use Rattle.panel_desk.proofs.PanelFacts.{looked-none, looked-used, looks-shown, used-one}
use Rattle.desk.proofs.ShownFacts.{used-seen}
use Rattle.panel_desk.proofs.using.use_now.Goals as goal

pub returns-in-Err-clause-handles : goal.returns-in-Err-clause-handles
returns-in-Err-clause-handles g c = λ s.
    looked-none (number_of c.args.seat.now) (Spec.Use c.args.edition) s (first_of c.args.register.now) c.args.seat.now c.look.new.seat c.args.edition (entry.Use c.args.edition) c.in-Err.reply refl refl (way-use true s c.args.edition) c.in-Err.ensures.looks

pub use_shown-requires-clause-start : goal.use_shown-requires-clause-start
use_shown-requires-clause-start g c = looks-shown (number_of c.args.seat.now) (first_of c.args.register.now) c.args.seat.now c.look.new.seat c.args.edition c.in-Ok.start c.in-Ok.ensures.looks

pub returns-clause-seat : goal.returns-clause-seat
returns-clause-seat g c = subst (λ n. IsDeskSeat n c.args.register.now c.use_shown.new.seat) (ap least c.in-Ok.ensures.seat.holds) c.use_shown.ensures.seat

pub returns-clause-handles : goal.returns-clause-handles
returns-clause-handles g c = λ s.
    let number = number_of c.args.seat.now in let first = first_of c.args.register.now in let middle = c.look.new.seat in let looks = c.in-Ok.ensures.looks in
    looked-used number (Spec.Use c.args.edition) s first c.args.seat.now c.use_shown.new.seat c.args.edition (entry.Use c.args.edition) middle (arc_value c.in-Ok.start.handle) (Some c.in-Ok.start) c.use_shown.result c.reply_of.result (way-use true s c.args.edition)
    looks.0 (subst (λ n. UsesAt n first middle c.use_shown.new.seat (entry.Use c.args.edition) (Some c.in-Ok.start) c.use_shown.result) (ap least c.in-Ok.ensures.seat.holds) c.use_shown.ensures.uses) c.reply_of.ensures

pub returns-clause-seen : goal.returns-clause-seen
returns-clause-seen g c =
    starts-more (seen_by c.args.seat.now) (seen_by c.look.new.seat) (seen_by c.use_shown.new.seat) c.in-Ok.ensures.seen
    (used-seen (number_of c.look.new.seat) (first_of c.args.register.now) c.look.new.seat c.use_shown.new.seat (entry.Use c.args.edition) (Some c.in-Ok.start) c.use_shown.result c.use_shown.ensures.uses)

pub returns-clause-few : goal.returns-clause-few
returns-clause-few g c =
    omega (
      arith,
      c.in-Ok.ensures.few,
      used-one (number_of c.look.new.seat) (first_of c.args.register.now) c.look.new.seat c.use_shown.new.seat (entry.Use c.args.edition) (Some c.in-Ok.start) c.use_shown.result c.use_shown.ensures.uses,
    )
