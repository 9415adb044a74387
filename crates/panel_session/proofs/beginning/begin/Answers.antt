use Rattle.std.proofs.Common.{◌≡◌, ◌∙◌, [], sym, ap, subst}
use Rattle.edition_register.proofs.SeatFacts.{own-listed}
use Rattle.histories.specs.History.{moves_of}
use Rattle.live_desk.proofs.DeskFacts.{starts-more}
use Rattle.panel_session.specs.Lanes.{lane_of, standing_in}
use Rattle.panel_session.proofs.BeginningFacts.{none-in-front, worked-as}
use Rattle.panel_session.proofs.beginning.begin.Goals as goal
use Rattle.turn_cell.specs.Seats.{holdings_of, number_of, own_moves, seen_by}
use Rattle.turn_cell.specs.Views.{least}

pub returns-clause-begins : goal.returns-clause-begins
returns-clause-begins g c =
    let number = c.args.place.now.desk in let first = c.meet_desk.ensures in let work = c.work.ensures in let last = c.meet_desk-2.ensures in
    let met = c.meet_desk.new in let worked = c.work.new in let left = c.meet_desk-2.new in
    let own : moves_of number (seen_by worked.side.seat) ≡ own_moves worked.side.seat = work.seat.listed ∙ sym (own-listed number (holdings_of worked.side.seat) work.seat.moves work.seat.holds) in
    let unused : own_moves met.desk ≡ [] = first.own.1 ∙ c.requires.seat.1 in
    let is_number = ap least c.requires.seat.0.holds in
    let none : moves_of number (seen_by met.desk) ≡ [] =
    subst (λ n. moves_of n (seen_by met.desk) ≡ []) is_number (first.seats.1.listed ∙ sym (own-listed (number_of c.args.side.now.seat) (holdings_of met.desk) first.seats.1.moves first.seats.1.holds) ∙ unused) in
    let old = lane_of c.args.side.now (g.S.Post.seen c.args.station.now) in
    let new = lane_of worked.side (g.S.Post.seen worked.self) in
    record {
      begins = record {
        worked = worked-as number worked.side.end (standing_in old) (standing_in new) (own_moves met.desk) (own_moves left.desk) first.own.1 (sym last.own.1) work.goes.worked;
        behind = starts-more (seen_by c.args.intake.now) (seen_by met.intake) (seen_by left.intake) first.intake.0 last.intake.0;
        unmoved = none-in-front number (seen_by c.args.intake.now) (seen_by met.desk) first.desk.1 none;
        seen = seen_by worked.side.seat;
        entered = own ∙ sym last.own.1;
        shown = last.intake.1;
        no_stamp = last.seats.0.listed ∙ sym (own-listed 0 (holdings_of left.intake) last.seats.0.moves last.seats.0.holds) ∙ last.own.0 ∙ first.own.0 ∙ c.requires.intake.1;
      };
      tells = record { script = work.goes.tells.script; replies = work.goes.tells.replies; handed = work.goes.tells.handed; holds = work.goes.tells.holds; missed = work.goes.tells.missed };
    }
