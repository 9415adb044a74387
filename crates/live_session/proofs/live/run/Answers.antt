use denote.Param.Send.{sendable}
use Rattle.std.proofs.Common.{◌≡◌, [], Option, None, false, sym, ap, subst, ◌∙◌}
use Rattle.desk.specs.State.{desk_of}
use Rattle.edition_register.specs.Seats.{first_of}
use Rattle.histories.specs.History.{moves_of}
use Rattle.live_desk.specs.declared.desk_end.DeskEnd.{DeskEnd}
use Rattle.live_desk.specs.Scripts.{DeskedFrom, EndsEarly, Worked}
use Rattle.live_desk.specs.Standing.{Standing, standing_of}
use Rattle.live_desk.proofs.DeskFacts.{desked-both, desked-early}
use Rattle.live_session.proofs.SharedEdition.{compiled-send, compiled-sync}
use Rattle.live_session.proofs.live.run.Goals as goal
use Rattle.run_model.specs.RegisterHistories.{RegisterHistory}
use Rattle.turn_cell.specs.Seats.{own_moves, seen_by}
use Rattle.turn_cell.specs.Views.{least, listed}

-- a standing with these moves
abbrev moved : Standing → RegisterHistory → Standing
moved standing own = record standing { held = record standing.held { own = own } }

pub returns-in-Some-clause-desked : goal.returns-in-Some-clause-desked
returns-in-Some-clause-desked g c =
    let e = c.in-Some.end in let first = first_of c.args.place.now.register.now in
    let intake = c.meet.ensures.seats.0 in let seat = c.work-begun.ensures.seated.0 in let begun = c.work-begun.new in
    let front = seen_by c.meet.new.intake in let all = seen_by c.run_intake-ended.new.side.seat in
    let none : moves_of 0 front ≡ [] = intake.listed ∙ sym (ap (λ hs. listed (least hs) hs) intake.holds) ∙ c.meet.ensures.own.0 ∙ c.requires.ready.unused in
    let own = seat.listed ∙ sym (ap (λ hs. listed (least hs) hs) seat.holds) in
    let before = standing_of desk_of g.D.Source.left g.P.Sink.written c.args.reader.now c.args.side.now.desk c.args.side.now.seat c.args.replies.now in
    let after = standing_of desk_of g.D.Source.left g.P.Sink.written begun.reader begun.operator begun.seat begun.replies in
    subst (λ (o : RegisterHistory). DeskedFrom None e first all before (moved after o)) (sym c.meet.ensures.own.1)
    (desked-early None e first all front (seen_by begun.seat) c.run_intake-ended.ensures.seat.1 none c.meet.ensures.intake.1 before after own c.requires.start c.requires.desk.unused c.requires.desk.draft c.in-Some.ensures.worked).0

pub returns-in-None-clause-desked : goal.returns-in-None-clause-desked
returns-in-None-clause-desked g c =
    let e = c.in-Some-rest.end in let first = first_of c.args.place.now.register.now in
    let intake = c.meet.ensures.seats.0 in let seat = c.work-begun.ensures.seated.0 in let begun = c.work-begun.new in let ended = c.run_both-ended.new in
    let front = seen_by c.meet.new.intake in let all = seen_by ended.intake.seat in
    let none : moves_of 0 front ≡ [] = intake.listed ∙ sym (ap (λ hs. listed (least hs) hs) intake.holds) ∙ c.meet.ensures.own.0 ∙ c.requires.ready.unused in
    let own = seat.listed ∙ sym (ap (λ hs. listed (least hs) hs) seat.holds) in
    let before = standing_of desk_of g.D.Source.left g.P.Sink.written c.args.reader.now c.args.side.now.desk c.args.side.now.seat c.args.replies.now in
    let middle = standing_of desk_of g.D.Source.left g.P.Sink.written begun.reader begun.operator begun.seat begun.replies in
    let after = standing_of desk_of g.D.Source.left g.P.Sink.written ended.reader ended.side.desk ended.side.seat ended.replies in
    (desked-both None e first all front (seen_by begun.seat) c.run_both-ended.ensures.intake.1 none c.meet.ensures.intake.1 before middle after own c.requires.start c.requires.desk.unused c.requires.desk.draft c.in-None.ensures.worked
    (subst (λ (o : RegisterHistory). EndsEarly None false e (moved middle o) after) c.meet.ensures.own.1
    (subst (λ (r : Option DeskEnd). Worked None false r (moved middle (own_moves c.meet.new.desk)) after) c.in-Some-rest.is c.run_both-ended.ensures.worked))).0

pub run_intake-ended-requires-send-E : goal.run_intake-ended-requires-send-E
run_intake-ended-requires-send-E g c κs within = search (compiled-send, sendable) depth 9

pub run_intake-ended-requires-sync-E : goal.run_intake-ended-requires-sync-E
run_intake-ended-requires-sync-E g c κs within = search (compiled-sync, sendable) depth 9
