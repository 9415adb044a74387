use Rattle.std.proofs.Common.{◌≡◌, ◌∙◌, ◌+◌, List, arith, drop, length, map, subst, sym}
use Rattle.std.proofs.lemmas.List.{length-map}
use Rattle.edition_register.specs.Panels.{ListFrom}
use Rattle.edition_register.specs.Seats.{history_of}
use Rattle.histories.specs.History.{IsOfSeatsBelow}
use Rattle.live_session.specs.Codes.{code_by}
use Rattle.panel_session.specs.declared.side.DeskSide.{DeskSide}
use Rattle.panel_session.specs.Codes.{gravest}
use Rattle.panel_session.specs.Lanes.{Ran, lanes}
use Rattle.panel_session.specs.Opened.{first_in}
use Rattle.panel_session.proofs.PanelFacts.{Parts, lives-of}
use Rattle.panel_session.proofs.SideFacts.{front_of}
use Rattle.panel_session.proofs.opening.PanelRun.run.Goals as goal
use Rattle.turn_cell.specs.Seats.{own_moves, seen_by}

pub returns-clause-lives : goal.returns-clause-lives
returns-clause-lives g c =
    let first = first_in c.args.self in let history = history_of c.finish.result.closed in
    let fin = c.finish.ensures in let ran = c.run_desks-ended.ensures in let new = c.run_desks-ended.new in let seen = g.S.Post.seen in
    let opened = c.requires.opened in let kept = c.run_desks-ended.auto in
    let same = front_of new.sides (drop (length new.sides) c.args.self.sides.items) c.args.self.sides.len (omega (arith, kept.sides, c.deref_mut.ensures.len)) in
    let r : Parts first history = record {
      sides = c.args.self.sides.items;
      end_sides = new.sides;
      seens = map seen c.args.stations.now;
      end_seens = map seen new.stations;
      before = seen_by c.args.self.intake.seat;
      last = seen_by new.intake.seat;
      unmoved = opened.unmoved;
      new = opened.new;
      ran = subst (λ (l : List DeskSide). Ran 1 (lanes l (map seen c.args.stations.now)) (lanes new.sides (map seen new.stations)) (seen_by c.args.self.intake.seat) (seen_by new.intake.seat)) c.deref_mut.ensures.value ran.ran;
      listed = subst (λ (l : List DeskSide). ListFrom 1 history (map (λ side. side.seat) l)) same fin.desks;
      whole = fin.seen;
      same = opened.many ∙ sym (length-map c.args.stations.now seen);
      end_same = omega (arith, kept.sides, kept.stations, opened.many, length-map new.stations seen);
    } in
    lives-of first history r _ c.args.self.intake.watch new.intake.watch c.run_desks-ended.result (own_moves new.intake.seat) fin.legal.0 fin.legal.1 fin.intake c.finish.result.code
    (g.F.Source.faults c.args.feed.now) (g.F.Source.faults new.feed) (g.O.Sink.faults c.args.out.now) (g.O.Sink.faults new.out)
    (g.F.Source.left c.args.feed.now) (g.F.Source.left new.feed) (g.O.Sink.written c.args.out.now) (g.O.Sink.written new.out) (subst (λ (l : List DeskSide). c.finish.result.code ≡ code_by c.run_desks-ended.result (gravest l)) same fin.code)
    (subst (λ (l : List DeskSide). IsOfSeatsBelow (length l + 1) history) same fin.seats) ran.takes.out_cause ran.takes.runs
