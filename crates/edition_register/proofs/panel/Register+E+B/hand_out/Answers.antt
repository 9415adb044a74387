use Rattle.std.proofs.Common.{◌≡◌, ◌≤◌, ◌<◌, ◌+◌, ◌-◌, [], ◌∷◌, suc, length, reverse, sym, ap, subst, ◌∙◌, arith, length-append}
use Rattle.std.proofs.lemmas.List.{reverse-append}
use Rattle.std.specs.List.{AllByRecursion}
use Rattle.histories.specs.History.{moves_of}
use Rattle.turn_cell.specs.Seats.{holdings_of, own_moves, seen_by}
use Rattle.turn_cell.specs.Views.{handed, holding, holdings_below, kept}
use Rattle.edition_register.specs.Panels.{AreDesksFrom}
use Rattle.edition_register.proofs.PanelFacts.{handed-greatest}
use Rattle.edition_register.proofs.SeatFacts.{own-listed}
use Rattle.edition_register.proofs.panel.Register+E+B.hand_out.Goals as goal

pub loop-preserved : goal.loop-preserved
loop-preserved g c =
    let i = c.loop.invariant in let k = c.loop.counter in let most = c.requires.some.1 in let below : k < c.args.desks = c.loop-test.true in
    let n = c.args.desks - 1 - k in let callers = c.requires.callers in
    let here : c.args.desks + 1 - k ≡ n + 2 = omega arith in
    let up : c.args.desks + 1 - k ≡ suc (n + 1) = omega arith in
    let next : c.args.desks + 1 - (k + 1) ≡ n + 1 = omega arith in
    let greatest = handed-greatest n (omega arith) in
    let before = i.holds ∙ ap holdings_below here in
    let desk = c.split-desk.result in let split = c.split-desk.ensures in
    let held : holdings_of desk ≡ holding (n + 1) [] ∷ [] = split.handed ∙ ap handed before ∙ greatest.1 in
    let seen : seen_by desk ≡ [] = split.seen.1 ∙ i.seen in
    let rev : reverse c.push_reserved.new.self.items ≡ desk ∷ reverse c.loop.seats.items = ap reverse c.push_reserved.ensures.items ∙ reverse-append c.loop.seats.items (desk ∷ []) in
    let desks : AreDesksFrom (n + 1) c.args.self.now (desk ∷ reverse c.loop.seats.items) = (
      record {
        opens = c.requires.opens;
        callers = (omega arith, omega arith);
        of = split.seats.1;
        idle = split.idle.1;
        moves = [];
        holds = held;
        listed = ap (moves_of (n + 1)) seen;
      },
      subst (λ m. AreDesksFrom m c.args.self.now (reverse c.loop.seats.items)) up i.seats,
    ) in
    record {
      seat = (split.seats.0, split.idle.0);
      holds = split.kept ∙ ap kept before ∙ greatest.0 ∙ ap holdings_below (sym next);
      seen = split.seen.0 ∙ i.seen;
      count = ap length c.push_reserved.ensures.items ∙ length-append c.loop.seats.items (desk ∷ []) ∙ ap (λ m. m + 1) i.count;
      room = search (arith, i.room, c.push_reserved.ensures.capacity);
      seats = subst (λ m. AreDesksFrom m c.args.self.now (reverse c.push_reserved.new.self.items)) (sym next) (subst (λ l. AreDesksFrom (n + 1) c.args.self.now l) (sym rev) desks);
      unmoved = subst (λ l. AllByRecursion (λ seat. own_moves seat ≡ []) l) (sym rev) (own-listed (n + 1) (holdings_of desk) [] held, i.unmoved);
    }

pub returns-clause-unmoved : goal.returns-clause-unmoved
returns-clause-unmoved g c = subst (λ l. AllByRecursion (λ seat. own_moves seat ≡ []) l) (sym c.reverse.ensures.items) c.loop.invariant.unmoved
