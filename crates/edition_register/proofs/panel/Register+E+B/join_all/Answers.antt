use Rattle.std.proofs.Common.{◌≡◌, ◌≢◌, ◌+◌, ◌<◌, [], ◌∷◌, ◌++◌, suc, length, length-append, reverse, sym, ap, subst, ◌∙◌, arith}
use Rattle.std.proofs.lemmas.List.{append-nil, reverse-append, reverse-reverse}
use Rattle.turn_cell.specs.Seats.{callers_of, holdings_of, own_moves, seen_by}
use Rattle.turn_cell.specs.Views.{AreListed, times}
use Rattle.edition_register.specs.Panels.{AreDesksFrom, ListFrom}
use Rattle.edition_register.proofs.PanelFacts.{listed-parts, none-left, starts-more, times-more}
use Rattle.edition_register.proofs.SeatFacts.{own-in, own-listed}
use Rattle.edition_register.proofs.panel.Register+E+B.join_all.Goals as goal

pub loop-desk-init : goal.loop-desk-init
loop-desk-init g c =
    let is = c.requires.seat in let seat = c.args.seat.now in
    let twice : reverse c.reverse.new.self.items ≡ c.args.desks.now.items = ap reverse c.reverse.ensures.items ∙ reverse-reverse c.args.desks.now.items in (
      1,
      record {
        seat = (is.of, is.idle);
        numbers = λ k low. subst (λ hs. times k hs ≢ 0) (sym is.holds) (times-more 0 is.moves [] (λ j none. absurd (omega arith)) k low);
        desks = subst (λ l. AreDesksFrom 1 c.args.self.now l) (sym twice) c.requires.desks;
        count = let long = ap length twice in let same = ap length c.reverse.ensures.items in search (arith, long, same);
        shows = λ history listed starts rest. (own-in 0 history (holdings_of seat) _ is.holds listed ∙ sym (own-listed 0 _ _ is.holds), starts, subst (λ l. ListFrom 1 history l) twice rest);
      },
    )

pub loop-desk-preserved : goal.loop-desk-preserved
loop-desk-preserved g c =
    let n = c.loop-desk.invariant.0 in let i = c.loop-desk.invariant.1 in let desk = c.in-Some.desk in let old = c.loop-desk.seat in
    let rev : reverse c.loop-desk.desks.items ≡ desk ∷ reverse c.pop.new.self.items = ap reverse c.in-Some.ensures.items ∙ reverse-append c.pop.new.self.items (desk ∷ []) in
    let parts = subst (λ l. AreDesksFrom n c.args.self.now l) rev i.desks in
    let holds = c.join.ensures.numbers ∙ ap (λ hs. holdings_of old ++ hs) parts.0.holds in (
      suc n,
      record {
        seat = (c.join.ensures.seat, c.join.ensures.idle);
        numbers = λ k low. subst (λ hs. times k hs ≢ 0) (sym holds) (times-more n parts.0.moves (holdings_of old) i.numbers k (omega arith));
        desks = parts.1;
        count = let one = ap length c.in-Some.ensures.items ∙ length-append c.pop.new.self.items (desk ∷ []) in let count = i.count in omega arith;
        shows = λ history listed starts rest.
            let split = listed-parts history n parts.0.moves (holdings_of old) (subst (λ hs. AreListed history hs) holds listed) in
            i.shows history split.0 (starts-more _ _ history c.join.ensures.seen starts)
            (subst (λ l. ListFrom n history l) (sym rev) (split.1 ∙ sym (own-listed n _ _ parts.0.holds), starts-more _ _ history c.join.ensures.seen_other starts, rest));
      },
    )

pub returns-clause-all : goal.returns-clause-all
returns-clause-all g c =
    let n = c.loop-desk.invariant.0 in let i = c.loop-desk.invariant.1 in
    let none : c.loop-desk.desks.items ≡ [] = none-left c.loop-desk.desks.items c.pop.result c.in_default.is (λ some. c.pop.ensures.variant.1 (let ok = c.loop-desk.desks.ok in search (arith, some, ok))) in
    let callers : callers_of c.args.self.now.turn ≡ n = subst (λ l. AreDesksFrom n c.args.self.now (reverse l)) none i.desks in
    λ k low. i.numbers k (subst (λ m. k < m) callers low)

pub returns-clause-shows : goal.returns-clause-shows
returns-clause-shows g c history listed starts =
    let n = c.loop-desk.invariant.0 in let i = c.loop-desk.invariant.1 in
    let none : c.loop-desk.desks.items ≡ [] = none-left c.loop-desk.desks.items c.pop.result c.in_default.is (λ some. c.pop.ensures.variant.1 (let ok = c.loop-desk.desks.ok in search (arith, some, ok))) in
    i.shows history listed starts (subst (λ l. ListFrom n history (reverse l)) (sym none) tt)
