use Rattle.std.proofs.Common.{◌≡◌, ◌∙◌, ◌+◌, [], ◌∷◌, ◌++◌, length, sym, ap, rules, FitsSigned}
use mir.Syntax.{w128}
use Rattle.std.proofs.lemmas.Int.{to_z-of_z}
use Rattle.std.proofs.lemmas.List.{length_push}
use Rattle.std.proofs.lemmas.Slice.Zip.{zip_turn, zip_end}
use Rattle.std.specs.Arc.{arc_value}
use Rattle.param_plan.proofs.ChoiceFacts.{all-selected, first_selections, selected-more}
use Rattle.param_plan.proofs.choice.selected.Goals as goal

pub loop-cur-preserved : goal.loop-cur-preserved
loop-cur-preserved c =
    let turn = zip_turn c.args.curs.now c.args.curves.now c.loop-cur.yielded c.into_iter-cur-iterator.result c.loop-cur.cur-iterator c.next.new.self c.next.result (cc) (cc) c.loop-cur.yielded_by (c.in-Some.cur, c.in-Some.curve) c.in-Some.is c.next.ensures.steps in
    let fits : FitsSigned w128 c.in-Some.cur.now.valpar = search rules in
    let count : length (c.loop-cur.yielded ++ (c.in-Some.cur, c.in-Some.curve) ∷ []) ≡ length c.loop-cur.yielded + 1 = length_push c.loop-cur.yielded (c.in-Some.cur, c.in-Some.curve) in
    c.in_ok-push.ensures.items ∙
    (selected-more arc_value c.args.curs.now c.args.curves.now (length c.loop-cur.yielded) c.in-Some.cur.now c.in-Some.curve.now _ (c.in_ok-of.field-0) c.loop-cur.selections.items
    turn.0 turn.1 (turn.2 c.in-Some.cur.now) (turn.3 c.in-Some.curve.now) (to_z-of_z w128 c.in-Some.cur.now.valpar fits) c.in_ok-of.ensures c.loop-cur.invariant ∙
    ap (first_selections arc_value c.args.curs.now c.args.curves.now) (sym count))

pub returns : goal.returns
returns c =
    let all = zip_end c.args.curs.now c.args.curves.now c.loop-cur.yielded c.into_iter-cur-iterator.result c.loop-cur.cur-iterator c.next.new.self c.next.result (cc) (cc) c.loop-cur.yielded_by c.in-None.is c.next.ensures.steps in
    c.loop-cur.invariant ∙ all-selected arc_value c.args.curs.now c.args.curves.now (length c.loop-cur.yielded) all
