use Rattle.std.proofs.Common.{◌≡◌, ◌∙◌, ◌+◌, ◌-◌, [], ℤ, List, Option, ap, arith, of_z, suc, sym, to_z}
use Rattle.std.specs.Int.{w128}
use Rattle.std.proofs.lemmas.Int.{ints}
use Rattle.mib_model.specs.declared.packet.Ended.{Ended}
use Rattle.mib_model.specs.declared.packet.Ended.TheVariants as ended
use Rattle.mib_model.specs.declared.packet.Value.{Value}
use Rattle.mib_model.specs.Walk.{Walking, structure_values}
use Rattle.row_walk.proofs.WalkFacts.{none-are, values-are, walked-ends, walked-goes}
use Rattle.row_walk.specs.Walks.{led}
use Rattle.row_walk.proofs.walk.structure_values.Goals as goal

pub returns-in-Some-clause-values : goal.returns-in-Some-clause-values
returns-in-Some-clause-values c =
    let same : to_z w128 (of_z w128 c.args.tpsd) ≡ c.args.tpsd = omega (arith, ints) in
    let next : c.walk_limit-end.result - c.loop.counter ≡ suc (c.walk_limit-end.result - (c.loop.counter + 1)) = omega (arith, c.loop-test.true) in
    let ends = c.in_ok-ended.ensures.step ∙ ap (λ (o : Option Ended). led o c.step.new.self) c.in-Some.is in
    ap (λ (w : Walking). (w.values, c.in-Some.ended)) c.walk.view_is
    ∙ (values-are c.args.rows.now c.args.packet.now _ c.args.dfhsize c.step.new.self.values c.in-Some.ended
    (sym c.loop.invariant.steps ∙ walked-ends c.args.rows.now c.args.packet.now c.loop.walk c.step.new.self _ _ c.in-Some.ended next ends)
    ∙ ap (λ (t : ℤ). structure_values c.args.rows.now t c.args.dfhsize c.args.packet.now) same)

pub loop-preserved : goal.loop-preserved
loop-preserved c =
    let next : c.walk_limit-end.result - c.loop.counter ≡ suc (c.walk_limit-end.result - (c.loop.counter + 1)) = omega (arith, c.loop-test.true) in
    let goes = c.in_ok-ended.ensures.step ∙ ap (λ (o : Option Ended). led o c.step.new.self) c.in_default.is in
    record {
      steps = sym (walked-goes c.args.rows.now c.args.packet.now c.loop.walk c.step.new.self _ _ next goes) ∙ c.loop.invariant.steps;
      end = c.loop.invariant.end;
      reach = omega (arith, c.loop.invariant.reach, c.in_ok-ended.ensures.reach);
      few = c.in_ok-ended.ensures.few;
      all = c.in_ok-ended.ensures.all;
    }

pub returns-clause-values : goal.returns-clause-values
returns-clause-values c =
    let same : to_z w128 (of_z w128 c.args.tpsd) ≡ c.args.tpsd = omega (arith, ints) in
    let none : c.walk_limit-end.result - c.loop.counter ≡ 0 = omega (arith, c.loop-test.false) in
    ap (λ (values : List Value). (values, ended.Whole)) c.new.ensures.items
    ∙ (none-are c.args.rows.now c.args.packet.now _ c.args.dfhsize _ c.loop.walk none c.loop.invariant.steps
    ∙ ap (λ (t : ℤ). structure_values c.args.rows.now t c.args.dfhsize c.args.packet.now) same)
