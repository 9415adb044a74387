use Rattle.std.proofs.Common.{◌≡◌, ◌∙◌, pos, ap, arith, get_or}
use Rattle.std.proofs.lemmas.List.{get_or_default}
use Rattle.numbered_plans.proofs.NumberFacts.{in_order}
use Rattle.numbered_plans.proofs.BuildingFacts.{count-more, found-more, new-more}
use Rattle.numbered_plans.specs.Numbered.{plan_at}
use Rattle.numbered_plans.proofs.building.noted.Goals as goal

pub loop-number-preserved : goal.loop-number-preserved
loop-number-preserved g c =
    let same = g.S.Sources.same in
    let old = g.S.Sources.rows_at c.args.before.now in
    let new = g.S.Sources.rows_at c.args.new.now in
    let ns = c.args.numbers.now in
    let i = c.loop-number.number-index in
    let n = get_or ns i 0 in
    let is : n ≡ get_or ns i n = get_or_default ns i 0 n c.loop-number-test.true in
    let held = plan_at c.loop-number.building.plans (pos n) in
    let found = c.loop-number.invariant.plans (pos n) in
    let more = count-more same old new ns i n held c.loop-number-test.true is found in
    record {
      plans = λ q.
          let noted = c.in_ok-note.ensures.plans q in
          rw (c.loop-number.invariant.plans q) at noted ∙ found-more new ns i n q c.loop-number-test.true is;
      compiled =
          ap in_order c.in_ok-note.ensures.compiled
          ∙ new-more same old new ns i n c.loop-number.building.compiled.items held c.loop-number-test.true is found c.loop-number.invariant.compiled;
      steps = omega (arith, c.in_ok-note.ensures.steps, c.loop-number.invariant.steps, more);
    }
