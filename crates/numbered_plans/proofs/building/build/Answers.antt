use Rattle.std.proofs.Common.{◌≡◌, ◌∙◌, ap, arith, length}
use Rattle.numbered_plans.proofs.BuildingFacts.{few-new}
use Rattle.numbered_plans.specs.Numbered.{found_among, new_among, new_numbers, plan_at}
use Rattle.numbered_plans.proofs.building.build.Goals as goal

pub returns : goal.returns
returns g c =
    let same = g.S.Sources.same in
    let old = g.S.Sources.rows_at c.args.before.now in
    let new = g.S.Sources.rows_at c.args.new.now in
    let numbers = c.deref.ensures.value ∙ c.in_ok-numbers.ensures.all in
    let all : new_among same old new c.deref.result.now ≡ new_numbers same g.S.Sources.rows_at g.S.Sources.numbers c.args.before.now c.args.new.now =
    ap (new_among same old new) numbers in
    let compiled = c.in_ok-in_order.ensures ∙ c.in_ok-plans.ensures.compiled ∙ all in
    record {
      plans = λ q.
          (λ i. plan_at (c.in_ok-of.ensures i) q)
          ∙ c.in_ok-plans.ensures.plans q
          ∙ (λ i. found_among new (numbers i) q)
          ∙ g.met.S.Sources.covers c.args.new.now q;
      compiled = compiled;
      few = omega (arith, ap length compiled, few-new same old new (g.S.Sources.numbers c.args.new.now), ap length c.in_ok-numbers.ensures.all, c.in_ok-numbers.ensures.few);
      steps = omega (arith, c.in_ok-plans.ensures.steps, ap length all);
    }
