use Rattle.std.proofs.Common.{◌≡◌, ◌∙◌, ℤ, [], arith, ap, length, sym}
use Rattle.mib_model.specs.declared.database.Database.{Database}
use Rattle.numbered_plans.proofs.BuildingFacts.{none-among}
use Rattle.numbered_plans.specs.Numbered.{new_numbers}
use Rattle.numbered_plans.proofs.plan_set.PlanSet.beside.Goals as goal

pub returns-then-are_alike : goal.returns-then-are_alike
returns-then-are_alike g c =
    let same = g.P.NumberedPlan.same in
    let rows = g.P.NumberedPlan.rows_at in
    let old = c.args.base.now in
    let new = c.args.book.now in
    let alike : (q : ℤ) → rows old q ≡ rows new q = λ q. ap (λ (db : Database). rows db q) c.requires.base ∙ c.are_alike.ensures c.if-are_alike.true q in
    let none : new_numbers same rows g.P.NumberedPlan.numbers old new ≡ [] = none-among same (rows old) (rows new) g.met.P.NumberedPlan.is_same alike (g.P.NumberedPlan.numbers new) in
    record {
      set = c.in_ok-taken_over.ensures;
      compiled = c.new.ensures.items ∙ sym none;
      few = omega (arith, ap length c.new.ensures.items);
      steps = omega (arith, ap length none);
    }
