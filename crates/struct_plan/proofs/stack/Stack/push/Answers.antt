use Rattle.std.proofs.Common.{◌≡◌, ◌∙◌, ◌+◌, ◌-◌, Option, drop, take, refl, sym, ap, arith}
use Rattle.std.specs.List.{cons_option}
use Rattle.mib_model.specs.Fixed.{most_values}
use Rattle.struct_plan.specs.declared.group.RowGroup.{RowGroup}
use Rattle.struct_plan.specs.Stacks.{kept, paired, standing}
use Rattle.struct_plan.proofs.StackFacts.{one-more}
use Rattle.struct_plan.proofs.stack.Stack.push.Goals as goal

pub returns-in_default-clause-groups : goal.returns-in_default-clause-groups
returns-in_default-clause-groups c =
    let values = c.args.values.now in
    let stack = c.lose.new.self in
    let fewer : most_values - (values.used + 1) ≡ most_values - values.used - 1 = omega arith in
    one-more (most_values - values.used) stack.count c.args.group _ (paired (drop stack.top values.slots.now)) (kept values c.args.self.now) (omega arith) refl
    (ap (λ (o : Option RowGroup). take stack.count (cons_option o (paired (drop stack.top values.slots.now)))) (sym c.in_default.is) ∙
    (c.lose.ensures.groups ∙ ap (λ n. take n (kept values c.args.self.now)) fewer))

pub returns-clause-groups : goal.returns-clause-groups
returns-clause-groups c =
    let values = c.args.values.now in
    let fewer : most_values - (values.used + 1) ≡ most_values - values.used - 1 = omega arith in
    let count : c.free_slot.new.self.count + 1 ≡ c.pair.new.self.count = sym c.pair.ensures.count in
    ap (λ n. take n (standing c.pair.new.values c.pair.new.self)) (sym count) ∙
    one-more (most_values - values.used) c.free_slot.new.self.count c.args.group (standing c.pair.new.values c.pair.new.self) (standing c.free_slot.new.values c.free_slot.new.self) (kept values c.args.self.now) (omega arith)
    c.pair.ensures.standing (c.free_slot.ensures.groups ∙ (c.lose.ensures.groups ∙ ap (λ n. take n (kept values c.args.self.now)) fewer))
