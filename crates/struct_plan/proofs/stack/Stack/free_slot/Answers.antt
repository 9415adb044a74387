use Rattle.std.proofs.Common.{◌≡◌, ◌∙◌, ◌-◌, ◌/◌, take, drop, ap, arith}
use Rattle.std.specs.List.{cons_option}
use Rattle.mib_model.specs.Fixed.{most_values}
use Rattle.struct_plan.specs.Stacks.{paired}
use Rattle.struct_plan.proofs.StackFacts.{copied-standing}
use Rattle.struct_plan.proofs.stack.Stack.free_slot.Goals as goal

pub returns-clause-groups : goal.returns-clause-groups
returns-clause-groups c =
    let values = c.args.values.now in
    let stack = c.args.self.now in
    let at : values.used ≡ stack.top = omega arith in
    copied-standing most_values values.used ((most_values - values.used) / 2) stack.count values.slots.now c.copy_to_end.new.slots stack.single c.requires.slots (omega arith) c.copy_to_end.ensures (omega arith) ∙
    ap (λ n. take stack.count (cons_option stack.single (paired (drop n values.slots.now)))) at
