-- Groups kept in the slots of values that aren't in use. [This profile.]
use Rattle.std.specs.Prelude.{ℕ, ◌+◌, ◌-◌, ◌*◌, ◌/◌, ◌%◌, ◌^◌, ◌≤◌, nat_abs, List, [], ◌∷◌, take, drop, Option, Some, None}
use Rattle.std.specs.List.{cons_option}
use Rattle.mib_model.specs.declared.packet.Value.{Value}
use Rattle.mib_model.specs.Fixed.{most_values}
use Rattle.bit_field.specs.declared.values.Values.{Values}
use Rattle.struct_plan.specs.declared.group.RowGroup.{RowGroup}
use Rattle.struct_plan.specs.declared.stack.Stack.{Stack}

-- the group of a number: its row, and how often it is still repeated, in 32 bits each
abbrev pub group_of : ℕ → RowGroup
group_of number = record { row = number / 2 ^ 32; left = number % 2 ^ 32 }

-- the inner of the two groups that a slot keeps
abbrev pub inner_in : Value → RowGroup
inner_in slot = group_of (nat_abs slot.raw % 2 ^ 64)

-- the outer of them
abbrev pub outer_in : Value → RowGroup
outer_in slot = group_of slot.at

-- the groups in some slots, two in each
abbrev pub paired : List Value → List RowGroup
paired [] = []
paired (slot ∷ slots) = inner_in slot ∷ outer_in slot ∷ paired slots

-- the groups that stand in a stack, the innermost first: the single one, and those in the slots from the top on
abbrev pub standing : Values → Stack → List RowGroup
standing values stack = cons_option stack.single (paired (drop stack.top values.slots.now))

-- the groups of a stack that are kept in slots
abbrev pub kept : Values → Stack → List RowGroup
kept values stack = take stack.count (standing values stack)

-- how many single groups there are
abbrev pub singles : Option RowGroup → ℕ
singles None = 0
singles (Some group) = 1

-- a stack within the slots that aren't in use, in which as many groups stand as are kept
pub record IsWithin (values : Values) (stack : Stack) : Type 0 where
  pub low : values.used ≤ stack.top
  pub high : stack.top ≤ most_values
  pub count : values.used + stack.count ≤ most_values
  pub whole : stack.count ≤ singles stack.single + 2 * (most_values - stack.top)

-- groups before one was taken off
abbrev pub popped : Option RowGroup → List RowGroup → List RowGroup
popped None groups = groups
popped (Some group) groups = group ∷ groups
