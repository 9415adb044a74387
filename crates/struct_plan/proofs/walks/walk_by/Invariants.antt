use Rattle.std.proofs.Common.{◌≡◌, ◌+◌, ◌-◌, ◌*◌, ◌≤◌, ℕ, pos, [], length}
use Rattle.mib_model.specs.Fixed.{most_values}
use Rattle.mib_model.specs.Structures.{structure}
use Rattle.mib_model.specs.Walk.{chosen, walk_start}
use Rattle.bit_field.specs.Taken.{taken}
use Rattle.struct_plan.specs.Courses.{Gives, IsInReach, Leads, walking}
use Rattle.struct_plan.specs.Sources.{Walked}
use Rattle.struct_plan.proofs.walks.walk_by.Given as goal

abbrev pub invariant-loop-structure : goal.invariant-loop-structure
invariant-loop-structure g l = record {
  leads : (dfhsize : ℕ) (end : Walked) → l.fn.start ≡ 8 * (6 + dfhsize) →
      Gives (g.S.Structures.tables l.all) (g.N.Numbers.source l.numbers) end (walk_start (g.S.Structures.tables l.all) (pos l.fn.tpsd) dfhsize) →
      Leads (g.S.Structures.tables l.all) (g.N.Numbers.source l.numbers) end
      (chosen (walking [] l.course (taken l.values)) l.next (structure (g.S.Structures.tables l.all) l.next));
  reach : IsInReach l.course.cursor 0;
  used : l.values.used ≤ most_values;
  slots : length l.values.slots.now ≡ most_values;
  borrow : l.values.slots.ghost_name ≡ l.initial.values.slots.ghost_name;
}

-- each choice gives a value
abbrev pub decreases-loop-structure : goal.decreases-loop-structure
decreases-loop-structure g l = most_values - l.values.used
