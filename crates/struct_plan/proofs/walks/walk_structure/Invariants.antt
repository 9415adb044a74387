use Rattle.std.proofs.Common.{◌≡◌, ◌+◌, ◌-◌, ◌*◌, ◌≤◌, length}
use Rattle.mib_model.specs.Fixed.{most_values}
use Rattle.struct_plan.specs.Sources.{Walked}
use Rattle.bit_field.specs.Taken.{taken}
use Rattle.struct_plan.specs.Courses.{Gives, IsInReach, walking}
use Rattle.struct_plan.specs.Groups.{still_to_walk}
use Rattle.struct_plan.specs.Places.{groups, IsAmong}
use Rattle.struct_plan.proofs.walks.walk_structure.Given as goal

abbrev pub invariant-loop-place : goal.invariant-loop-place
invariant-loop-place g l = record {
  gives : (end : Walked) → Gives (g.S.Structures.tables l.all) (g.N.Numbers.source l.numbers) end (walking l.structure.vpds l.initial.course (taken l.initial.values)) →
      Gives (g.S.Structures.tables l.all) (g.N.Numbers.source l.numbers) end (walking (still_to_walk l.structure.vpds l.place.at (groups l.values l.place)) l.course (taken l.values));
  among : IsAmong l.structure.vpds l.values l.place;
  reach : IsInReach l.course.cursor l.place.at;
  more : l.initial.values.used ≤ l.values.used;
  used : l.values.used ≤ most_values;
  slots : length l.values.slots.now ≡ most_values;
  borrow : l.values.slots.ghost_name ≡ l.initial.values.slots.ghost_name;
}

-- each row is met once at most before each value and the end
abbrev pub decreases-loop-place : goal.decreases-loop-place
decreases-loop-place g l = (most_values - l.values.used) * length l.structure.vpds + (length l.structure.vpds - l.place.at)
