use Rattle.std.proofs.Common.{◌≡◌, ◌≤◌, ◌+◌, ◌*◌, ◌-◌, ◌^◌, length, nat_abs}
use Rattle.std.specs.List.{All}
use Rattle.mib_model.specs.Fixed.{most_values}
use Rattle.mib_model.specs.Walk.{walk_limit, walk_start, walked}
use Rattle.row_interpreter.specs.Readings.{IsOf}
use Rattle.row_walk.proofs.walk.structure_values.Given as goal

abbrev pub invariant-loop : goal.invariant-loop
invariant-loop l = record {
  steps : walked l.rows l.packet (l.end - l.counter) l.walk ≡ walked l.rows l.packet (walk_limit l.rows) (walk_start l.rows l.tpsd l.dfhsize);
  end : l.end ≡ walk_limit l.rows;
  reach : nat_abs l.walk.cursor ≤ 2 ^ 34 + l.counter * 2 ^ 33;
  few : length l.walk.values ≤ most_values;
  all : All (IsOf l.packet) l.walk.values;
}
