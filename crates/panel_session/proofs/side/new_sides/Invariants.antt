use Rattle.std.proofs.Common.{◌≡◌, map}
use Rattle.std.specs.Arc.{arc_value}
use Rattle.std.specs.List.{AllByRecursion}
use Rattle.panel_session.specs.Opened.{IsNewSide}
use Rattle.panel_session.proofs.side.new_sides.Given as goal

abbrev pub invariant-loop-seat : goal.invariant-loop-seat
invariant-loop-seat l = record {
  seats : map (λ side. side.seat) l.sides.items ≡ l.yielded;
  new : AllByRecursion (IsNewSide (arc_value l.first)) l.sides.items;
}
