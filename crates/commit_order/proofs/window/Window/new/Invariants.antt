use Rattle.std.proofs.Common.{◌≡◌, ◌≤◌}
use Rattle.std.specs.VecDeque.{deque_len, deque_capacity}
use Rattle.commit_order.proofs.PlaceFacts.{AllNone}
use Rattle.commit_order.proofs.window.Window.new.Given as goal

abbrev pub invariant-loop : goal.invariant-loop
invariant-loop g l = record {
  length : deque_len l.places ≡ l.counter;
  none : AllNone l.places.items;
  reserved : deque_len l.places ≤ deque_capacity l.places;
}
