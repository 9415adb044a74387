use Rattle.std.proofs.Common.{◌≡◌, map, vec_capacity}
use Rattle.panel_session.proofs.side.take_seats.Given as goal

abbrev pub invariant-loop-side : goal.invariant-loop-side
invariant-loop-side l = record {
  seats : l.seats.items ≡ map (λ side. side.seat) l.yielded;
  room : vec_capacity l.seats ≡ vec_capacity l.initial.seats;
}
