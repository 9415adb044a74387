use Rattle.std.proofs.Common.{◌≡◌, ◌≤◌, vec_len, vec_capacity}
use Rattle.decode_session.specs.Homes.{AreOutOf}
use Rattle.decode_session.proofs.stock.Home.take_rooms.Given as goal

abbrev pub invariant-loop-out : goal.invariant-loop-out
invariant-loop-out l = record {
  out : AreOutOf l.count l.out l.self;
  count : vec_len l.rooms ≡ l.out;
  room : l.count ≤ vec_capacity l.rooms;
}
