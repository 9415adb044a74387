use Rattle.std.proofs.Common.{vec_len}
use Rattle.decode_session.specs.Homes.{AreOutOf}
use Rattle.decode_session.proofs.stock.Home.give_rooms.Given as goal

abbrev pub invariant-loop-buffers : goal.invariant-loop-buffers
invariant-loop-buffers l = AreOutOf l.all (vec_len l.rooms) l.self

abbrev pub decreases-loop-buffers : goal.decreases-loop-buffers
decreases-loop-buffers l = goal.left-loop-buffers l
