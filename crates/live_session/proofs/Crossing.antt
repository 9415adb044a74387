-- What a desk owns may go to another thread.
use denote.Param.Send.{IsSend, sendable}
use Rattle.std.proofs.Crossing.{crosses}
use Rattle.desk.specs.contracts.desk.Desk as Desk
use Rattle.fold_state.specs.contracts.room.BoardRoom as BoardRoom
use Rattle.live_session.proofs.SharedEdition.{book-send, compiled-send, compiled-sync, edition-send, edition-sync}

pub room_send : IsSend BoardRoom.the_row
room_send = search (crosses, sendable) depth 60 fits 20000

pub desk_send : IsSend Desk.the_row
desk_send = search (book-send, edition-sync, edition-send, compiled-sync, compiled-send, crosses, sendable) depth 60 fits 20000
