-- What a desk of a panel owns may go to another thread.
use denote.Param.Send.{IsSend, sendable}
use Rattle.atomic_table.proofs.shared.Seat.TheSendSync as seat
use Rattle.std.proofs.Crossing.{crosses}
use Rattle.edition_register.proofs.editions.Editions.TheSendSync as editions
use Rattle.live_session.proofs.Crossing.{room_send}
use Rattle.live_session.proofs.SharedEdition.{book-send, edition-send, edition-sync}
use Rattle.panel_session.specs.contracts.side.DeskSide as DeskSide
use Rattle.turn_cell.proofs.slot.Slot.TheSendSync as slot

pub side_send : IsSend DeskSide.the_row
side_send = search (seat.the_send, slot.the_send, editions.the_send, room_send, book-send, edition-send, edition-sync, crosses, sendable) depth 60 fits 20000
