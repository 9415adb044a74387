use denote.Param.{param}
use denote.Param.Send.{IsSend, IsSync, sendable}
use Rattle.atomic_table.proofs.shared.Seat.TheSendSync as seat
use Rattle.std.proofs.Crossing.{crosses}
use Rattle.desk_lines.proofs.reader.DeskReader.TheSendSync as reader
use Rattle.edition_register.proofs.editions.Editions.TheSendSync as editions
use Rattle.edition_register.proofs.register.Over.TheSendSync as over
use Rattle.live_session.proofs.Crossing.{room_send, desk_send}
use Rattle.live_session.proofs.SharedEdition.{compiled-send, compiled-sync, edition-send, edition-sync}
use Rattle.live_session.proofs.live.run_both.Given.{Over}
use Rattle.live_session.proofs.live.run_both.Goals as goal
use Rattle.live_session.proofs.live.run_both.Lts.{arg-0-1}
use Rattle.live_session.specs.contracts.live.run_both.{D-row, P-row, R-row}
use Rattle.turn_cell.proofs.slot.Slot.TheSendSync as slot
use Rattle.turn_cell.proofs.turn.Lock.TheSendSync as lock

-- what the desk's closure captures may go to another thread
captured-send : (g : Over) (κs : _) → IsSend (D-row g.row.R g.row.F g.row.D g.row.O g.row.P g.row.G g.row.W) → IsSend (P-row g.row.R g.row.F g.row.D g.row.O g.row.P g.row.G g.row.W) → IsSync (R-row g.row.R g.row.F g.row.D g.row.O g.row.P g.row.G g.row.W)
    → IsSend (param 1 (arg-0-1 g.row.R g.row.F g.row.D g.row.O g.row.P g.row.G g.row.W g.R.laws g.F.laws g.D.laws g.O.laws g.P.laws g.G.laws g.W.laws g.R.Threads-dict g.R.Wait-dict g.F.Source-dict g.D.Source-dict g.O.Sink-dict g.P.Sink-dict g.G.Gate-dict g.W.Watch-dict κs))
captured-send g κs d p r = search (desk_send, over.the_sync, lock.the_sync, seat.the_send, slot.the_send, editions.the_send, reader.the_send, room_send, compiled-send, compiled-sync, edition-send, edition-sync, crosses, sendable) depth 60 fits 20000

pub join_mut-end-requires-send-F : goal.join_mut-end-requires-send-F
join_mut-end-requires-send-F g c κs within = captured-send g κs c.type_bounds.send-D c.type_bounds.send-P c.type_bounds.sync-R
