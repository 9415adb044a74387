use denote.Param.{param}
use denote.Param.Send.{IsSend, IsSync, sendable}
use Rattle.atomic_table.proofs.shared.Seat.TheSendSync as seat
use Rattle.std.proofs.Crossing.{crosses}
use Rattle.edition_register.proofs.editions.Editions.TheSendSync as editions
use Rattle.edition_register.proofs.register.Over.TheSendSync as over
use Rattle.live_session.proofs.Crossing.{room_send}
use Rattle.live_session.proofs.SharedEdition.{edition-send, edition-sync}
use Rattle.panel_session.proofs.Crossing.{side_send}
use Rattle.panel_session.proofs.work.run_desks.Given.{Over}
use Rattle.panel_session.proofs.work.run_desks.Goals as goal
use Rattle.panel_session.proofs.work.run_desks.Lts.{arg-1-1}
use Rattle.panel_session.specs.contracts.work.run_desks.{R-row, S-row}
use Rattle.turn_cell.proofs.slot.Slot.TheSendSync as slot
use Rattle.turn_cell.proofs.turn.Lock.TheSendSync as lock

-- what the desks' closure captures may go to another thread
captured-send : (g : Over) (κs : _) → IsSend (S-row g.row.R g.row.F g.row.S g.row.O g.row.G g.row.W) → IsSync (R-row g.row.R g.row.F g.row.S g.row.O g.row.G g.row.W)
    → IsSend (param 1 (arg-1-1 g.row.R g.row.F g.row.S g.row.O g.row.G g.row.W g.R.laws g.F.laws g.S.laws g.O.laws g.G.laws g.W.laws g.R.Threads-dict g.R.Wait-dict g.F.Source-dict g.S.Post-dict g.O.Sink-dict g.G.Gate-dict g.W.Watch-dict κs))
captured-send g κs s r = search (side_send, over.the_sync, lock.the_sync, seat.the_send, slot.the_send, editions.the_send, room_send, edition-send, edition-sync, crosses, sendable) depth 60 fits 20000

pub join_mut-ended-requires-send-F : goal.join_mut-ended-requires-send-F
join_mut-ended-requires-send-F g c κs within = captured-send g κs c.type_bounds.send-S c.type_bounds.sync-R
