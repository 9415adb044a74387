use contract.Lifetimes.{Lfts}
use denote.Param.{param}
use denote.Param.Send.{IsSend, IsSync, sendable}
use Rattle.atomic_table.proofs.shared.Seat.TheSendSync as seat
use Rattle.std.proofs.Crossing.{crosses}
use Rattle.edition_register.proofs.editions.Editions.TheSendSync as editions
use Rattle.edition_register.proofs.register.Over.TheSendSync as over
use Rattle.live_session.proofs.Crossing.{room_send}
use Rattle.live_session.proofs.SharedEdition.{edition-send, edition-sync}
use Rattle.panel_session.proofs.Crossing.{side_send}
use Rattle.panel_session.proofs.work.+all_go_on+fn-all_go_on-join_mut+arg3.Given.{Over}
use Rattle.panel_session.proofs.work.+all_go_on+fn-all_go_on-join_mut+arg3.Goals as goal
use Rattle.panel_session.proofs.work.+all_go_on+fn-all_go_on-join_mut+arg3.Lts-all_go_on.{arg-3-1}
use Rattle.panel_session.specs.contracts.work.all_go_on.{R-row, S-row}
use Rattle.turn_cell.proofs.slot.Slot.TheSendSync as slot
use Rattle.turn_cell.proofs.turn.Lock.TheSendSync as lock

-- what the first closure captures may go to another thread
captured-send : (g : Over) (κs : Lfts 20) → IsSend (S-row g.row.R g.row.S) → IsSync (R-row g.row.R g.row.S) → IsSend (param 1 (arg-3-1 g.row.R g.row.S g.R.laws g.S.laws g.R.Threads-dict g.R.Wait-dict g.S.Post-dict κs))
captured-send g κs s r = search (side_send, over.the_sync, lock.the_sync, seat.the_send, slot.the_send, editions.the_send, room_send, edition-send, edition-sync, crosses, sendable) depth 60 fits 20000

pub join_mut-requires-send-F : goal.join_mut-requires-send-F
join_mut-requires-send-F g t c κs within = captured-send g κs c.requires.crosses.0 c.requires.crosses.1
