-- An edition may be read by several threads, and may go to another; its plans alone may be read by several.
use denote.Param.Send.{IsSend, IsSync, sendable}
use denote.RattleType.{RattleType}
use Rattle.std.proofs.Crossing.{crosses}
use Rattle.std.proofs.MapsCrossing.{crosses as map_crosses}
use Rattle.decode_session.proofs.SharedPlans.{ident-send, ident-sync, params-send, params-sync}
use Rattle.edition.specs.contracts.compiled.Compiled as Compiled
use Rattle.edition.specs.contracts.edition.Edition as Edition
use Rattle.edition_diff.specs.contracts.keyed.KeyedPlans as KeyedPlans
use Rattle.edition_diff.specs.contracts.plan_sets.PlanSets as PlanSets
use Rattle.layout_plan.specs.contracts.layout.Layout as Layout
use Rattle.numbered_plans.specs.contracts.deduced.Deduced as Deduced
use Rattle.numbered_plans.specs.contracts.plan_set.PlanSet as PlanSet
use Rattle.numbered_plans.specs.declared.numbered.NumberedPlan as NumberedPlan
use Rattle.mib_model.specs.contracts.rows.CafRow as CafRow
use Rattle.mib_model.specs.contracts.rows.CapRow as CapRow
use Rattle.mib_model.specs.contracts.rows.CurRow as CurRow
use Rattle.mib_model.specs.contracts.rows.LgfRow as LgfRow
use Rattle.mib_model.specs.contracts.rows.McfRow as McfRow
use Rattle.mib_model.specs.contracts.rows.OcfRow as OcfRow
use Rattle.mib_model.specs.contracts.rows.OcpRow as OcpRow
use Rattle.mib_model.specs.contracts.rows.PcfRow as PcfRow
use Rattle.mib_model.specs.contracts.rows.PicRow as PicRow
use Rattle.mib_model.specs.contracts.rows.PidRow as PidRow
use Rattle.mib_model.specs.contracts.rows.PlfRow as PlfRow
use Rattle.mib_model.specs.contracts.rows.TpcfRow as TpcfRow
use Rattle.mib_model.specs.contracts.rows.TxfRow as TxfRow
use Rattle.mib_model.specs.contracts.rows.TxpRow as TxpRow
use Rattle.mib_model.specs.contracts.rows.VpdRow as VpdRow
use Rattle.mib_model.specs.declared.table_row.TableRow as TableRow
use Rattle.mib_tables.specs.contracts.book.Book as Book
use Rattle.mib_tables.specs.contracts.table.Table as Table
use Rattle.struct_plan.specs.contracts.structure.Structure as Structure

-- values of a type may be read by several threads, and may go to another
record Crosses (T : RattleType) : Type 0 where
  read : IsSync T
  moved : IsSend T

shared-rows-sync : (T : RattleType) (g : TableRow.Ghosts T.Denot) → IsSync T → IsSend T → IsSync (Table.the_row T g)
shared-rows-sync T g y d = search (crosses, sendable) depth 40

shared-rows-send : (T : RattleType) (g : TableRow.Ghosts T.Denot) → IsSync T → IsSend T → IsSend (Table.the_row T g)
shared-rows-send T g y d = search (crosses, sendable) depth 40

-- tables share their rows, so those must cross in both ways
table-sync : (T : RattleType) (g : TableRow.Ghosts T.Denot) → Crosses T → IsSync (Table.the_row T g)
table-sync T g c = shared-rows-sync T g c.read c.moved

table-send : (T : RattleType) (g : TableRow.Ghosts T.Denot) → Crosses T → IsSend (Table.the_row T g)
table-send T g c = shared-rows-send T g c.read c.moved

pcf-crosses : Crosses PcfRow.the_row
pcf-crosses = record { read = search (crosses, sendable) depth 60 fits 20000; moved = search (crosses, sendable) depth 60 fits 20000 }

pid-crosses : Crosses PidRow.the_row
pid-crosses = record { read = search (crosses, sendable) depth 60 fits 20000; moved = search (crosses, sendable) depth 60 fits 20000 }

pic-crosses : Crosses PicRow.the_row
pic-crosses = record { read = search (crosses, sendable) depth 60 fits 20000; moved = search (crosses, sendable) depth 60 fits 20000 }

tpcf-crosses : Crosses TpcfRow.the_row
tpcf-crosses = record { read = search (crosses, sendable) depth 60 fits 20000; moved = search (crosses, sendable) depth 60 fits 20000 }

plf-crosses : Crosses PlfRow.the_row
plf-crosses = record { read = search (crosses, sendable) depth 60 fits 20000; moved = search (crosses, sendable) depth 60 fits 20000 }

vpd-crosses : Crosses VpdRow.the_row
vpd-crosses = record { read = search (crosses, sendable) depth 60 fits 20000; moved = search (crosses, sendable) depth 60 fits 20000 }

ocf-crosses : Crosses OcfRow.the_row
ocf-crosses = record { read = search (crosses, sendable) depth 60 fits 20000; moved = search (crosses, sendable) depth 60 fits 20000 }

ocp-crosses : Crosses OcpRow.the_row
ocp-crosses = record { read = search (crosses, sendable) depth 60 fits 20000; moved = search (crosses, sendable) depth 60 fits 20000 }

cur-crosses : Crosses CurRow.the_row
cur-crosses = record { read = search (crosses, sendable) depth 60 fits 20000; moved = search (crosses, sendable) depth 60 fits 20000 }

caf-crosses : Crosses CafRow.the_row
caf-crosses = record { read = search (crosses, sendable) depth 60 fits 20000; moved = search (crosses, sendable) depth 60 fits 20000 }

cap-crosses : Crosses CapRow.the_row
cap-crosses = record { read = search (crosses, sendable) depth 60 fits 20000; moved = search (crosses, sendable) depth 60 fits 20000 }

txf-crosses : Crosses TxfRow.the_row
txf-crosses = record { read = search (crosses, sendable) depth 60 fits 20000; moved = search (crosses, sendable) depth 60 fits 20000 }

txp-crosses : Crosses TxpRow.the_row
txp-crosses = record { read = search (crosses, sendable) depth 60 fits 20000; moved = search (crosses, sendable) depth 60 fits 20000 }

mcf-crosses : Crosses McfRow.the_row
mcf-crosses = record { read = search (crosses, sendable) depth 60 fits 20000; moved = search (crosses, sendable) depth 60 fits 20000 }

lgf-crosses : Crosses LgfRow.the_row
lgf-crosses = record { read = search (crosses, sendable) depth 60 fits 20000; moved = search (crosses, sendable) depth 60 fits 20000 }

book-sync : IsSync Book.the_row
book-sync = search (table-sync, pcf-crosses, pid-crosses, pic-crosses, tpcf-crosses, plf-crosses, vpd-crosses, ocf-crosses, ocp-crosses, cur-crosses, caf-crosses, cap-crosses, txf-crosses, txp-crosses, mcf-crosses, lgf-crosses, crosses, sendable) depth 60 fits 20000

pub book-send : IsSend Book.the_row
book-send = search (table-send, pcf-crosses, pid-crosses, pic-crosses, tpcf-crosses, plf-crosses, vpd-crosses, ocf-crosses, ocp-crosses, cur-crosses, caf-crosses, cap-crosses, txf-crosses, txp-crosses, mcf-crosses, lgf-crosses, crosses, sendable) depth 60 fits 20000

layout-crosses : Crosses Layout.the_row
layout-crosses = record { read = search (crosses, sendable) depth 60 fits 20000; moved = search (crosses, sendable) depth 60 fits 20000 }

structure-crosses : Crosses Structure.the_row
structure-crosses = record { read = search (crosses, sendable) depth 60 fits 20000; moved = search (crosses, sendable) depth 60 fits 20000 }

shared-plans-sync : (T : RattleType) (g : NumberedPlan.Ghosts T.Denot) → IsSync T → IsSend T → IsSync (PlanSet.the_row T g)
shared-plans-sync T g y d = search (map_crosses, crosses, sendable) depth 60 fits 20000

shared-plans-send : (T : RattleType) (g : NumberedPlan.Ghosts T.Denot) → IsSync T → IsSend T → IsSend (PlanSet.the_row T g)
shared-plans-send T g y d = search (map_crosses, crosses, sendable) depth 60 fits 20000

-- sets share their plans, so those must cross in both ways
set-sync : (T : RattleType) (g : NumberedPlan.Ghosts T.Denot) → Crosses T → IsSync (PlanSet.the_row T g)
set-sync T g c = shared-plans-sync T g c.read c.moved

set-send : (T : RattleType) (g : NumberedPlan.Ghosts T.Denot) → Crosses T → IsSend (PlanSet.the_row T g)
set-send T g c = shared-plans-send T g c.read c.moved

deduced-sync : IsSync Deduced.the_row
deduced-sync = search (map_crosses, crosses, sendable) depth 60 fits 20000

deduced-send : IsSend Deduced.the_row
deduced-send = search (map_crosses, crosses, sendable) depth 60 fits 20000

keyed-sync : IsSync KeyedPlans.the_row
keyed-sync = search (params-sync, set-sync, layout-crosses, structure-crosses, deduced-sync, deduced-send, crosses, sendable) depth 60 fits 20000

keyed-send : IsSend KeyedPlans.the_row
keyed-send = search (params-send, set-send, layout-crosses, structure-crosses, deduced-sync, deduced-send, crosses, sendable) depth 60 fits 20000

sets-sync : IsSync PlanSets.the_row
sets-sync = search (ident-sync, ident-send, keyed-sync, crosses, sendable) depth 60 fits 20000

sets-send : IsSend PlanSets.the_row
sets-send = search (ident-sync, ident-send, keyed-send, crosses, sendable) depth 60 fits 20000

pub compiled-sync : IsSync Compiled.the_row
compiled-sync = search (sets-sync, map_crosses, crosses, sendable) depth 60 fits 20000

pub compiled-send : IsSend Compiled.the_row
compiled-send = search (sets-send, map_crosses, crosses, sendable) depth 60 fits 20000

pub edition-sync : IsSync Edition.the_row
edition-sync = search (compiled-sync, compiled-send, book-sync, crosses, sendable) depth 60 fits 20000

pub edition-send : IsSend Edition.the_row
edition-send = search (compiled-sync, compiled-send, book-send, crosses, sendable) depth 60 fits 20000
