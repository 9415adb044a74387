-- Packets whose records are drawn. [This project's own.]
use Rattle.std.specs.Prelude.{◌∷◌, []}
use Rattle.decode_one.specs.Steps.{IsStampedOf}
use Rattle.decode_session.specs.Cells.{packet_in}
use Rattle.decode_session.specs.declared.cell.PacketCell.{PacketCell}
use Rattle.edition_plans.specs.Params.{param_slices}
use Rattle.line_sheets.specs.Drawings.{IsSheetFor}
use Rattle.mib_model.specs.declared.database.Database.{Database}
use Rattle.mib_model.specs.Interpreter.{StampedPacket}
use Rattle.param_state.specs.Demands.{any_name}
use Rattle.param_state.specs.ParamPlans.{plan_names}

-- the sheet of a cell is that of its packet, of any edition with these tables, where every name is asked
abbrev pub IsDrawn : Database → PacketCell → Type 0
IsDrawn db cell = (s : StampedPacket) → IsStampedOf s cell.number (packet_in cell) db
    → IsSheetFor any_name db (plan_names (param_slices db)) (s ∷ []) cell.buffers.value.sheet
