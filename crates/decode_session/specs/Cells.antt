-- Packets between their reading and their records. [This project's own.]
use Rattle.std.specs.Prelude.{ℕ, List, take}
use Rattle.decode_session.specs.declared.cell.PacketCell.{PacketCell}
use Rattle.mib_model.specs.declared.database.Database.{Database}
use Rattle.mib_model.specs.Interpreter.{StampedPacket}

-- the packet of a cell
abbrev pub packet_in : PacketCell → List ℕ
packet_in cell = take cell.octets cell.buffers.value.frame

-- the packet of a cell with its number, of an edition with these tables
abbrev pub stamped_cell : ℕ → Database → PacketCell → StampedPacket
stamped_cell edition db cell = record { number = cell.number; packet = packet_in cell; edition = edition; tables = db }
