-- The keys by which rows of pic and pid are looked up. [This profile.]
use Rattle.std.specs.Prelude.{Bool, ◌==◌, ◌&&◌}
use Rattle.mib_model.specs.declared.rows.PicRow.{PicRow}
use Rattle.mib_model.specs.declared.rows.PidRow.{PidRow}
use Rattle.packet_keys.specs.declared.keys.CriterionKey.{CriterionKey}
use Rattle.packet_keys.specs.declared.keys.PacketKey.{PacketKey}

-- the types and the APID of a row of pic
abbrev pub criterion_key : PicRow → CriterionKey
criterion_key row = record { service = row.service; subtype = row.subtype; apid = row.apid }

-- the APID, types and discriminants of a row of pid
abbrev pub packet_key : PidRow → PacketKey
packet_key row = record { apid = row.apid; service = row.service; subtype = row.subtype; pi1_val = row.pi1_val; pi2_val = row.pi2_val }

-- whether two of these have the same APID, types and discriminants
abbrev pub packet_eq : PacketKey → PacketKey → Bool
packet_eq x y =
    (x.apid == y.apid) && ((x.service == y.service) && ((x.subtype == y.subtype) && ((x.pi1_val == y.pi1_val) && (x.pi2_val == y.pi2_val))))
