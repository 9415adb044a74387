-- Rows of pid by a key: its APID and the rest of it.
use Rattle.std.proofs.Common.{◌≡◌, Bool, ◌==◌, ◌&&◌}
use Rattle.mib_model.specs.declared.rows.PidRow.{PidRow}
use Rattle.packet_keys.specs.declared.keys.PacketKey.{PacketKey}
use Rattle.ident_plan.specs.Kins.{is_of}
use Rattle.ident_plan.proofs.KinFacts.{regroup}

-- whether a row has the key beside its APID
abbrev pub rest_of : PacketKey → PidRow → Bool
rest_of key row = (row.service == key.service) && (row.subtype == key.subtype) && (row.pi1_val == key.pi1_val) && (row.pi2_val == key.pi2_val)

-- whether a row has the key
abbrev pub whole_of : PacketKey → PidRow → Bool
whole_of key row = (row.apid == key.apid) && (row.service == key.service) && (row.subtype == key.subtype) && (row.pi1_val == key.pi1_val) && (row.pi2_val == key.pi2_val)

-- a row has the key where it is of its APID and has the rest
pub same : (key : PacketKey) (row : PidRow) → whole_of key row ≡ (is_of key.apid row && rest_of key row)
same key row = regroup (row.apid == key.apid) (row.service == key.service) (row.subtype == key.subtype) (row.pi1_val == key.pi1_val) (row.pi2_val == key.pi2_val)
