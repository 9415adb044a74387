-- The tables of packets, of what tells them apart and of their names: their columns, rows and keys. [SCOS-2000 Database Import ICD;
-- the columns that are read, their ranges and defaults are this profile's.]
use Rattle.std.specs.Prelude.{List, [], ◌∷◌, pos, negsuc}
use Rattle.mib_model.specs.declared.rows.PidRow.{PidRow}
use Rattle.mib_model.specs.declared.rows.PicRow.{PicRow}
use Rattle.mib_model.specs.declared.rows.TpcfRow.{TpcfRow}
use Rattle.mib_model.specs.Columns.{Column, Must, Optional, Filled, Cells, chosen}
use Rattle.mib_model.specs.Forms.{Natural, Integer, AnyText, row_id}
use Rattle.mib_model.specs.declared.limits.TheConstants.{OCTET_MOST, WORD_MOST, TPSD_MOST, DISCRIMINANT_BITS, DISCRIMINANT_MOST, OCTET_LAST}

-- packets
abbrev pub pid : List Column
pid =
    Must 1 (Natural 0 OCTET_MOST) ∷  -- TYPE
    Must 2 (Natural 0 OCTET_MOST) ∷  -- STYPE
    Must 3 (Natural 0 WORD_MOST) ∷  -- APID
    Filled 4 (Natural 0 DISCRIMINANT_MOST) 0 ∷  -- PI1_VAL
    Filled 5 (Natural 0 DISCRIMINANT_MOST) 0 ∷  -- PI2_VAL
    Must 6 row_id ∷  -- SPID
    Filled 9 (Integer (negsuc 0) (pos TPSD_MOST)) (negsuc 0) ∷  -- TPSD
    Filled 10 (Natural 0 OCTET_MOST) 0 ∷  -- DFHSIZE
    []

-- the row of pid that cells of its columns are
abbrev pub pid_row : Cells pid → PidRow
pid_row (service, (subtype, (apid, (pi1_val, (pi2_val, (spid, (tpsd, (dfhsize, end)))))))) =
    record { service = service; subtype = subtype; apid = apid; pi1_val = pi1_val; pi2_val = pi2_val; spid = spid; tpsd = tpsd; dfhsize = dfhsize }

-- the cells of a row of pid, column by column
abbrev pub pid_cells : PidRow → Cells pid
pid_cells r = (r.service, (r.subtype, (r.apid, (r.pi1_val, (r.pi2_val, (r.spid, (r.tpsd, (r.dfhsize, tt))))))))

-- the columns of the key of pid
abbrev pub pid_key : List Column
pid_key = chosen (6 ∷ []) pid

-- criteria by which packets are told apart
abbrev pub pic : List Column
pic =
    Must 1 (Natural 0 OCTET_MOST) ∷  -- TYPE
    Must 2 (Natural 0 OCTET_MOST) ∷  -- STYPE
    Filled 3 (Integer (negsuc 0) (pos OCTET_LAST)) (negsuc 0) ∷  -- PI1_OFF
    Filled 4 (Natural 0 DISCRIMINANT_BITS) 0 ∷  -- PI1_WID
    Filled 5 (Integer (negsuc 0) (pos OCTET_LAST)) (negsuc 0) ∷  -- PI2_OFF
    Filled 6 (Natural 0 DISCRIMINANT_BITS) 0 ∷  -- PI2_WID
    Optional 7 (Natural 0 WORD_MOST) ∷  -- APID
    []

-- the row of pic that cells of its columns are
abbrev pub pic_row : Cells pic → PicRow
pic_row (service, (subtype, (pi1_off, (pi1_wid, (pi2_off, (pi2_wid, (apid, end))))))) =
    record { service = service; subtype = subtype; pi1_off = pi1_off; pi1_wid = pi1_wid; pi2_off = pi2_off; pi2_wid = pi2_wid; apid = apid }

-- the cells of a row of pic, column by column
abbrev pub pic_cells : PicRow → Cells pic
pic_cells r = (r.service, (r.subtype, (r.pi1_off, (r.pi1_wid, (r.pi2_off, (r.pi2_wid, (r.apid, tt)))))))

-- the columns of the key of pic
abbrev pub pic_key : List Column
pic_key = chosen (1 ∷ 2 ∷ 7 ∷ []) pic

-- names of packets
abbrev pub tpcf : List Column
tpcf =
    Must 1 row_id ∷  -- SPID
    Optional 2 AnyText ∷  -- NAME
    []

-- the row of tpcf that cells of its columns are
abbrev pub tpcf_row : Cells tpcf → TpcfRow
tpcf_row (spid, (name, end)) =
    record { spid = spid; name = name }

-- the cells of a row of tpcf, column by column
abbrev pub tpcf_cells : TpcfRow → Cells tpcf
tpcf_cells r = (r.spid, (r.name, tt))

-- the columns of the key of tpcf
abbrev pub tpcf_key : List Column
tpcf_key = chosen (1 ∷ []) tpcf
