-- The tables of the places of parameters in packets, fixed and variable: their columns, rows and keys. [SCOS-2000 Database Import ICD;
-- the columns that are read, their ranges and defaults are this profile's.]
use Rattle.std.specs.Prelude.{List, [], ◌∷◌, codes, pos}
use Rattle.mib_model.specs.declared.rows.PlfRow.{PlfRow}
use Rattle.mib_model.specs.declared.rows.VpdRow.{VpdRow}
use Rattle.mib_model.specs.Columns.{Column, Must, Filled, Cells, chosen}
use Rattle.mib_model.specs.Forms.{Named, Natural, Integer, Letter, row_id}
use Rattle.mib_model.specs.declared.limits.TheConstants.{WORD_MOST, TPSD_MOST, OCTET_LAST, BIT_LAST, OFFSET_LEAST, OFFSET_MOST}
use Rattle.mib_model.specs.Letters.{letter}

-- places of parameters in packets of fixed layout
abbrev pub plf : List Column
plf =
    Must 1 Named ∷  -- NAME
    Must 2 row_id ∷  -- SPID
    Must 3 (Natural 0 OCTET_LAST) ∷  -- OFFBY
    Must 4 (Natural 0 BIT_LAST) ∷  -- OFFBI
    Filled 5 (Natural 1 WORD_MOST) 1 ∷  -- NBOCC
    Filled 6 (Natural 0 WORD_MOST) 0 ∷  -- LGOCC
    []

-- the row of plf that cells of its columns are
abbrev pub plf_row : Cells plf → PlfRow
plf_row (name, (spid, (offby, (offbi, (nbocc, (lgocc, end)))))) =
    record { name = name; spid = spid; offby = offby; offbi = offbi; nbocc = nbocc; lgocc = lgocc }

-- the cells of a row of plf, column by column
abbrev pub plf_cells : PlfRow → Cells plf
plf_cells r = (r.name, (r.spid, (r.offby, (r.offbi, (r.nbocc, (r.lgocc, tt))))))

-- the columns of the key of plf
abbrev pub plf_key : List Column
plf_key = chosen (1 ∷ 2 ∷ []) plf

-- structures of packets of variable layout
abbrev pub vpd : List Column
vpd =
    Must 1 (Natural 1 TPSD_MOST) ∷  -- TPSD
    Must 2 (Natural 0 WORD_MOST) ∷  -- POS
    Must 3 Named ∷  -- NAME
    Filled 4 (Natural 0 WORD_MOST) 0 ∷  -- GRPSIZE
    Filled 5 (Natural 0 WORD_MOST) 0 ∷  -- FIXREP
    Filled 6 (Letter (codes "YN")) (letter "N") ∷  -- CHOICE
    Filled 7 (Letter (codes "YN")) (letter "N") ∷  -- PIDREF
    Filled 14 (Integer OFFSET_LEAST OFFSET_MOST) (pos 0) ∷  -- OFFSET
    []

-- the row of vpd that cells of its columns are
abbrev pub vpd_row : Cells vpd → VpdRow
vpd_row (tpsd, (place, (name, (grpsize, (fixrep, (choice, (pidref, (offset, end)))))))) =
    record { tpsd = tpsd; pos = place; name = name; grpsize = grpsize; fixrep = fixrep; choice = choice; pidref = pidref; offset = offset }

-- the cells of a row of vpd, column by column
abbrev pub vpd_cells : VpdRow → Cells vpd
vpd_cells r = (r.tpsd, (r.pos, (r.name, (r.grpsize, (r.fixrep, (r.choice, (r.pidref, (r.offset, tt))))))))

-- the columns of the key of vpd
abbrev pub vpd_key : List Column
vpd_key = chosen (1 ∷ 2 ∷ []) vpd
