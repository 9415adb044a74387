-- The tables of parameters and their checks: their columns, rows and keys. [SCOS-2000 Database Import ICD;
-- the columns that are read, their ranges and defaults are this profile's.]
use Rattle.std.specs.Prelude.{List, [], ◌∷◌, codes, pos, Bool, true}
use Rattle.mib_model.specs.declared.rows.PcfRow.{PcfRow}
use Rattle.mib_model.specs.declared.rows.OcfRow.{OcfRow}
use Rattle.mib_model.specs.declared.rows.OcpRow.{OcpRow}
use Rattle.mib_model.specs.Columns.{Column, Must, Optional, Filled, Cells, chosen}
use Rattle.mib_model.specs.Forms.{Named, Natural, Letter, Capital, Bounding, whole_range, no_bound}
use Rattle.mib_model.specs.declared.limits.TheConstants.{OCTET_MOST, WORD_MOST, ID_MOST, WIDTH_MOST}
use Rattle.mib_model.specs.Letters.{letter}

-- parameters
abbrev pub pcf : List Column
pcf =
    Must 1 Named ∷  -- NAME
    Optional 3 (Natural 0 ID_MOST) ∷  -- PID
    Filled 5 (Natural 0 OCTET_MOST) 0 ∷  -- PTC
    Filled 6 (Natural 0 WORD_MOST) 0 ∷  -- PFC
    Filled 7 (Natural 0 WIDTH_MOST) 0 ∷  -- WIDTH
    Optional 8 Named ∷  -- VALID
    Filled 10 (Letter (codes "NST")) (letter "N") ∷  -- CATEG
    Filled 11 Capital (letter "R") ∷  -- NATUR
    Optional 12 Named ∷  -- CURTX
    Filled 15 (Natural 0 OCTET_MOST) 0 ∷  -- DECIM
    Filled 18 whole_range (pos 1) ∷  -- VALPAR
    Filled 23 (Letter (codes "BL")) (letter "B") ∷  -- ENDIAN
    []

-- the row of pcf that cells of its columns are
abbrev pub pcf_row : Cells pcf → PcfRow
pcf_row (name, (pid, (ptc, (pfc, (width, (valid, (categ, (natur, (curtx, (decim, (valpar, (endian, end)))))))))))) =
    record { name = name; pid = pid; ptc = ptc; pfc = pfc; width = width; valid = valid; categ = categ; natur = natur; curtx = curtx; decim = decim; valpar = valpar; endian = endian }

-- the cells of a row of pcf, column by column
abbrev pub pcf_cells : PcfRow → Cells pcf
pcf_cells r = (r.name, (r.pid, (r.ptc, (r.pfc, (r.width, (r.valid, (r.categ, (r.natur, (r.curtx, (r.decim, (r.valpar, (r.endian, tt))))))))))))

-- the columns of the key of pcf
abbrev pub pcf_key : List Column
pcf_key = chosen (1 ∷ []) pcf

-- checks of a parameter
abbrev pub ocf : List Column
ocf =
    Must 1 Named ∷  -- NAME
    Must 2 (Natural 1 OCTET_MOST) ∷  -- NBCHCK
    Must 4 (Letter (codes "UC")) ∷  -- INTER
    Filled 5 (Letter (codes "RAI")) (letter "R") ∷  -- CODIN
    []

-- the row of ocf that cells of its columns are
abbrev pub ocf_row : Cells ocf → OcfRow
ocf_row (name, (nbchck, (inter, (codin, end)))) =
    record { name = name; nbchck = nbchck; inter = inter; codin = codin }

-- the cells of a row of ocf, column by column
abbrev pub ocf_cells : OcfRow → Cells ocf
ocf_cells r = (r.name, (r.nbchck, (r.inter, (r.codin, tt))))

-- the columns of the key of ocf
abbrev pub ocf_key : List Column
ocf_key = chosen (1 ∷ []) ocf

-- limits of a check, by whether they are states
abbrev pub ocp : Bool → List Column
ocp states =
    Must 1 Named ∷  -- NAME
    Must 2 (Natural 0 WORD_MOST) ∷  -- POS
    Must 3 (Letter (codes "SHDCE")) ∷  -- TYPE
    Filled 4 (Bounding states) (no_bound states) ∷  -- LVALU
    Filled 5 (Bounding states) (no_bound states) ∷  -- HVALU
    Optional 6 Named ∷  -- RLCHK
    Filled 7 whole_range (pos 1) ∷  -- VALPAR
    []

-- the row of ocp that cells of its columns are
abbrev pub ocp_row : (states : Bool) → Cells (ocp states) → OcpRow
ocp_row states (name, (place, (sort, (lvalu, (hvalu, (rlchk, (valpar, end))))))) =
    record { name = name; pos = place; sort = sort; lvalu = lvalu; hvalu = hvalu; rlchk = rlchk; valpar = valpar }

-- the cells of a row of ocp, column by column
abbrev pub ocp_cells : (states : Bool) → OcpRow → Cells (ocp states)
ocp_cells states r = (r.name, (r.pos, (r.sort, (r.lvalu, (r.hvalu, (r.rlchk, (r.valpar, tt)))))))

-- the columns of the key of ocp, which are the same whether the bounds are states or not
abbrev pub ocp_key : List Column
ocp_key = chosen (1 ∷ 2 ∷ []) (ocp true)
