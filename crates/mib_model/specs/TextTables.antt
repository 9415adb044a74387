-- The tables of selections of a curve and of curves by status texts: their columns, rows and keys. [SCOS-2000 Database Import ICD;
-- the columns that are read, their ranges and defaults are this profile's.]
use Rattle.std.specs.Prelude.{List, [], ◌∷◌, codes}
use Rattle.mib_model.specs.declared.rows.CurRow.{CurRow}
use Rattle.mib_model.specs.declared.rows.TxfRow.{TxfRow}
use Rattle.mib_model.specs.declared.rows.TxpRow.{TxpRow}
use Rattle.mib_model.specs.Columns.{Column, Must, Filled, Cells, chosen}
use Rattle.mib_model.specs.Forms.{Named, Natural, Letter, AnyText, whole_range}
use Rattle.mib_model.specs.declared.limits.TheConstants.{WORD_MOST}
use Rattle.mib_model.specs.Letters.{letter}

-- selections of a curve by a condition
abbrev pub cur : List Column
cur =
    Must 1 Named ∷  -- PNAME
    Must 2 (Natural 0 WORD_MOST) ∷  -- POS
    Must 3 Named ∷  -- RLCHK
    Must 4 whole_range ∷  -- VALPAR
    Must 5 Named ∷  -- SELECT
    []

-- the row of cur that cells of its columns are
abbrev pub cur_row : Cells cur → CurRow
cur_row (pname, (place, (rlchk, (valpar, (curve, end))))) =
    record { pname = pname; pos = place; rlchk = rlchk; valpar = valpar; curve = curve }

-- the cells of a row of cur, column by column
abbrev pub cur_cells : CurRow → Cells cur
cur_cells r = (r.pname, (r.pos, (r.rlchk, (r.valpar, (r.curve, tt)))))

-- the columns of the key of cur
abbrev pub cur_key : List Column
cur_key = chosen (1 ∷ 2 ∷ []) cur

-- curves by status texts
abbrev pub txf : List Column
txf =
    Must 1 Named ∷  -- NUMBR
    Filled 3 (Letter (codes "IUR")) (letter "U") ∷  -- RAWFMT
    []

-- the row of txf that cells of its columns are
abbrev pub txf_row : Cells txf → TxfRow
txf_row (numbr, (rawfmt, end)) =
    record { numbr = numbr; rawfmt = rawfmt }

-- the cells of a row of txf, column by column
abbrev pub txf_cells : TxfRow → Cells txf
txf_cells r = (r.numbr, (r.rawfmt, tt))

-- the columns of the key of txf
abbrev pub txf_key : List Column
txf_key = chosen (1 ∷ []) txf

-- status texts of a curve
abbrev pub txp : List Column
txp =
    Must 1 Named ∷  -- NUMBR
    Must 2 AnyText ∷  -- FROM
    Must 3 AnyText ∷  -- TO
    Must 4 AnyText ∷  -- ALTXT
    []

-- the row of txp that cells of its columns are
abbrev pub txp_row : Cells txp → TxpRow
txp_row (numbr, (low, (high, (altxt, end)))) =
    record { numbr = numbr; low = low; high = high; altxt = altxt }

-- the cells of a row of txp, column by column
abbrev pub txp_cells : TxpRow → Cells txp
txp_cells r = (r.numbr, (r.low, (r.high, (r.altxt, tt))))

-- the columns of the key of txp
abbrev pub txp_key : List Column
txp_key = chosen (1 ∷ 2 ∷ []) txp
