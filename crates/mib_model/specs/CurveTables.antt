-- The tables of curves by points, polynomials and logarithms: their columns, rows and keys. [SCOS-2000 Database Import ICD;
-- the columns that are read, their ranges and defaults are this profile's.]
use Rattle.std.specs.Prelude.{List, [], ◌∷◌, codes}
use Rattle.mib_model.specs.declared.rows.CafRow.{CafRow}
use Rattle.mib_model.specs.declared.rows.CapRow.{CapRow}
use Rattle.mib_model.specs.declared.rows.McfRow.{McfRow}
use Rattle.mib_model.specs.declared.rows.LgfRow.{LgfRow}
use Rattle.mib_model.specs.Columns.{Column, Must, Filled, Cells, chosen}
use Rattle.mib_model.specs.Forms.{Named, Letter, Decimal, AnyText, zero_decimal}
use Rattle.mib_model.specs.Letters.{letter}

-- curves by points
abbrev pub caf : List Column
caf =
    Must 1 Named ∷  -- NUMBR
    Filled 3 (Letter (codes "IUR")) (letter "R") ∷  -- ENGFMT
    Filled 4 (Letter (codes "IUR")) (letter "U") ∷  -- RAWFMT
    Filled 5 (Letter (codes "DHO")) (letter "D") ∷  -- RADIX
    Filled 8 (Letter (codes "PF")) (letter "F") ∷  -- INTER
    []

-- the row of caf that cells of its columns are
abbrev pub caf_row : Cells caf → CafRow
caf_row (numbr, (engfmt, (rawfmt, (radix, (inter, end))))) =
    record { numbr = numbr; engfmt = engfmt; rawfmt = rawfmt; radix = radix; inter = inter }

-- the cells of a row of caf, column by column
abbrev pub caf_cells : CafRow → Cells caf
caf_cells r = (r.numbr, (r.engfmt, (r.rawfmt, (r.radix, (r.inter, tt)))))

-- the columns of the key of caf
abbrev pub caf_key : List Column
caf_key = chosen (1 ∷ []) caf

-- points of a curve
abbrev pub cap : List Column
cap =
    Must 1 Named ∷  -- NUMBR
    Must 2 AnyText ∷  -- XVALS
    Must 3 Decimal ∷  -- YVALS
    []

-- the row of cap that cells of its columns are
abbrev pub cap_row : Cells cap → CapRow
cap_row (numbr, (xvals, (yvals, end))) =
    record { numbr = numbr; xvals = xvals; yvals = yvals }

-- the cells of a row of cap, column by column
abbrev pub cap_cells : CapRow → Cells cap
cap_cells r = (r.numbr, (r.xvals, (r.yvals, tt)))

-- the columns of the key of cap
abbrev pub cap_key : List Column
cap_key = chosen (1 ∷ 2 ∷ []) cap

-- polynomials
abbrev pub mcf : List Column
mcf =
    Must 1 Named ∷  -- IDENT
    Must 3 Decimal ∷  -- POL1
    Filled 4 Decimal zero_decimal ∷  -- POL2
    Filled 5 Decimal zero_decimal ∷  -- POL3
    Filled 6 Decimal zero_decimal ∷  -- POL4
    Filled 7 Decimal zero_decimal ∷  -- POL5
    []

-- the row of mcf that cells of its columns are
abbrev pub mcf_row : Cells mcf → McfRow
mcf_row (ident, (pol1, (pol2, (pol3, (pol4, (pol5, end)))))) =
    record { ident = ident; pol1 = pol1; pol2 = pol2; pol3 = pol3; pol4 = pol4; pol5 = pol5 }

-- the cells of a row of mcf, column by column
abbrev pub mcf_cells : McfRow → Cells mcf
mcf_cells r = (r.ident, (r.pol1, (r.pol2, (r.pol3, (r.pol4, (r.pol5, tt))))))

-- the columns of the key of mcf
abbrev pub mcf_key : List Column
mcf_key = chosen (1 ∷ []) mcf

-- logarithmic curves
abbrev pub lgf : List Column
lgf =
    Must 1 Named ∷  -- IDENT
    []

-- the row of lgf that cells of its columns are
abbrev pub lgf_row : Cells lgf → LgfRow
lgf_row (ident, end) =
    record { ident = ident }

-- the cells of a row of lgf, column by column
abbrev pub lgf_cells : LgfRow → Cells lgf
lgf_cells r = (r.ident, tt)

-- the columns of the key of lgf
abbrev pub lgf_key : List Column
lgf_key = chosen (1 ∷ []) lgf
