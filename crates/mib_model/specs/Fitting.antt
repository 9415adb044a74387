-- Which values the columns of a table may have. [This profile.]
use Rattle.std.specs.Prelude.{◌≡◌, ◌≢◌, ℕ, ◌≤◌, ◌<◌, ◌^◌, ◌≤ℤ◌, nat_abs, true, false, List, [], ◌∷◌, Some, None, Ok, ◌==◌, not}
use Rattle.std.specs.Char.{is_ascii_uppercase}
use Rattle.std.specs.List.{list_all, list_any}
use Rattle.mib_model.specs.declared.number.Dec.{Dec}
use Rattle.mib_model.specs.declared.rows.Bound.{Bound}
use Rattle.mib_model.specs.declared.rows.Bound.TheVariants as bound
use Rattle.mib_model.specs.declared.rows.Row.{Row}
use Rattle.mib_model.specs.declared.rows.Row.TheVariants as row
use Rattle.mib_model.specs.Forms.{Form, Named, Natural, Integer, Letter, Capital, Decimal, AnyText, Bounding, Content}
use Rattle.mib_model.specs.Columns.{Column, Must, Optional, Filled, Cell, Cells}
use Rattle.mib_model.specs.PacketTables.{pid, pid_cells, pic, pic_cells, tpcf, tpcf_cells}
use Rattle.mib_model.specs.LayoutTables.{plf, plf_cells, vpd, vpd_cells}
use Rattle.mib_model.specs.TextTables.{cur, cur_cells, txf, txf_cells, txp, txp_cells}
use Rattle.mib_model.specs.CurveTables.{caf, caf_cells, cap, cap_cells, mcf, mcf_cells, lgf, lgf_cells}
use Rattle.mib_model.specs.ParameterTables.{pcf, pcf_cells, ocf, ocf_cells, ocp, ocp_cells}
use Rattle.mib_model.specs.Decimals.{dec_of}
use Rattle.mib_model.specs.Lines.{is_tab}
use Rattle.mib_model.specs.Names.{is_name, is_text}
use Rattle.mib_model.specs.RowTexts.{is_of_states}
use Rattle.mib_model.specs.Writing.{content_text, decimal_text}

-- a decimal that its text is read as: at most 17 digits, an exponent from -30 to 30
pub record IsDecimal (d : Dec) : Type 0 where
  pub digits : nat_abs d.m < 10 ^ 17
  pub exponent : nat_abs d.e ≤ 30
  pub read : dec_of (decimal_text d) ≡ Ok d

-- a text that may stand in a field: at most 64 octets, and no tab
pub record FitsText (octets : List ℕ) : Type 0 where
  pub short : is_text octets ≡ true
  pub whole : list_all (λ octet. not (is_tab octet)) octets ≡ true

-- a bound of a check that is not of states: a decimal or nothing, and no text
abbrev pub FitsBound : Bound → Type 0
FitsBound bound.Empty = Unit {0}
FitsBound (bound.Number d) = IsDecimal d
FitsBound (bound.Words octets) = ⊥

-- what a bound of a check of states may be: a text
abbrev pub FitsState : Bound → Type 0
FitsState bound.Empty = ⊥
FitsState (bound.Number d) = ⊥
FitsState (bound.Words octets) = FitsText octets

-- what a field of a form may be
abbrev pub FitsForm : (form : Form) → Content form → Type 0
FitsForm Named octets = is_name octets ≡ true
FitsForm (Natural low high) number = (low ≤ number) × (number ≤ high)
FitsForm (Integer low high) number = (low ≤ℤ number) × (number ≤ℤ high)
FitsForm (Letter letters) letter = list_any (λ one. one == letter) letters ≡ true
FitsForm Capital letter = is_ascii_uppercase letter ≡ true
FitsForm Decimal d = IsDecimal d
FitsForm AnyText octets = FitsText octets
FitsForm (Bounding true) b = FitsState b
FitsForm (Bounding false) b = FitsBound b

-- what a row may have in a column: what is written as nothing is what an empty field is
abbrev pub FitsCell : (column : Column) → Cell column → Type 0
FitsCell (Must number form) content = FitsForm form content
FitsCell (Optional number form) None = Unit {0}
FitsCell (Optional number form) (Some content) = FitsForm form content × (content_text form content ≢ [])
FitsCell (Filled number form empty) content = FitsForm form content × (content_text form content ≡ [] → content ≡ empty)

-- what a row may have in all its columns
abbrev pub FitsCells : (columns : List Column) → Cells columns → Type 0
FitsCells [] values = Unit {0}
FitsCells (column ∷ columns) values = FitsCell column values.0 × FitsCells columns values.1

-- a row that a line can be
unfoldable pub FitsRow : Row → Type 0
FitsRow (row.Pcf r) = FitsCells pcf (pcf_cells r)
FitsRow (row.Pid r) = FitsCells pid (pid_cells r)
FitsRow (row.Pic r) = FitsCells pic (pic_cells r)
FitsRow (row.Tpcf r) = FitsCells tpcf (tpcf_cells r)
FitsRow (row.Plf r) = FitsCells plf (plf_cells r)
FitsRow (row.Vpd r) = FitsCells vpd (vpd_cells r)
FitsRow (row.Cur r) = FitsCells cur (cur_cells r)
FitsRow (row.Caf r) = FitsCells caf (caf_cells r)
FitsRow (row.Cap r) = FitsCells cap (cap_cells r)
FitsRow (row.Txf r) = FitsCells txf (txf_cells r)
FitsRow (row.Txp r) = FitsCells txp (txp_cells r)
FitsRow (row.Mcf r) = FitsCells mcf (mcf_cells r)
FitsRow (row.Lgf r) = FitsCells lgf (lgf_cells r)
FitsRow (row.Ocf r) = FitsCells ocf (ocf_cells r)
FitsRow (row.Ocp r) = FitsCells (ocp (is_of_states r.sort)) (ocp_cells (is_of_states r.sort) r)
