-- The rows of each table are read again from their lines.
use Rattle.std.proofs.Common.{◌≡◌, Bool, true, false, [], ◌∷◌, Ok, codes, refl, ap, ◌∙◌, arith, rules}
use Rattle.mib_model.specs.declared.rows.Row.{Row}
use Rattle.mib_model.specs.declared.rows.Row.TheVariants as row
use Rattle.mib_model.specs.declared.rows.OcpRow.{OcpRow}
use Rattle.mib_model.specs.PacketTables.{pid, pid_row, pid_cells, pic, pic_row, pic_cells, tpcf, tpcf_row, tpcf_cells}
use Rattle.mib_model.specs.LayoutTables.{plf, plf_row, plf_cells, vpd, vpd_row, vpd_cells}
use Rattle.mib_model.specs.TextTables.{cur, cur_row, cur_cells, txf, txf_row, txf_cells, txp, txp_row, txp_cells}
use Rattle.mib_model.specs.CurveTables.{caf, caf_row, caf_cells, cap, cap_row, cap_cells, mcf, mcf_row, mcf_cells, lgf, lgf_row, lgf_cells}
use Rattle.mib_model.specs.ParameterTables.{pcf, pcf_row, pcf_cells, ocf, ocf_row, ocf_cells, ocp, ocp_row, ocp_cells}
use Rattle.mib_model.specs.Attempts.{made_into}
use Rattle.mib_model.specs.Fitting.{FitsRow, FitsCells}
use Rattle.mib_model.specs.Lines.{fields}
use Rattle.mib_model.specs.RowTexts.{row_of, line_of, kind_in, has_states, is_of_states, names_states}
use Rattle.mib_model.specs.Writing.{line_by}
use Rattle.mib_rows.proofs.AgainFacts.{among_visible, one_plain}
use Rattle.mib_rows.proofs.PlainFacts.{trimmed-plain, IsPlain}
use Rattle.mib_rows.proofs.RowAgainFacts.{IsTable, made_by-again, fields-line_by}

pub pcf_IsTable : IsTable pcf
pcf_IsTable = record { some = tt; rise = search rules; are = search rules; enough = omega arith }

pub pid_IsTable : IsTable pid
pid_IsTable = record { some = tt; rise = search rules; are = search rules; enough = omega arith }

pub pic_IsTable : IsTable pic
pic_IsTable = record { some = tt; rise = search rules; are = search rules; enough = omega arith }

pub tpcf_IsTable : IsTable tpcf
tpcf_IsTable = record { some = tt; rise = search rules; are = search rules; enough = omega arith }

pub plf_IsTable : IsTable plf
plf_IsTable = record { some = tt; rise = search rules; are = search rules; enough = omega arith }

pub vpd_IsTable : IsTable vpd
vpd_IsTable = record { some = tt; rise = search rules; are = search rules; enough = omega arith }

pub cur_IsTable : IsTable cur
cur_IsTable = record { some = tt; rise = search rules; are = search rules; enough = omega arith }

pub caf_IsTable : IsTable caf
caf_IsTable = record { some = tt; rise = search rules; are = search rules; enough = omega arith }

pub cap_IsTable : IsTable cap
cap_IsTable = record { some = tt; rise = search rules; are = search rules; enough = omega arith }

pub txf_IsTable : IsTable txf
txf_IsTable = record { some = tt; rise = search rules; are = search rules; enough = omega arith }

pub txp_IsTable : IsTable txp
txp_IsTable = record { some = tt; rise = search rules; are = search rules; enough = omega arith }

pub mcf_IsTable : IsTable mcf
mcf_IsTable = record { some = tt; rise = search rules; are = search rules; enough = omega arith }

pub lgf_IsTable : IsTable lgf
lgf_IsTable = record { some = tt; rise = search rules; are = search rules; enough = omega arith }

pub ocf_IsTable : IsTable ocf
ocf_IsTable = record { some = tt; rise = search rules; are = search rules; enough = omega arith }

pub ocp_IsTable : (states : Bool) → IsTable (ocp states)
ocp_IsTable true = record { some = tt; rise = search rules; are = search rules; enough = omega arith }
ocp_IsTable false = record { some = tt; rise = search rules; are = search rules; enough = omega arith }

-- the bounds of a line that was written are states where those of its row are
has_states-again : (states : Bool) (r : OcpRow) → FitsCells (ocp states) (ocp_cells states r) → has_states (fields (line_by (ocp states) (ocp_cells states r))) ≡ is_of_states r.sort
has_states-again states r fits =
    let table = ocp_IsTable states in
    let cells = fields-line_by (ocp states) (ocp_cells states r) table.some table.rise table.are fits in
    let letter : IsPlain (r.sort ∷ []) = one_plain r.sort (among_visible (codes "SHDCE") r.sort refl fits.1.1.0) in
    ap has_states cells ∙ ap names_states (trimmed-plain (r.sort ∷ []) letter)

pub row-again : (r : Row) → FitsRow r → row_of (kind_in r) (fields (line_of r)) ≡ Ok r
unfolding row_of line_of FitsRow
row-again (row.Pcf r) fits = ap (made_into row.Pcf) (made_by-again pcf pcf_row (pcf_cells r) pcf_IsTable fits)
row-again (row.Pid r) fits = ap (made_into row.Pid) (made_by-again pid pid_row (pid_cells r) pid_IsTable fits)
row-again (row.Pic r) fits = ap (made_into row.Pic) (made_by-again pic pic_row (pic_cells r) pic_IsTable fits)
row-again (row.Tpcf r) fits = ap (made_into row.Tpcf) (made_by-again tpcf tpcf_row (tpcf_cells r) tpcf_IsTable fits)
row-again (row.Plf r) fits = ap (made_into row.Plf) (made_by-again plf plf_row (plf_cells r) plf_IsTable fits)
row-again (row.Vpd r) fits = ap (made_into row.Vpd) (made_by-again vpd vpd_row (vpd_cells r) vpd_IsTable fits)
row-again (row.Cur r) fits = ap (made_into row.Cur) (made_by-again cur cur_row (cur_cells r) cur_IsTable fits)
row-again (row.Caf r) fits = ap (made_into row.Caf) (made_by-again caf caf_row (caf_cells r) caf_IsTable fits)
row-again (row.Cap r) fits = ap (made_into row.Cap) (made_by-again cap cap_row (cap_cells r) cap_IsTable fits)
row-again (row.Txf r) fits = ap (made_into row.Txf) (made_by-again txf txf_row (txf_cells r) txf_IsTable fits)
row-again (row.Txp r) fits = ap (made_into row.Txp) (made_by-again txp txp_row (txp_cells r) txp_IsTable fits)
row-again (row.Mcf r) fits = ap (made_into row.Mcf) (made_by-again mcf mcf_row (mcf_cells r) mcf_IsTable fits)
row-again (row.Lgf r) fits = ap (made_into row.Lgf) (made_by-again lgf lgf_row (lgf_cells r) lgf_IsTable fits)
row-again (row.Ocf r) fits = ap (made_into row.Ocf) (made_by-again ocf ocf_row (ocf_cells r) ocf_IsTable fits)
row-again (row.Ocp r) fits =
    let states = is_of_states r.sort in
    rw (has_states-again states r fits) (ap (made_into row.Ocp) (made_by-again (ocp states) (ocp_row states) (ocp_cells states r) (ocp_IsTable states) fits))
