-- Rows that are the same are equal: those of each table. [This profile.]
use Rattle.std.proofs.Common.{◌≡◌, true, List, refl, sym, ap, ◌∙◌}
use Rattle.row_laws.proofs.SameFacts.{same_values-Decides}
use Rattle.mib_model.specs.declared.rows.CafRow.{CafRow}
use Rattle.mib_model.specs.declared.rows.CapRow.{CapRow}
use Rattle.mib_model.specs.declared.rows.CurRow.{CurRow}
use Rattle.mib_model.specs.declared.rows.LgfRow.{LgfRow}
use Rattle.mib_model.specs.declared.rows.McfRow.{McfRow}
use Rattle.mib_model.specs.declared.rows.OcfRow.{OcfRow}
use Rattle.mib_model.specs.declared.rows.OcpRow.{OcpRow}
use Rattle.mib_model.specs.declared.rows.PcfRow.{PcfRow}
use Rattle.mib_model.specs.declared.rows.PicRow.{PicRow}
use Rattle.mib_model.specs.declared.rows.PidRow.{PidRow}
use Rattle.mib_model.specs.declared.rows.PlfRow.{PlfRow}
use Rattle.mib_model.specs.declared.rows.TxfRow.{TxfRow}
use Rattle.mib_model.specs.declared.rows.TxpRow.{TxpRow}
use Rattle.mib_model.specs.declared.rows.VpdRow.{VpdRow}
use Rattle.mib_model.specs.Columns.{Column, Cells}
use Rattle.mib_model.specs.CurveTables.{caf, caf_cells, caf_row, cap, cap_cells, cap_row, mcf, mcf_cells, mcf_row, lgf, lgf_cells, lgf_row}
use Rattle.mib_model.specs.LayoutTables.{plf, plf_cells, plf_row, vpd, vpd_cells, vpd_row}
use Rattle.mib_model.specs.PacketTables.{pid, pid_cells, pid_row, pic, pic_cells, pic_row}
use Rattle.mib_model.specs.ParameterTables.{pcf, pcf_cells, pcf_row, ocf, ocf_cells, ocf_row, ocp, ocp_cells, ocp_row}
use Rattle.mib_model.specs.TextTables.{cur, cur_cells, cur_row, txf, txf_cells, txf_row, txp, txp_cells, txp_row}
use Rattle.mib_model.specs.RowTexts.{is_of_states}
use Rattle.mib_model.specs.Sameness.{same_cells}
use Rattle.mib_model.specs.SameRows.{same_pcf, same_pid, same_pic, same_plf, same_vpd, same_cur, same_caf, same_cap, same_txf, same_txp, same_mcf, same_lgf, same_ocf, same_ocp}

module _ {R : Type 0} (columns : List Column) (cells : R → Cells columns) (row : Cells columns → R) where
  -- rows of which all columns are the same
  equal-rows : ((x : R) → row (cells x) ≡ x) → (x y : R) → same_cells columns (cells x) (cells y) ≡ true → x ≡ y
  equal-rows again x y h = sym (again x) ∙ (ap row ((same_values-Decides columns (cells x) (cells y)).0 h) ∙ again y)

-- rows of pcf
pub equal-pcf : (x y : PcfRow) → same_pcf x y ≡ true → x ≡ y
equal-pcf x y h = equal-rows pcf pcf_cells pcf_row (λ x. refl) x y h

-- rows of pid
pub equal-pid : (x y : PidRow) → same_pid x y ≡ true → x ≡ y
equal-pid x y h = equal-rows pid pid_cells pid_row (λ x. refl) x y h

-- rows of pic
pub equal-pic : (x y : PicRow) → same_pic x y ≡ true → x ≡ y
equal-pic x y h = equal-rows pic pic_cells pic_row (λ x. refl) x y h

-- rows of plf
pub equal-plf : (x y : PlfRow) → same_plf x y ≡ true → x ≡ y
equal-plf x y h = equal-rows plf plf_cells plf_row (λ x. refl) x y h

-- rows of vpd
pub equal-vpd : (x y : VpdRow) → same_vpd x y ≡ true → x ≡ y
equal-vpd x y h = equal-rows vpd vpd_cells vpd_row (λ x. refl) x y h

-- rows of cur
pub equal-cur : (x y : CurRow) → same_cur x y ≡ true → x ≡ y
equal-cur x y h = equal-rows cur cur_cells cur_row (λ x. refl) x y h

-- rows of caf
pub equal-caf : (x y : CafRow) → same_caf x y ≡ true → x ≡ y
equal-caf x y h = equal-rows caf caf_cells caf_row (λ x. refl) x y h

-- rows of cap
pub equal-cap : (x y : CapRow) → same_cap x y ≡ true → x ≡ y
equal-cap x y h = equal-rows cap cap_cells cap_row (λ x. refl) x y h

-- rows of txf
pub equal-txf : (x y : TxfRow) → same_txf x y ≡ true → x ≡ y
equal-txf x y h = equal-rows txf txf_cells txf_row (λ x. refl) x y h

-- rows of txp
pub equal-txp : (x y : TxpRow) → same_txp x y ≡ true → x ≡ y
equal-txp x y h = equal-rows txp txp_cells txp_row (λ x. refl) x y h

-- rows of mcf
pub equal-mcf : (x y : McfRow) → same_mcf x y ≡ true → x ≡ y
equal-mcf x y h = equal-rows mcf mcf_cells mcf_row (λ x. refl) x y h

-- rows of lgf
pub equal-lgf : (x y : LgfRow) → same_lgf x y ≡ true → x ≡ y
equal-lgf x y h = equal-rows lgf lgf_cells lgf_row (λ x. refl) x y h

-- rows of ocf
pub equal-ocf : (x y : OcfRow) → same_ocf x y ≡ true → x ≡ y
equal-ocf x y h = equal-rows ocf ocf_cells ocf_row (λ x. refl) x y h

-- rows of ocp, by the columns of the first
pub equal-ocp : (x y : OcpRow) → same_ocp x y ≡ true → x ≡ y
equal-ocp x y h = let states = is_of_states x.sort in equal-rows (ocp states) (ocp_cells states) (ocp_row states) (λ x. refl) x y h
