-- When two rows of a table are the same. [This profile.]
use Rattle.std.specs.Prelude.{Bool}
use Rattle.mib_model.specs.declared.rows.CafRow.{CafRow}
use Rattle.mib_model.specs.declared.rows.CapRow.{CapRow}
use Rattle.mib_model.specs.declared.rows.CurRow.{CurRow}
use Rattle.mib_model.specs.declared.rows.LgfRow.{LgfRow}
use Rattle.mib_model.specs.declared.rows.McfRow.{McfRow}
use Rattle.mib_model.specs.declared.rows.OcfRow.{OcfRow}
use Rattle.mib_model.specs.declared.rows.OcpRow.{OcpRow}
use Rattle.mib_model.specs.declared.rows.PcfRow.{PcfRow}
use Rattle.mib_model.specs.declared.rows.PicRow.{PicRow}
use Rattle.mib_model.specs.declared.rows.PidRow.{PidRow}
use Rattle.mib_model.specs.declared.rows.PlfRow.{PlfRow}
use Rattle.mib_model.specs.declared.rows.TxfRow.{TxfRow}
use Rattle.mib_model.specs.declared.rows.TxpRow.{TxpRow}
use Rattle.mib_model.specs.declared.rows.VpdRow.{VpdRow}
use Rattle.mib_model.specs.TextTables.{cur, cur_cells, txf, txf_cells, txp, txp_cells}
use Rattle.mib_model.specs.CurveTables.{caf, caf_cells, cap, cap_cells, mcf, mcf_cells, lgf, lgf_cells}
use Rattle.mib_model.specs.PacketTables.{pid, pid_cells, pic, pic_cells}
use Rattle.mib_model.specs.LayoutTables.{plf, plf_cells, vpd, vpd_cells}
use Rattle.mib_model.specs.ParameterTables.{pcf, pcf_cells, ocf, ocf_cells, ocp, ocp_cells}
use Rattle.mib_model.specs.RowTexts.{is_of_states}
use Rattle.mib_model.specs.Sameness.{same_cells}

-- whether two rows of pcf are equal
abbrev pub same_pcf : PcfRow → PcfRow → Bool
same_pcf x y = same_cells pcf (pcf_cells x) (pcf_cells y)

-- whether two rows of pid are equal
abbrev pub same_pid : PidRow → PidRow → Bool
same_pid x y = same_cells pid (pid_cells x) (pid_cells y)

-- whether two rows of pic are equal
abbrev pub same_pic : PicRow → PicRow → Bool
same_pic x y = same_cells pic (pic_cells x) (pic_cells y)

-- whether two rows of plf are equal
abbrev pub same_plf : PlfRow → PlfRow → Bool
same_plf x y = same_cells plf (plf_cells x) (plf_cells y)

-- whether two rows of vpd are equal
abbrev pub same_vpd : VpdRow → VpdRow → Bool
same_vpd x y = same_cells vpd (vpd_cells x) (vpd_cells y)

-- whether two rows of cur are equal
abbrev pub same_cur : CurRow → CurRow → Bool
same_cur x y = same_cells cur (cur_cells x) (cur_cells y)

-- whether two rows of caf are equal
abbrev pub same_caf : CafRow → CafRow → Bool
same_caf x y = same_cells caf (caf_cells x) (caf_cells y)

-- whether two rows of cap are equal
abbrev pub same_cap : CapRow → CapRow → Bool
same_cap x y = same_cells cap (cap_cells x) (cap_cells y)

-- whether two rows of txf are equal
abbrev pub same_txf : TxfRow → TxfRow → Bool
same_txf x y = same_cells txf (txf_cells x) (txf_cells y)

-- whether two rows of txp are equal
abbrev pub same_txp : TxpRow → TxpRow → Bool
same_txp x y = same_cells txp (txp_cells x) (txp_cells y)

-- whether two rows of mcf are equal
abbrev pub same_mcf : McfRow → McfRow → Bool
same_mcf x y = same_cells mcf (mcf_cells x) (mcf_cells y)

-- whether two rows of lgf are equal
abbrev pub same_lgf : LgfRow → LgfRow → Bool
same_lgf x y = same_cells lgf (lgf_cells x) (lgf_cells y)

-- whether two rows of ocf are equal
abbrev pub same_ocf : OcfRow → OcfRow → Bool
same_ocf x y = same_cells ocf (ocf_cells x) (ocf_cells y)

-- whether two rows of ocp are equal, by the columns of the first: rows of other kinds of check differ in their kind
abbrev pub same_ocp : OcpRow → OcpRow → Bool
same_ocp x y = same_cells (ocp (is_of_states x.sort)) (ocp_cells (is_of_states x.sort) x) (ocp_cells (is_of_states x.sort) y)
