-- What is read of a line is the row that the definitions give, table by table.
use Rattle.std.specs.Prelude.{◌≡◌, ℕ, List}
use Rattle.std.proofs.Common.{refl}
use Rattle.mib_model.specs.declared.kind.Kind.TheVariants as kind
use Rattle.mib_model.specs.declared.rows.Row.TheVariants as row
use Rattle.mib_model.specs.Attempts.{made_into}
use Rattle.mib_model.specs.ColumnRows.{made_by}
use Rattle.mib_model.specs.PacketTables.{pid, pid_row, pic, pic_row, tpcf, tpcf_row}
use Rattle.mib_model.specs.LayoutTables.{plf, plf_row, vpd, vpd_row}
use Rattle.mib_model.specs.TextTables.{cur, cur_row, txf, txf_row, txp, txp_row}
use Rattle.mib_model.specs.CurveTables.{caf, caf_row, cap, cap_row, mcf, mcf_row, lgf, lgf_row}
use Rattle.mib_model.specs.ParameterTables.{pcf, pcf_row, ocf, ocf_row, ocp, ocp_row}
use Rattle.mib_model.specs.RowTexts.{row_of, has_states}

-- the rows of each table are read by its columns
pub record RowsRead : Type 0 where
  pub of_pcf : (f : List (List ℕ)) → row_of kind.Pcf f ≡ made_into row.Pcf (made_by pcf pcf_row f)
  pub of_pid : (f : List (List ℕ)) → row_of kind.Pid f ≡ made_into row.Pid (made_by pid pid_row f)
  pub of_pic : (f : List (List ℕ)) → row_of kind.Pic f ≡ made_into row.Pic (made_by pic pic_row f)
  pub of_tpcf : (f : List (List ℕ)) → row_of kind.Tpcf f ≡ made_into row.Tpcf (made_by tpcf tpcf_row f)
  pub of_plf : (f : List (List ℕ)) → row_of kind.Plf f ≡ made_into row.Plf (made_by plf plf_row f)
  pub of_vpd : (f : List (List ℕ)) → row_of kind.Vpd f ≡ made_into row.Vpd (made_by vpd vpd_row f)
  pub of_cur : (f : List (List ℕ)) → row_of kind.Cur f ≡ made_into row.Cur (made_by cur cur_row f)
  pub of_caf : (f : List (List ℕ)) → row_of kind.Caf f ≡ made_into row.Caf (made_by caf caf_row f)
  pub of_cap : (f : List (List ℕ)) → row_of kind.Cap f ≡ made_into row.Cap (made_by cap cap_row f)
  pub of_txf : (f : List (List ℕ)) → row_of kind.Txf f ≡ made_into row.Txf (made_by txf txf_row f)
  pub of_txp : (f : List (List ℕ)) → row_of kind.Txp f ≡ made_into row.Txp (made_by txp txp_row f)
  pub of_mcf : (f : List (List ℕ)) → row_of kind.Mcf f ≡ made_into row.Mcf (made_by mcf mcf_row f)
  pub of_lgf : (f : List (List ℕ)) → row_of kind.Lgf f ≡ made_into row.Lgf (made_by lgf lgf_row f)
  pub of_ocf : (f : List (List ℕ)) → row_of kind.Ocf f ≡ made_into row.Ocf (made_by ocf ocf_row f)
  pub of_ocp : (f : List (List ℕ)) → row_of kind.Ocp f ≡ made_into row.Ocp (made_by (ocp (has_states f)) (ocp_row (has_states f)) f)

-- the rows of each table are made so
pub rows_read : RowsRead
unfolding row_of
rows_read = record {
  of_pcf = λ f. refl;
  of_pid = λ f. refl;
  of_pic = λ f. refl;
  of_tpcf = λ f. refl;
  of_plf = λ f. refl;
  of_vpd = λ f. refl;
  of_cur = λ f. refl;
  of_caf = λ f. refl;
  of_cap = λ f. refl;
  of_txf = λ f. refl;
  of_txp = λ f. refl;
  of_mcf = λ f. refl;
  of_lgf = λ f. refl;
  of_ocf = λ f. refl;
  of_ocp = λ f. refl;
}
