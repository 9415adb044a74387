use Rattle.std.proofs.Common.{refl, rules}
use Rattle.mib_keys.proofs.EqualFacts.{limits-decide, rows-decide, same_row, tables-decide}
use Rattle.mib_model.specs.CurveTables.{caf, caf_cells, caf_row, cap, cap_cells, cap_row, lgf, lgf_cells, lgf_row, mcf, mcf_cells, mcf_row}
use Rattle.mib_model.specs.LayoutTables.{plf, plf_cells, plf_row, vpd, vpd_cells, vpd_row}
use Rattle.mib_model.specs.PacketTables.{pic, pic_cells, pic_row, pid, pid_cells, pid_row, tpcf, tpcf_cells, tpcf_row}
use Rattle.mib_model.specs.ParameterTables.{ocf, ocf_cells, ocf_row, pcf, pcf_cells, pcf_row}
use Rattle.mib_model.specs.TextTables.{cur, cur_cells, cur_row, txf, txf_cells, txf_row, txp, txp_cells, txp_row}
use Rattle.mib_model.specs.Sameness.{same_cells}
use Rattle.mib_model.specs.SameRows.{same_ocp}
use Rattle.mib_keys.proofs.kept.same_tables.Goals as goal

pub returns : goal.returns
unfolding same_cells
returns c =
    let pcf-decides = tables-decide (same_row pcf pcf_cells pcf_row) (rows-decide pcf pcf_cells pcf_row (λ x. refl)) c.pcf.ensures.rows c.pcf-2.ensures.rows c.eq.ensures (λ x y. search rules) in
    let pid-decides = tables-decide (same_row pid pid_cells pid_row) (rows-decide pid pid_cells pid_row (λ x. refl)) c.pid.ensures.rows c.pid-2.ensures.rows c.eq-2.ensures (λ x y. search rules) in
    let pic-decides = tables-decide (same_row pic pic_cells pic_row) (rows-decide pic pic_cells pic_row (λ x. refl)) c.pic.ensures.rows c.pic-2.ensures.rows c.eq-3.ensures (λ x y. search rules) in
    let tpcf-decides = tables-decide (same_row tpcf tpcf_cells tpcf_row) (rows-decide tpcf tpcf_cells tpcf_row (λ x. refl)) c.tpcf.ensures.rows c.tpcf-2.ensures.rows c.eq-4.ensures (λ x y. search rules) in
    let plf-decides = tables-decide (same_row plf plf_cells plf_row) (rows-decide plf plf_cells plf_row (λ x. refl)) c.plf.ensures.rows c.plf-2.ensures.rows c.eq-5.ensures (λ x y. search rules) in
    let vpd-decides = tables-decide (same_row vpd vpd_cells vpd_row) (rows-decide vpd vpd_cells vpd_row (λ x. refl)) c.vpd.ensures.rows c.vpd-2.ensures.rows c.eq-6.ensures (λ x y. search rules) in
    let cur-decides = tables-decide (same_row cur cur_cells cur_row) (rows-decide cur cur_cells cur_row (λ x. refl)) c.cur.ensures.rows c.cur-2.ensures.rows c.eq-7.ensures (λ x y. search rules) in
    let caf-decides = tables-decide (same_row caf caf_cells caf_row) (rows-decide caf caf_cells caf_row (λ x. refl)) c.caf.ensures.rows c.caf-2.ensures.rows c.eq-8.ensures (λ x y. search rules) in
    let cap-decides = tables-decide (same_row cap cap_cells cap_row) (rows-decide cap cap_cells cap_row (λ x. refl)) c.cap.ensures.rows c.cap-2.ensures.rows c.eq-9.ensures (λ x y. search rules) in
    let txf-decides = tables-decide (same_row txf txf_cells txf_row) (rows-decide txf txf_cells txf_row (λ x. refl)) c.txf.ensures.rows c.txf-2.ensures.rows c.eq-10.ensures (λ x y. search rules) in
    let txp-decides = tables-decide (same_row txp txp_cells txp_row) (rows-decide txp txp_cells txp_row (λ x. refl)) c.txp.ensures.rows c.txp-2.ensures.rows c.eq-11.ensures (λ x y. search rules) in
    let mcf-decides = tables-decide (same_row mcf mcf_cells mcf_row) (rows-decide mcf mcf_cells mcf_row (λ x. refl)) c.mcf.ensures.rows c.mcf-2.ensures.rows c.eq-12.ensures (λ x y. search rules) in
    let lgf-decides = tables-decide (same_row lgf lgf_cells lgf_row) (rows-decide lgf lgf_cells lgf_row (λ x. refl)) c.lgf.ensures.rows c.lgf-2.ensures.rows c.eq-13.ensures (λ x y. search rules) in
    let ocf-decides = tables-decide (same_row ocf ocf_cells ocf_row) (rows-decide ocf ocf_cells ocf_row (λ x. refl)) c.ocf.ensures.rows c.ocf-2.ensures.rows c.eq-14.ensures (λ x y. search rules) in
    let ocp-decides = tables-decide same_ocp limits-decide c.ocp.ensures.rows c.ocp-2.ensures.rows c.eq-15.ensures (λ x y. search rules) in
    record {
      same = record { pcf = pcf-decides.0; pid = pid-decides.0; pic = pic-decides.0; tpcf = tpcf-decides.0; plf = plf-decides.0; vpd = vpd-decides.0; cur = cur-decides.0; caf = caf-decides.0; cap = cap-decides.0; txf = txf-decides.0; txp = txp-decides.0; mcf = mcf-decides.0; lgf = lgf-decides.0; ocf = ocf-decides.0; ocp = ocp-decides.0 };
      all = record { pcf = pcf-decides.1; pid = pid-decides.1; pic = pic-decides.1; tpcf = tpcf-decides.1; plf = plf-decides.1; vpd = vpd-decides.1; cur = cur-decides.1; caf = caf-decides.1; cap = cap-decides.1; txf = txf-decides.1; txp = txp-decides.1; mcf = mcf-decides.1; lgf = lgf-decides.1; ocf = ocf-decides.1; ocp = ocp-decides.1 };
    }
