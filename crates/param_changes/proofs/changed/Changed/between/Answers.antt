use Rattle.mib_model.specs.declared.rows.CafRow.{CafRow}
use Rattle.mib_model.specs.declared.rows.CapRow.{CapRow}
use Rattle.mib_model.specs.declared.rows.CurRow.{CurRow}
use Rattle.mib_model.specs.declared.rows.LgfRow.{LgfRow}
use Rattle.mib_model.specs.declared.rows.McfRow.{McfRow}
use Rattle.mib_model.specs.declared.rows.OcfRow.{OcfRow}
use Rattle.mib_model.specs.declared.rows.OcpRow.{OcpRow}
use Rattle.mib_model.specs.declared.rows.PcfRow.{PcfRow}
use Rattle.mib_model.specs.declared.rows.TxfRow.{TxfRow}
use Rattle.mib_model.specs.declared.rows.TxpRow.{TxpRow}
use Rattle.param_changes.proofs.NoteFacts.{rows-read}
use Rattle.param_changes.proofs.changed.Changed.between.Goals as goal

pub returns : goal.returns
returns c = record {
  parameters = λ name none.
      let after4 = c.in_ok-note_if_changed-4.ensures name none in
      let after3 = c.in_ok-note_if_changed-3.ensures name after4.0 in
      let after2 = c.in_ok-note_if_changed-2.ensures name after3.0 in
      let after1 = c.in_ok-note_if_changed.ensures name after2.0 in
      record {
        pcf = rows-read (λ (row : PcfRow). row.name) name c.pcf.ensures.rows c.pcf-2.ensures.rows after1.1;
        cur = rows-read (λ (row : CurRow). row.pname) name c.cur.ensures.rows c.cur-2.ensures.rows after2.1;
        ocf = rows-read (λ (row : OcfRow). row.name) name c.ocf.ensures.rows c.ocf-2.ensures.rows after3.1;
        ocp = rows-read (λ (row : OcpRow). row.name) name c.ocp.ensures.rows c.ocp-2.ensures.rows after4.1;
      };
  curves = λ name none.
      let after10 = c.in_ok-note_if_changed-10.ensures name none in
      let after9 = c.in_ok-note_if_changed-9.ensures name after10.0 in
      let after8 = c.in_ok-note_if_changed-8.ensures name after9.0 in
      let after7 = c.in_ok-note_if_changed-7.ensures name after8.0 in
      let after6 = c.in_ok-note_if_changed-6.ensures name after7.0 in
      let after5 = c.in_ok-note_if_changed-5.ensures name after6.0 in
      record {
        caf = rows-read (λ (row : CafRow). row.numbr) name c.caf.ensures.rows c.caf-2.ensures.rows after5.1;
        cap = rows-read (λ (row : CapRow). row.numbr) name c.cap.ensures.rows c.cap-2.ensures.rows after6.1;
        txf = rows-read (λ (row : TxfRow). row.numbr) name c.txf.ensures.rows c.txf-2.ensures.rows after7.1;
        txp = rows-read (λ (row : TxpRow). row.numbr) name c.txp.ensures.rows c.txp-2.ensures.rows after8.1;
        mcf = rows-read (λ (row : McfRow). row.ident) name c.mcf.ensures.rows c.mcf-2.ensures.rows after9.1;
        lgf = rows-read (λ (row : LgfRow). row.ident) name c.lgf.ensures.rows c.lgf-2.ensures.rows after10.1;
      };
}
