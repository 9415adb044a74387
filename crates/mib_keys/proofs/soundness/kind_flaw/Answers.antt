use Rattle.std.proofs.Common.{◌∙◌, ap, map}
use Rattle.mib_model.specs.declared.database.Database.{Database}
use Rattle.mib_model.specs.declared.rows.Row.TheVariants as row
use Rattle.mib_model.specs.Drafts.{rows_of}
use Rattle.mib_keys.proofs.soundness.kind_flaw.Goals as goal

pub table_flaw-requires-clause-rows : goal.table_flaw-requires-clause-rows
unfolding rows_of
table_flaw-requires-clause-rows c = ap (map row.Pcf) (c.pcf.ensures.rows ∙ ap (λ (db : Database). db.pcf) c.book-book.ensures)

pub table_flaw-requires-in-Pid-clause-rows : goal.table_flaw-requires-in-Pid-clause-rows
unfolding rows_of
table_flaw-requires-in-Pid-clause-rows c = ap (map row.Pid) (c.pid.ensures.rows ∙ ap (λ (db : Database). db.pid) c.book-book.ensures)

pub table_flaw-requires-in-Pic-clause-rows : goal.table_flaw-requires-in-Pic-clause-rows
unfolding rows_of
table_flaw-requires-in-Pic-clause-rows c = ap (map row.Pic) (c.pic.ensures.rows ∙ ap (λ (db : Database). db.pic) c.book-book.ensures)

pub table_flaw-requires-in-Tpcf-clause-rows : goal.table_flaw-requires-in-Tpcf-clause-rows
unfolding rows_of
table_flaw-requires-in-Tpcf-clause-rows c = ap (map row.Tpcf) (c.tpcf.ensures.rows ∙ ap (λ (db : Database). db.tpcf) c.book-book.ensures)

pub table_flaw-requires-in-Plf-clause-rows : goal.table_flaw-requires-in-Plf-clause-rows
unfolding rows_of
table_flaw-requires-in-Plf-clause-rows c = ap (map row.Plf) (c.plf.ensures.rows ∙ ap (λ (db : Database). db.plf) c.book-book.ensures)

pub table_flaw-requires-in-Vpd-clause-rows : goal.table_flaw-requires-in-Vpd-clause-rows
unfolding rows_of
table_flaw-requires-in-Vpd-clause-rows c = ap (map row.Vpd) (c.vpd.ensures.rows ∙ ap (λ (db : Database). db.vpd) c.book-book.ensures)

pub table_flaw-requires-in-Cur-clause-rows : goal.table_flaw-requires-in-Cur-clause-rows
unfolding rows_of
table_flaw-requires-in-Cur-clause-rows c = ap (map row.Cur) (c.cur.ensures.rows ∙ ap (λ (db : Database). db.cur) c.book-book.ensures)

pub table_flaw-requires-in-Caf-clause-rows : goal.table_flaw-requires-in-Caf-clause-rows
unfolding rows_of
table_flaw-requires-in-Caf-clause-rows c = ap (map row.Caf) (c.caf.ensures.rows ∙ ap (λ (db : Database). db.caf) c.book-book.ensures)

pub table_flaw-requires-in-Cap-clause-rows : goal.table_flaw-requires-in-Cap-clause-rows
unfolding rows_of
table_flaw-requires-in-Cap-clause-rows c = ap (map row.Cap) (c.cap.ensures.rows ∙ ap (λ (db : Database). db.cap) c.book-book.ensures)

pub table_flaw-requires-in-Txf-clause-rows : goal.table_flaw-requires-in-Txf-clause-rows
unfolding rows_of
table_flaw-requires-in-Txf-clause-rows c = ap (map row.Txf) (c.txf.ensures.rows ∙ ap (λ (db : Database). db.txf) c.book-book.ensures)

pub table_flaw-requires-in-Txp-clause-rows : goal.table_flaw-requires-in-Txp-clause-rows
unfolding rows_of
table_flaw-requires-in-Txp-clause-rows c = ap (map row.Txp) (c.txp.ensures.rows ∙ ap (λ (db : Database). db.txp) c.book-book.ensures)

pub table_flaw-requires-in-Mcf-clause-rows : goal.table_flaw-requires-in-Mcf-clause-rows
unfolding rows_of
table_flaw-requires-in-Mcf-clause-rows c = ap (map row.Mcf) (c.mcf.ensures.rows ∙ ap (λ (db : Database). db.mcf) c.book-book.ensures)

pub table_flaw-requires-in-Lgf-clause-rows : goal.table_flaw-requires-in-Lgf-clause-rows
unfolding rows_of
table_flaw-requires-in-Lgf-clause-rows c = ap (map row.Lgf) (c.lgf.ensures.rows ∙ ap (λ (db : Database). db.lgf) c.book-book.ensures)

pub table_flaw-requires-in-Ocf-clause-rows : goal.table_flaw-requires-in-Ocf-clause-rows
unfolding rows_of
table_flaw-requires-in-Ocf-clause-rows c = ap (map row.Ocf) (c.ocf.ensures.rows ∙ ap (λ (db : Database). db.ocf) c.book-book.ensures)

pub table_flaw-requires-in-Ocp-clause-rows : goal.table_flaw-requires-in-Ocp-clause-rows
unfolding rows_of
table_flaw-requires-in-Ocp-clause-rows c = ap (map row.Ocp) (c.ocp.ensures.rows ∙ ap (λ (db : Database). db.ocp) c.book-book.ensures)
