use Rattle.std.proofs.Common.{ℕ, ◌+◌, List, Result, ap, ◌∙◌, subst}
use Rattle.std.proofs.lemmas.Result.{err_from_is_err_and}
use Rattle.mib_model.specs.declared.fault.MibFault.{MibFault}
use Rattle.mib_model.specs.declared.limits.TheConstants.{TABLE_MOST}
use Rattle.mib_model.specs.declared.rows.Row.{Row}
use Rattle.mib_model.specs.Drafts.{with_rows}
use Rattle.mib_model.specs.TableLists.{rows_held}
use Rattle.session.specs.Sources.{Fills, Refuses}
use Rattle.session.proofs.TableTexts.{of_file}
use Rattle.whole_texts.specs.Parts.{ReadsPart}
use Rattle.session.proofs.loading.load_table.Goals as goal

pub returns-in_err-rows-clause-refused : goal.returns-in_err-rows-clause-refused
returns-in_err-rows-clause-refused g c =
    let p = err_from_is_err_and c.from_residual-in_err-rows.result c.from_residual-in_err-rows.ensures.1 in
    rw (p.1, p.2)
    (of_file (Refuses c.in_err-rows.field-0.0) c.args.table (g.T.Source.holds c.args.tables.now) c.args.folder.now _ c.in_ok-text.text.items c.deref.result.now
    (c.as_str.ensures.value ∙ c.in_ok-name.ensures) c.deref.ensures.value c.in_ok-text.ensures.told c.in_err-rows.ensures.refused)

pub returns-clause-told : goal.returns-clause-told
returns-clause-told g c =
    let P : Result (List Row) MibFault → Type 0 = λ read. Fills c.args.table read c.args.book.now c.fill.new.self in
    of_file P c.args.table (g.T.Source.holds c.args.tables.now) c.args.folder.now _ c.in_ok-text.text.items c.deref.result.now
    (c.as_str.ensures.value ∙ c.in_ok-name.ensures) c.deref.ensures.value c.in_ok-text.ensures.told
    (rows_held c.in_ok-rows.rows, c.in_ok-rows.ensures.told, c.in_ok-fill.ensures.rows ∙ ap (λ k. with_rows c.args.book.now k (rows_held c.in_ok-rows.rows)) c.in_ok-rows.ensures.kind)

pub returns-clause-part : goal.returns-clause-part
returns-clause-part g c =
    subst (λ (name : List ℕ). ReadsPart (TABLE_MOST + 1) (g.T.Source.holds c.args.tables.now) name (g.T.Source.left c.read_file.new.shelf)) (c.as_str.ensures.value ∙ c.in_ok-name.ensures) c.in_ok-text.ensures.part
