use Rattle.page_files.proofs.PageTexts.{caused-by, named-by, refused-by}
use Rattle.page_files.proofs.page_file.read_names.Goals as goal

pub returns-clause-names : goal.returns-clause-names
returns-clause-names g c =
    named-by c.names_by.result (g.S.Source.left c.args.source.now) c.deref.result.now (rw c.deref.ensures.value c.in_ok-text.ensures.told) c.names_by.ensures.names

pub returns-clause-refused : goal.returns-clause-refused
returns-clause-refused g c =
    refused-by c.names_by.result (g.S.Source.left c.args.source.now) c.deref.result.now (rw c.deref.ensures.value c.in_ok-text.ensures.told) c.names_by.ensures.refused

pub returns-clause-cause : goal.returns-clause-cause
returns-clause-cause g c = caused-by c.names_by.result c.deref.result.now _ _ c.in_ok-text.ensures.ok c.names_by.ensures.refused
