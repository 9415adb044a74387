use Rattle.std.proofs.Common.{◌∙◌, ap}
use Rattle.mib_keys.proofs.FlawFacts.{ok-agree}
use Rattle.mib_keys.proofs.KeptFacts.{flaws-read-alone}
use Rattle.mib_model.specs.declared.database.Database.{Database}
use Rattle.mib_model.specs.Points.{first_of}
use Rattle.mib_model.specs.Soundness.{flaws_of}
use Rattle.mib_tables.specs.declared.table_set.TableSet.{TableSet}
use Rattle.mib_tables.specs.Parts.{part_of}
use Rattle.mib_keys.proofs.beside.part_flaw.Goals as goal

pub returns : goal.returns
returns c =
    let book = c.args.book.now in
    let kind = c.args.kind in
    let part = c.in_ok-index.ensures ∙ c.in_ok-part.ensures ∙ ap (λ (set : TableSet). part_of set book) c.tables_read.ensures in
    ok-agree c.index_kind_flaw.result _ _ (ap (λ (db : Database). first_of (flaws_of db kind)) part ∙ ap first_of (flaws-read-alone book kind)) c.index_kind_flaw.ensures
