use Rattle.std.proofs.Common.{◌≡◌, ℕ, ◌+◌, Option, IfSome, subst, drop, get_or, Ok, ◌∙◌, arith}
use Rattle.std.proofs.lemmas.Result.{err_from_is_err_and}
use Rattle.mib_model.specs.declared.kind.Kind.TheVariants as kind
use Rattle.mib_model.specs.declared.limits.TheConstants.{TABLE_MOST}
use Rattle.mib_model.specs.Kinds.{kinds}
use Rattle.session.specs.Sources.{Files, Fills, Refuses, database_in, read_in, table_file, table_text}
use Rattle.whole_texts.specs.Parts.{ReadsPart}
use Rattle.session.proofs.Filling.{Left, each_of, filled_at, loaded, refused_at, texts_in}
use Rattle.session.proofs.loading.load.Goals as goal

pub returns-in_err-load_table-clause-refused : goal.returns-in_err-load_table-clause-refused
returns-in_err-load_table-clause-refused g c =
    let folder = c.args.folder.now in
    let i = c.loop-table.table-index in
    let fault = c.in_err-load_table.field-0.0 in
    let p = err_from_is_err_and c.from_residual.result c.from_residual.ensures.1 in
    let Says : Files → Type 0 = λ files. Refuses fault (read_in files folder (get_or kinds i kind.Pcf)) in
    rw (p.1, p.2)
    (each_of (g.T.Source.holds c.args.tables.now) (λ files. Left (texts_in (table_text files folder)) (drop i kinds) c.loop-table.book) Says (λ files. Refuses fault (database_in files folder))
    (λ files. refused_at files folder i c.loop-table.book fault c.loop-table-test.true) c.loop-table.invariant.left
    (subst (λ (h : Option Files). IfSome h Says) c.loop-table.invariant.holds c.in_err-load_table.ensures.refused))

pub loop-table-preserved : goal.loop-table-preserved
loop-table-preserved g c =
    let folder = c.args.folder.now in
    let i = c.loop-table.table-index in
    let Filled : Files → Type 0 = λ files. Fills (get_or kinds i kind.Pcf) (read_in files folder (get_or kinds i kind.Pcf)) c.loop-table.book c.load_table.new.book in
    record {
      left = each_of (g.T.Source.holds c.args.tables.now) (λ files. Left (texts_in (table_text files folder)) (drop i kinds) c.loop-table.book) Filled
          (λ files. Left (texts_in (table_text files folder)) (drop (i + 1) kinds) c.load_table.new.book)
          (λ files. filled_at (texts_in (table_text files folder)) i c.loop-table.book c.load_table.new.book c.loop-table-test.true) c.loop-table.invariant.left
          (subst (λ (h : Option Files). IfSome h Filled) c.loop-table.invariant.holds c.in_ok-load_table.ensures.told);
      last = λ (j : ℕ) (is : i + 1 ≡ j + 1).
          let same : i ≡ j = omega (arith, is) in
          subst (λ (n : ℕ). ReadsPart (TABLE_MOST + 1) (g.T.Source.holds c.args.tables.now) (table_file folder (get_or kinds n kind.Pcf)) (g.T.Source.left c.load_table.new.tables)) same
          (subst (λ (h : Option Files). ReadsPart (TABLE_MOST + 1) h (table_file folder (get_or kinds i kind.Pcf)) (g.T.Source.left c.load_table.new.tables)) c.loop-table.invariant.holds
          c.in_ok-load_table.ensures.part);
      faults = c.in_ok-load_table.ensures.ok ∙ c.loop-table.invariant.faults;
      holds = c.load_table.ensures.holds ∙ c.loop-table.invariant.holds;
    }

pub returns-clause-told : goal.returns-clause-told
returns-clause-told g c =
    let folder = c.args.folder.now in
    let end : c.loop-table.table-index ≡ 15 = omega arith in
    let P : Files → Type 0 = λ files. Left (texts_in (table_text files folder)) (drop c.loop-table.table-index kinds) c.loop-table.book in
    each_of (g.T.Source.holds c.args.tables.now) P P (λ files. database_in files folder ≡ Ok c.loop-table.book)
    (λ files left same. loaded files folder c.loop-table.table-index c.loop-table.book end left) c.loop-table.invariant.left c.loop-table.invariant.left

pub returns-clause-last : goal.returns-clause-last
returns-clause-last g c = let end : c.loop-table.table-index ≡ 15 = omega arith in c.loop-table.invariant.last 14 end
