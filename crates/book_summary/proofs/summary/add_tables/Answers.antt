use Rattle.std.proofs.Common.{◌∙◌, ◌++◌, ap, sym, take, get_or}
use Rattle.std.proofs.lemmas.List.{take_more, flat_map_more}
use Rattle.std.specs.List.{flat_map}
use Rattle.mib_model.specs.declared.kind.Kind.TheVariants as kind
use Rattle.mib_model.specs.Kinds.{kinds}
use Rattle.mib_model.specs.Summaries.{count_line}
use Rattle.book_summary.proofs.summary.add_tables.Goals as goal

pub loop-kind-preserved : goal.loop-kind-preserved
loop-kind-preserved c =
    let line = count_line c.args.book.now in
    let before = c.args.out.now.items in
    let i = c.loop-kind.kind-index in
    c.in_ok-add_table.ensures ∙ (ap (λ text. text ++ line (get_or kinds i kind.Pcf)) c.loop-kind.invariant ∙ (flat_map_more line before (take i kinds) (get_or kinds i kind.Pcf)
    ∙ ap (λ ks. before ++ flat_map line ks) (sym (take_more kinds i kind.Pcf c.loop-kind-test.true))))
