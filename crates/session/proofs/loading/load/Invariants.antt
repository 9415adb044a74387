use Rattle.std.proofs.Common.{◌≡◌, ℕ, ◌+◌, IfSome, drop, get_or}
use Rattle.mib_model.specs.declared.kind.Kind.TheVariants as kind
use Rattle.mib_model.specs.declared.limits.TheConstants.{TABLE_MOST}
use Rattle.mib_model.specs.Kinds.{kinds}
use Rattle.session.specs.Sources.{table_file, table_text}
use Rattle.whole_texts.specs.Parts.{ReadsPart}
use Rattle.session.proofs.Filling.{Left, texts_in}
use Rattle.session.proofs.loading.load.Given as goal

abbrev pub invariant-loop-table : goal.invariant-loop-table
invariant-loop-table g l = record {
  left : IfSome (g.T.Source.holds l.initial.tables) (λ files. Left (texts_in (table_text files l.folder)) (drop l.table-index kinds) l.book);
  last : (i : ℕ) → l.table-index ≡ i + 1 → ReadsPart (TABLE_MOST + 1) (g.T.Source.holds l.initial.tables) (table_file l.folder (get_or kinds i kind.Pcf)) (g.T.Source.left l.tables);
  faults : g.T.Source.faults l.tables ≡ g.T.Source.faults l.initial.tables;
  holds : g.T.Source.holds l.tables ≡ g.T.Source.holds l.initial.tables;
}
