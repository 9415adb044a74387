use Rattle.std.proofs.Common.{◌≡◌, ◌++◌, take}
use Rattle.std.specs.List.{flat_map}
use Rattle.mib_model.specs.Summaries.{count_line}
use Rattle.book_summary.proofs.summary.add_tables.Given as goal

abbrev pub invariant-loop-kind : goal.invariant-loop-kind
invariant-loop-kind l = l.out.items ≡ l.initial.out.items ++ flat_map (count_line l.book) (take l.kind-index l.kind-items)
