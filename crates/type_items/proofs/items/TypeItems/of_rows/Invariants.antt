use Rattle.std.proofs.Common.{◌≡◌, take, map}
use Rattle.type_items.specs.Items.{items_of}
use Rattle.type_items.proofs.items.TypeItems.of_rows.Given as goal

abbrev pub invariant-loop-row : goal.invariant-loop-row
invariant-loop-row g l = l.items.items ≡ items_of l.self (map g.R.Named.name_of (take l.row-index l.rows))
