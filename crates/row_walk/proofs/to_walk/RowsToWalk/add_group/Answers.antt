use Rattle.std.proofs.Common.{◌≡◌, ◌≤◌, ℕ, List, arith, drop, length, subst, sym, take}
use Rattle.mib_model.specs.declared.rows.VpdRow.{VpdRow}
use Rattle.row_searches.specs.Nesting.{AreNested}
use Rattle.row_walk.proofs.ToWalkFacts.{holds-few, nested-drop, nested-take}
use Rattle.row_walk.proofs.to_walk.RowsToWalk.add_group.Goals as goal

pub split_at-requires : goal.split_at-requires
split_at-requires c = let few = holds-few c.args.size c.args.rows.now c.requires.holds in omega (arith, few, c.from.ensures)

pub add-requires : goal.add-requires
add-requires c = subst AreNested (sym c.split_at.ensures.back) (nested-drop c.from.result c.args.rows.now c.requires.nested)

pub add-requires-2 : goal.add-requires-2
add-requires-2 c =
    let size : c.args.size ≡ c.from.result = omega (arith, c.from.ensures) in
    subst AreNested (sym c.split_at.ensures.front)
    (subst (λ (n : ℕ). AreNested (take n c.args.rows.now)) size (nested-take c.args.size c.args.rows.now c.requires.holds c.requires.nested))
