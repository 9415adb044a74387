use Rattle.std.proofs.Common.{◌≡◌, arith, length}
use Rattle.std.proofs.lemmas.Grind.{common_steps}
use Rattle.row_walk.proofs.ToWalkFacts.{no-rounds, no-rows}
use Rattle.row_walk.proofs.to_walk.RowsToWalk.add.Goals as goal

pub returns-then-is_empty : goal.returns-then-is_empty
returns-then-is_empty c =
    let none : length c.args.rows.now ≡ 0 = grind (arith, common_steps) in
    no-rows c.args.times c.args.rows.now c.args.self.now none
