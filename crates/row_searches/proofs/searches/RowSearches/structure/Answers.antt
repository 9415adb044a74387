use Rattle.std.proofs.Common.{◌≡◌, ◌∙◌, ap, arith, of_z, to_z}
use Rattle.std.specs.Int.{w128}
use Rattle.std.proofs.lemmas.Int.{ints}
use Rattle.mib_model.specs.Structures.{structure}
use Rattle.row_searches.proofs.NestingFacts.{structure-nested}
use Rattle.row_searches.proofs.searches.RowSearches.structure.Goals as goal

pub returns-clause-nested : goal.returns-clause-nested
returns-clause-nested c =
    let same : to_z w128 (of_z w128 c.args.tpsd) ≡ c.args.tpsd = omega (arith, ints) in
    structure-nested c.args.self.now c.is_sound.ensures c.args.tpsd c.rows_of.result.now (c.rows_of.ensures ∙ ap (structure c.args.self.now) same)
