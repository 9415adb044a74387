use Rattle.std.proofs.Common.{rules, tests}
use Rattle.std.proofs.lemmas.Iterator.{items_from_collect, YieldsList-from_slice, YieldsList-from_map}
use Rattle.row_flaws.specs.Structures.{spot_of}
use Rattle.row_flaws.proofs.structures.spots_from.Goals as goal

pub returns : goal.returns
returns c = items_from_collect _ c.collect.ensures.ran (YieldsList-from_map _ spot_of (YieldsList-from_slice c.args.rows.now cc) c.map.ensures.closure (λ x r q k. search (rules, tests)))
