use Rattle.std.proofs.Common.{rules, tests}
use Rattle.std.proofs.lemmas.Iterator.{YieldsList-from_slice, YieldsList-from_map}
use Rattle.std.proofs.lemmas.Iterator.Adapters.{fact_from_collect}
use Rattle.std.specs.BTreeSet.{IsFromIterResult}
use Rattle.std.specs.Ordering.{nat_cmp}
use Rattle.mib_model.specs.declared.rows.VpdRow.{VpdRow}
use Rattle.book_summary.proofs.plans.structures.Goals as goal

pub returns : goal.returns
returns c =
    fact_from_collect (IsFromIterResult nat_cmp) c.collect.result c.collect.ensures.ran
    (YieldsList-from_map _ (λ (row : VpdRow). row.tpsd) (YieldsList-from_slice c.args.rows.now (cc)) c.map.ensures.closure (λ x r q k. search (rules, tests)))
