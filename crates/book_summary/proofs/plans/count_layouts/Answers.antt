use Rattle.std.proofs.Common.{rules, tests}
use Rattle.std.proofs.lemmas.Iterator.{YieldsList-from_slice}
use Rattle.std.proofs.lemmas.Iterator.Consumers.{YieldsList-from_filter, count_from_yields_List}
use Rattle.mib_model.specs.Fixed.{has_layout}
use Rattle.book_summary.proofs.plans.count_layouts.Goals as goal

pub returns-clause-count : goal.returns-clause-count
returns-clause-count c =
    count_from_yields_List c.filter.result c.count.result c.count.ensures.ran
    (YieldsList-from_filter _ has_layout (YieldsList-from_slice c.args.rows.now (cc)) c.filter.ensures.closure (λ x b q k. search (rules, tests)))
