use Rattle.std.proofs.Common.{◌∙◌, List, ap, length, filter, map}
use Rattle.mib_model.specs.declared.rows.PcfRow.{PcfRow}
use Rattle.mib_model.specs.declared.rows.PidRow.{PidRow}
use Rattle.mib_model.specs.declared.rows.VpdRow.{VpdRow}
use Rattle.mib_model.specs.Plans.{distinct, has_plan}
use Rattle.mib_model.specs.Fixed.{has_layout}
use Rattle.book_summary.proofs.PlanFacts.{plan-count}
use Rattle.book_summary.proofs.plans.count_plans.Goals as goal

pub returns : goal.returns
returns c =
    let parameters = c.count_parameters-parameters.ensures.count ∙ ap (λ (rows : List PcfRow). length (filter has_plan rows)) c.pcf.ensures.rows in
    let layouts = c.count_layouts-layouts.ensures.count ∙ ap (λ (rows : List PidRow). length (filter has_layout rows)) c.pid.ensures.rows in
    let structures = c.in_ok-structures.ensures.count ∙ ap (λ (rows : List VpdRow). length (distinct (map (λ (row : VpdRow). row.tpsd) rows))) c.vpd.ensures.rows in
    rw (parameters, layouts, structures) (plan-count c.args.book.now)
