use Rattle.std.proofs.Common.{◌∙◌, List, pos, ap, filter}
use Rattle.std.specs.Ordering.{int_eq}
use Rattle.mib_model.specs.declared.rows.VpdRow.{VpdRow}
use Rattle.mib_model.specs.Orders.{sorted_by_number}
use Rattle.mib_model.specs.Structures.{structure}
use Rattle.numbered_plans.proofs.structure_sources.StructureSources.new.Goals as goal

pub invariant_of-result : goal.invariant_of-result
unfolding structure
invariant_of-result c = (
  λ tpsd.
      ap (filter (λ (row : VpdRow). int_eq (pos row.tpsd) tpsd)) (c.in_ok-new.ensures ∙ c.deref.ensures.value)
      ∙ c.in_ok-sorted.ensures (λ (row : VpdRow). int_eq (pos row.tpsd) tpsd)
      ∙ ap (λ (rows : List VpdRow). sorted_by_number (λ row. row.pos) (filter (λ row. int_eq (pos row.tpsd) tpsd) rows)) c.vpd.ensures.rows,
  c.in_ok-new-2.ensures ∙ c.pcf.ensures.rows,
)
