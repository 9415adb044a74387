use Rattle.std.proofs.Common.{◌≡◌, ◌∙◌, map, sym}
use Rattle.mib_model.specs.Plans.{type_item}
use Rattle.numbered_plans.proofs.StructureFacts.{structures-alike}
use Rattle.numbered_plans.proofs.structures.StructureNumberedPlan.are_alike.Goals as goal

pub returns-then-are_same : goal.returns-then-are_same
returns-then-are_same c = λ holds tpsd.
    let vpd : c.args.old.now.vpd ≡ c.args.book.now.vpd = sym c.vpd.ensures.rows ∙ c.are_same.ensures c.if-are_same.true ∙ c.vpd-2.ensures.rows in
    let types : map type_item c.args.old.now.pcf ≡ map type_item c.args.book.now.pcf =
    (λ i. map type_item (sym c.pcf.ensures.rows i)) ∙ c.are_types_same.ensures holds ∙ (λ i. map type_item (c.pcf-then-are_same.ensures.rows i)) in
    structures-alike c.args.old.now c.args.book.now vpd types tpsd
