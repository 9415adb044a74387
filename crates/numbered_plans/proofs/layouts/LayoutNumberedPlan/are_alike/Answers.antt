use Rattle.std.proofs.Common.{◌≡◌, ◌∙◌, map, sym}
use Rattle.mib_model.specs.Plans.{type_item}
use Rattle.numbered_plans.proofs.LayoutFacts.{layouts-alike}
use Rattle.numbered_plans.proofs.layouts.LayoutNumberedPlan.are_alike.Goals as goal

pub returns-then-are_placed_alike : goal.returns-then-are_placed_alike
returns-then-are_placed_alike c = λ holds spid.
    let placed = c.are_placed_alike.ensures c.if-are_placed_alike.true in
    let types : map type_item c.args.old.now.pcf ≡ map type_item c.args.book.now.pcf =
    (λ i. map type_item (sym c.pcf.ensures.rows i)) ∙ c.are_types_same.ensures holds ∙ (λ i. map type_item (c.pcf-then-are_placed_alike.ensures.rows i)) in
    layouts-alike c.args.old.now c.args.book.now placed.0 placed.1 types spid
