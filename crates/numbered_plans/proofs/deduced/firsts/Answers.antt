use Rattle.std.proofs.Common.{◌∙◌, List, Option, Some, None, arith, ap, sym, if◌then◌else◌}
use Rattle.std.proofs.lemmas.List.{take_all}
use Rattle.std.specs.Option.{option_eq, option_or}
use Rattle.std.specs.Ordering.{int_eq}
use Rattle.mib_model.specs.declared.plan.TypeItem.{TypeItem}
use Rattle.mib_model.specs.declared.rows.PcfRow.{PcfRow}
use Rattle.mib_model.specs.Plans.{type_item}
use Rattle.numbered_plans.proofs.StructureFacts.{item-more}
use Rattle.numbered_plans.specs.Structures.{item_numbered, number_of}
use Rattle.numbered_plans.proofs.deduced.firsts.Goals as goal

pub loop-row-preserved : goal.loop-row-preserved
loop-row-preserved c = λ pid.
    let row : PcfRow = c.row-item.result in
    let noted : Option TypeItem → Option TypeItem = λ before. option_or before (if option_eq int_eq (number_of row) (Some pid) then Some (type_item row) else None) in
    c.in_ok-note.ensures pid ∙ (ap noted (c.loop-row.invariant pid) ∙ sym (item-more pid c.args.parameters.now c.loop-row.row-index row c.loop-row-test.true c.row-item.is))

pub returns : goal.returns
returns c = λ pid.
    let done = c.loop-row-test.false in
    c.loop-row.invariant pid ∙ ap (λ (rows : List PcfRow). item_numbered rows pid) (take_all c.loop-row.row-index c.args.parameters.now (omega arith))
