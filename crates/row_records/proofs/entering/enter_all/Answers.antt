use Rattle.std.proofs.Common.{◌∙◌, ap, arith, sym}
use Rattle.std.proofs.lemmas.List.{take_all}
use Rattle.mib_model.specs.declared.packet.Value.{Value}
use Rattle.mib_model.specs.Kept.{Memory, all_entered, entered}
use Rattle.row_interpreter.specs.Memories.{memory_of}
use Rattle.row_records.proofs.ListFacts.{fold-more}
use Rattle.row_records.proofs.entering.enter_all.Goals as goal

pub loop-value-preserved : goal.loop-value-preserved
loop-value-preserved c =
    c.in_ok-enter.ensures ∙ (ap (λ (m : Memory). entered m c.value-item.result) c.loop-value.invariant
    ∙ sym (fold-more entered (memory_of c.args.memory.now) c.args.values.now c.loop-value.value-index c.value-item.result c.loop-value-test.true c.value-item.is))

pub returns : goal.returns
returns c =
    c.loop-value.invariant ∙ ap (all_entered (memory_of c.args.memory.now)) (take_all c.loop-value.value-index c.args.values.now (omega (arith, c.loop-value-test.false)))
