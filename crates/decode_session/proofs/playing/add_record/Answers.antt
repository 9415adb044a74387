use Rattle.decode_session.specs.Finishing.{standing}
use Rattle.decode_session.proofs.FinishFacts.{comes-to, exactly, step-leaves, step-text}
use Rattle.decode_session.proofs.playing.add_record.Goals as goal
use Rattle.edition_plans.specs.Params.{param_slices}
use Rattle.param_state.specs.Demands.{asked_in}
use Rattle.mib_model.specs.Interpreter.{course_after, stamped_first}
use Rattle.std.proofs.Common.{refl}

pub returns-clause-finishes : goal.returns-clause-finishes
returns-clause-finishes g c = λ m serves.
    let db = g.P.Structures.tables c.args.plans.now in
    let packet = c.args.packet.now in
    let course = standing 1 db m in
    let s = stamped_first db (c.args.number, packet) in
    let step = c.finish.ensures.step (asked_in (param_slices db)) m course s c.requires.demands serves (comes-to 1 db m c.args.number packet packet refl) in
    let after = (course_after course s).memory in
    (after, step.memory, record { leaves = step-leaves 1 db m after c.args.number packet _ _ (exactly step); text = step-text 1 db m after c.args.number packet _ _ (exactly step) })
