use Rattle.std.proofs.Common.{◌≡◌, ℕ, List, length, take, drop, ap, ◌∙◌, arith}
use Rattle.std.proofs.lemmas.List.{take_at}
use Rattle.decode_session.specs.Finishing.{standing}
use Rattle.decode_session.proofs.FinishFacts.{comes-to, exactly}
use Rattle.decode_session.proofs.TurnFacts.{adds-one}
use Rattle.decode_session.proofs.alone.add_next.Goals as goal
use Rattle.edition_plans.specs.Params.{param_slices}
use Rattle.param_state.specs.Demands.{asked_in}
use Rattle.mib_model.specs.Interpreter.{course_after, stamped_first}

pub returns-in-Packet-clause-adds : goal.returns-in-Packet-clause-adds
returns-in-Packet-clause-adds g c =
    let db = g.P.Structures.tables c.args.plans.now in
    let packet = take c.in-Packet.octets c.next.new.into in
    let frame = c.args.room.now.frame in
    let size : length c.next.new.into ≡ frame.len = omega (arith, c.next.auto.into, c.deref_mut.ensures.len) in
    let whole = take_at c.next.new.into (drop (length c.next.new.into) frame.items) frame.len size in
    let same = ap (λ (l : List ℕ). take c.in-Packet.octets l) (c.deref.ensures.value ∙ whole) in λ m serves.
    let course = standing 1 db m in
    let s = stamped_first db (c.args.number, packet) in
    let step = c.finish.ensures.step (asked_in (param_slices db)) m course s c.requires.demands serves (comes-to 1 db m c.args.number packet _ same) in (
      (course_after course s).memory,
      step.memory,
      (packet, adds-one db c.args.number packet _ _ m _ _ _ c.in-Packet.ensures.gives.1 c.in-Packet.ensures.gives.2 (exactly step)),
    )
