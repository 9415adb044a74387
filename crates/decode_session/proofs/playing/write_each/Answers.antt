use Rattle.std.proofs.Common.{◌≡◌, ◌+◌, ◌<◌, List, ℕ, [], length, take, refl, subst, ◌∙◌, arith}
use Rattle.std.specs.Io.KnownBytes.{Appends}
use Rattle.decode_session.specs.Finishing.{Finishes, Leads}
use Rattle.decode_session.specs.Turns.{Prints}
use Rattle.decode_session.proofs.TurnFacts.{prints-more, prints-none, prints-stopped}
use Rattle.decode_session.proofs.playing.write_each.Goals as goal
use Rattle.fold_state.specs.Boards.{memory_of}
use Rattle.mib_model.specs.Interpreter.{stamped_first}
use Rattle.tm_io.specs.Octets.{AppendsPrefix}

pub loop-k-init : goal.loop-k-init
loop-k-init g c = record {
  board = refl;
  done = λ m serves. (m, serves, prints-none (g.P.Structures.tables c.args.plans.now) c.args.job.now.number m (g.O.Sink.written c.args.out.now));
  cause = refl;
}

pub loop-k-preserved : goal.loop-k-preserved
loop-k-preserved g c =
    let db = g.P.Structures.tables c.args.plans.now in
    let packets = c.args.job.now.stretch.packets in
    let k = c.loop-k.k in
    let below : k < length packets = let few = c.requires.count in let more = c.loop-k-test.true in omega arith in
    record {
      board = c.add_record.ensures.board ∙ c.loop-k.invariant.board;
      done = λ m serves.
          let (middle, serves', first) = c.loop-k.invariant.done m serves in
          let (after, still, next) = c.add_record.ensures.finishes middle serves' in (
            after,
            still,
            prints-more db c.args.job.now.number packets k _ c.packet.result.now m middle after c.add_record.new.lines _ _ _ below (omega arith) (c.packet.ensures.packet [])
                first (subst (λ (l : List ℕ). Finishes 1 db (stamped_first db (c.args.job.now.number + k, c.packet.result.now)) l c.add_record.new.lines middle after) c.clear.ensures next)
                (subst (Appends (g.O.Sink.written c.loop-k.out) (g.O.Sink.written c.write_all.new.out)) c.bytes.ensures c.in-Ok.ensures.all),
          );
      cause = c.in-Ok.ensures.cause.ok ∙ c.loop-k.invariant.cause;
    }

pub returns-in_default-clause-part : goal.returns-in_default-clause-part
returns-in_default-clause-part g c = λ m serves.
    let db = g.P.Structures.tables c.args.plans.now in
    let packets = c.args.job.now.stretch.packets in
    let k = c.loop-k.k in
    let below : k < length packets = let few = c.requires.count in let more = c.loop-k-test.true in omega arith in
    let (middle, serves', first) = c.loop-k.invariant.done m serves in
    let (after, still, next) = c.add_record.ensures.finishes middle serves' in
    prints-stopped db c.args.job.now.number packets k _ c.packet.result.now m middle after c.add_record.new.lines _ _ _ below (omega arith) (c.packet.ensures.packet [])
    first (subst (λ (l : List ℕ). Finishes 1 db (stamped_first db (c.args.job.now.number + k, c.packet.result.now)) l c.add_record.new.lines middle after) c.clear.ensures next) c.args.count c.loop-k-test.true
    (subst (AppendsPrefix (g.O.Sink.written c.loop-k.out) (g.O.Sink.written c.write_all.new.out)) c.bytes.ensures c.in_default.ensures.part)

pub returns-clause-done : goal.returns-clause-done
returns-clause-done g c =
    let db = g.P.Structures.tables c.args.plans.now in
    let end : c.loop-k.k ≡ c.args.count = let over = c.loop-k-test.false in let within = c.loop-k.auto.k-end in omega arith in
    subst (λ n. Leads db (memory_of c.args.board.now) (memory_of c.loop-k.board)
    (λ memory after. Prints db c.args.job.now.number (take n c.args.job.now.stretch.packets) memory after (g.O.Sink.written c.args.out.now) (g.O.Sink.written c.loop-k.out))) end c.loop-k.invariant.done
