use Rattle.std.proofs.Common.{ap, subst, sym, arith}
use Rattle.std.specs.Io.KnownBytes.{Appends}
use Rattle.decode_session.specs.Ahead.{AreDealt, Come, packets_from}
use Rattle.decode_session.specs.Finishing.{Leads}
use Rattle.decode_session.specs.Turns.{PrintsNext, StopsNext}
use Rattle.decode_session.proofs.AheadFacts.{under}
use Rattle.decode_session.proofs.TurnFacts.{batch-prints, batch-stops, on-err, on-ok}
use Rattle.decode_session.proofs.run.print_next.Goals as goal
use Rattle.fold_state.specs.Boards.{memory_of}
use Rattle.packet_feed.specs.Feed.{source_of}
use Rattle.tm_io.specs.Octets.{AppendsPrefix}

pub returns-in-Some-clause-done : goal.returns-in-Some-clause-done
returns-in-Some-clause-done g c =
    let db = g.P.Structures.tables c.args.plans.now in
    let left = g.S.Source.left (source_of c.args.feed.now) in
    let n = c.args.number in
    let same = ap (λ v. v.items) c.pass.ensures in
    let dealt = subst (AreDealt db n) (sym same) c.requires.dealt in
    on-ok c.print_job.result.2 _ _
    (λ done start come. subst (λ k. Leads db (memory_of c.args.stock.now.board) (memory_of c.print_job.new.board)
    (λ m after. PrintsNext c.print_job.result.1 db start k c.print_job.result.0 left (g.S.Source.left (source_of c.print_job.new.feed)) m after (g.O.Sink.written c.args.out.now) (g.O.Sink.written c.print_job.new.out)))
    c.in-Some.ensures.number (done start (under start _ _ (λ told. c.in-Some.ensures.come db left dealt (subst (λ jobs. Come (packets_from n jobs) left) (sym same) told)) come)))
    c.print_job.ensures.done

pub returns-in-Some-clause-part : goal.returns-in-Some-clause-part
returns-in-Some-clause-part g c =
    let db = g.P.Structures.tables c.args.plans.now in
    let left = g.S.Source.left (source_of c.args.feed.now) in
    let n = c.args.number in
    let same = ap (λ v. v.items) c.pass.ensures in
    let dealt = subst (AreDealt db n) (sym same) c.requires.dealt in
    on-err c.print_job.result.2 _ _
    (λ part start m come serves. subst (λ k. StopsNext c.print_job.result.1 db start k c.print_job.result.0 left (g.S.Source.left (source_of c.print_job.new.feed)) m (g.O.Sink.written c.args.out.now) (g.O.Sink.written c.print_job.new.out))
    c.in-Some.ensures.number (part start m (under start _ _ (λ told. c.in-Some.ensures.come db left dealt (subst (λ jobs. Come (packets_from n jobs) left) (sym same) told)) come) serves))
    c.print_job.ensures.part

pub returns-clause-done : goal.returns-clause-done
returns-clause-done g c =
    let db = g.P.Structures.tables c.args.plans.now in
    on-ok c.write_all.result _ _
    (λ wrote start come m serves.
    let (after, still, batch) = c.add_batch-next.ensures.adds m serves in (
      after,
      still,
      batch-prints c.add_batch-next.result.1 db c.args.number c.add_batch-next.result.0 start _ _ _ _ m after c.add_batch-next.new.lines batch
          (subst (Appends (g.O.Sink.written c.args.out.now) (g.O.Sink.written c.write_all.new.out)) c.bytes.ensures wrote),
    ))
    c.write_all.ensures.all

pub returns-clause-part : goal.returns-clause-part
returns-clause-part g c =
    let db = g.P.Structures.tables c.args.plans.now in
    on-err c.write_all.result _ _
    (λ stopped start m come serves.
    let (after, still, batch) = c.add_batch-next.ensures.adds m serves in
    batch-stops c.add_batch-next.result.1 db c.args.number c.add_batch-next.result.0 start _ _ _ _ m after c.add_batch-next.new.lines batch
    (subst (AppendsPrefix (g.O.Sink.written c.args.out.now) (g.O.Sink.written c.write_all.new.out)) c.bytes.ensures stopped))
    c.write_all.ensures.part

pub returns-in-Some-clause-some : goal.returns-in-Some-clause-some
returns-in-Some-clause-some g c = λ paused. let more = c.print_job.ensures.some paused in let same = c.in-Some.ensures.number in omega arith
