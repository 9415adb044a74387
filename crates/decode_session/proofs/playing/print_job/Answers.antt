use Rattle.std.proofs.Common.{◌≡◌, take, subst, arith}
use Rattle.decode_session.specs.Turns.{Prints, PrintsPart}
use Rattle.decode_session.proofs.TurnFacts.{on-err, on-ok}
use Rattle.decode_session.proofs.playing.print_job.Goals as goal

pub returns-then-count-job-clause-done : goal.returns-then-count-job-clause-done
returns-then-count-job-clause-done g c =
    let job = c.args.job.now in
    on-ok c.write_each-written.result _ _
    (λ done start come m serves.
    let (after, still, prints) = done m serves in
    (after, still, (take c.read_packets-count.result.0 job.stretch.packets, c.read_packets-count.ensures.reads start job.number job.stretch.packets c.requires.job.are_packets c.requires.job.few come, prints)))
    c.write_each-written.ensures.done

pub returns-then-count-job-clause-part : goal.returns-then-count-job-clause-part
returns-then-count-job-clause-part g c =
    let job = c.args.job.now in
    on-err c.write_each-written.result _ _
    (λ part start m come serves.
    (take c.read_packets-count.result.0 job.stretch.packets, c.read_packets-count.ensures.reads start job.number job.stretch.packets c.requires.job.are_packets c.requires.job.few come, part m serves))
    c.write_each-written.ensures.part

pub returns-clause-done : goal.returns-clause-done
returns-clause-done g c =
    let db = g.P.Structures.tables c.args.plans.now in
    let job = c.args.job.now in
    let same : job.drawn ≡ c.read_packets-count.result.0 = let few = c.read_packets-count.ensures.few in let all = c.if-count-job.false in omega arith in
    on-ok c.write_sheet.result _ _
    (λ done start come m serves.
    let (after, still, prints) = done m serves in (
      after,
      still,
      (
        take c.read_packets-count.result.0 job.stretch.packets,
        c.read_packets-count.ensures.reads start job.number job.stretch.packets c.requires.job.are_packets c.requires.job.few come,
        subst (λ k. Prints db job.number (take k job.stretch.packets) m after (g.O.Sink.written c.args.out.now) (g.O.Sink.written c.write_sheet.new.out)) same prints,
      ),
    ))
    c.write_sheet.ensures.done

pub returns-clause-part : goal.returns-clause-part
returns-clause-part g c =
    let db = g.P.Structures.tables c.args.plans.now in
    let job = c.args.job.now in
    let same : job.drawn ≡ c.read_packets-count.result.0 = let few = c.read_packets-count.ensures.few in let all = c.if-count-job.false in omega arith in
    on-err c.write_sheet.result _ _
    (λ part start m come serves. (
      take c.read_packets-count.result.0 job.stretch.packets,
      c.read_packets-count.ensures.reads start job.number job.stretch.packets c.requires.job.are_packets c.requires.job.few come,
      subst (λ k. PrintsPart db job.number (take k job.stretch.packets) m (g.O.Sink.written c.args.out.now) (g.O.Sink.written c.write_sheet.new.out)) same (part m serves),
    ))
    c.write_sheet.ensures.part

pub returns-then-count-job-clause-some : goal.returns-then-count-job-clause-some
returns-then-count-job-clause-some g c = λ paused. let all = c.read_packets-count.ensures.all paused in let less = c.if-count-job.true in absurd (omega arith)
