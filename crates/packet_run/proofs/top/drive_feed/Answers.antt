use Rattle.packet_run.proofs.Common.{begun, first_of, own_moves, refl}
use Rattle.packet_run.proofs.EndFacts.{drove_home}
use Rattle.packet_run.proofs.PipingFacts.{piping_start}
use Rattle.packet_run.proofs.top.drive_feed.Goals as goal

pub finish_run-ended-requires-clause-read : goal.finish_run-ended-requires-clause-read
finish_run-ended-requires-clause-read g c is =
    let from = begun (first_of c.args.intake.now.register.now) c.args.watch.now (g.O.Sink.written c.args.out.now) in
    (rw is at (c.run_feed-until.ensures.fed from refl (piping_start c.requires.unused c.requires.in_use)).ends).0

pub returns-clause-drove : goal.returns-clause-drove
returns-clause-drove g c =
    let from = begun (first_of c.args.intake.now.register.now) c.args.watch.now (g.O.Sink.written c.args.out.now) in
    let fed = c.run_feed-until.ensures.fed from refl (piping_start c.requires.unused c.requires.in_use) in
    drove_home c.call_home.ensures.keeps c.call_home.ensures.put c.end_all.ensures.puts
    (c.finish_run-ended.ensures.drove from (own_moves c.run_feed-until.new.seat) _ _ _ _ c.run_feed-until.ensures.causes.0 fed)
