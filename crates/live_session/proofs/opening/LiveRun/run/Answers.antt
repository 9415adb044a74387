use Rattle.std.proofs.Common.{rules, subst}
use Rattle.edition_register.specs.Seats.{history_of}
use Rattle.live_session.specs.Live.{IsWatched, Object, object}
use Rattle.live_session.specs.Opened.{first_in, watch_in}
use Rattle.live_session.proofs.opening.LiveRun.run.Goals as goal

pub returns : goal.returns
returns g c =
    let ran = c.run_opened in let left = ran.ensures.leaves in
    record {
      watched =
          subst (λ (desk : Object). IsWatched g.W.Watch.stands ran.result.lived.code (first_in c.args.self) (history_of ran.result.lived.closed)
          (object (g.F.Source.left c.args.feed.now) (g.F.Source.left ran.new.feed) (g.F.Source.faults c.args.feed.now) (g.F.Source.faults ran.new.feed)) desk
          (object (g.O.Sink.written c.args.out.now) (g.O.Sink.written ran.new.out) (g.O.Sink.faults c.args.out.now) (g.O.Sink.faults ran.new.out))
          (object (g.P.Sink.written c.args.replies.now) (g.P.Sink.written ran.new.replies) (g.P.Sink.faults c.args.replies.now) (g.P.Sink.faults ran.new.replies))
          (watch_in c.args.self) ran.result.watch) (search rules) left.watched;
      handed = left.handed;
      replied = left.replied;
      numbers = left.numbers;
      feed_holds = left.feed_holds;
      feed_turned = left.feed_turned;
      desk_holds = search rules;
      desk_turned = search rules;
    }
