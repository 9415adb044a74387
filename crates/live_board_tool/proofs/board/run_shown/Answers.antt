use denote.Param.{param}
use denote.Param.Send.{IsSend, IsSync, sendable}
use Rattle.std.proofs.Common.{rules, ◌≡◌, List, subst}
use Rattle.std.proofs.Crossing.{crosses}
use Rattle.live_session.specs.Live.{IsWatched, Object, object}
use Rattle.run_model.specs.declared.code.Code.{Code}
use Rattle.mib_model.specs.declared.database.Database.{Database}
use Rattle.run_model.specs.RegisterHistories.{RegisterHistory}
use Rattle.packet_run.specs.Told.{Member}
use Rattle.page_screen.proofs.display.Display.TheSendSync as display
use Rattle.live_board_tool.proofs.board.run_shown.Given.{Over}
use Rattle.live_board_tool.proofs.board.run_shown.Goals as goal
use Rattle.live_board_tool.proofs.board.run_shown.Lts.{arg-1-1}
use Rattle.live_board_tool.specs.contracts.board.run_shown.{S-row, X-row}

-- what the closure of the display captures may go to another thread
captured-send : (g : Over) (κs : _) → IsSend (S-row g.row.X g.row.F g.row.D g.row.O g.row.R g.row.S g.row.G g.row.W) → IsSync (X-row g.row.X g.row.F g.row.D g.row.O g.row.R g.row.S g.row.G g.row.W)
    → IsSend (param 1 (arg-1-1 g.row.X g.row.F g.row.D g.row.O g.row.R g.row.S g.row.G g.row.W g.X.laws g.F.laws g.D.laws g.O.laws g.R.laws g.S.laws g.G.laws g.W.laws g.X.Threads-dict g.X.Wait-dict g.F.Source-dict g.D.Source-dict g.O.Sink-dict g.R.Sink-dict g.S.Sink-dict g.G.Gate-dict g.W.Watch-dict g.W.Destruct-dict κs))
captured-send g κs s x = search (display.the_send, crosses, sendable) depth 60 fits 20000

pub join_mut-shown-requires-send-F : goal.join_mut-shown-requires-send-F
join_mut-shown-requires-send-F g c κs within = captured-send g κs c.type_bounds.send-S c.type_bounds.sync-X

-- a watched run is one of objects that are the same
watched-as : {W : Type 0} {stands : W → List Member → Type 0} {code : Code} {first : Database} {history : RegisterHistory} {watch end : W} {a b d e : Object} (feed desk out replies : Object)
    → IsWatched stands code first history feed desk out replies watch end → feed ≡ a → desk ≡ b → out ≡ d → replies ≡ e → IsWatched stands code first history a b d e watch end
watched-as {stands = stands} {code = code} {first = first} {history = history} {watch = watch} {end = end} feed desk out replies watched is_feed is_desk is_out is_replies =
    subst (λ (x : Object × Object × Object × Object). IsWatched stands code first history x.0 x.1 x.2 x.3 watch end) (λ i. (is_feed i, is_desk i, is_out i, is_replies i)) watched

pub returns-clause-leaves : goal.returns-clause-leaves
returns-clause-leaves g c =
    let at = c.join_mut-shown.new.g in
    record {
      watched =
          watched-as (object (g.F.Source.left c.args.feed.now) (g.F.Source.left at.3.now) (g.F.Source.faults c.args.feed.now) (g.F.Source.faults at.3.now))
          (object (g.D.Source.left c.args.desk.now) (g.D.Source.left at.4.now) (g.D.Source.faults c.args.desk.now) (g.D.Source.faults at.4.now))
          (object (g.O.Sink.written c.args.out.now) (g.O.Sink.written at.5.now) (g.O.Sink.faults c.args.out.now) (g.O.Sink.faults at.5.now))
          (object (g.R.Sink.written c.args.replies.now) (g.R.Sink.written at.6.now) (g.R.Sink.faults c.args.replies.now) (g.R.Sink.faults at.6.now))
          (search rules) (search rules) (search rules) (search rules) (search rules);
      handed = search rules;
      replied = search rules;
      numbers = search rules;
      feed_holds = search rules;
      feed_turned = search rules;
      desk_holds = search rules;
      desk_turned = search rules;
    }
