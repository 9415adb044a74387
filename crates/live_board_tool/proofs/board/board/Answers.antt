use Rattle.std.proofs.Common.{ℕ, List, None, option_map, refl, subst}
use Rattle.std.proofs.lemmas.Option.{IfSome_then}
use Rattle.edition_register.specs.Seats.{history_of}
use Rattle.page_texts.specs.declared.code.BoardCode.TheVariants as code
use Rattle.tool_objects.specs.Objects.{shelf, sink}
use Rattle.tool_words.specs.Boards.{words_by}
use Rattle.live_board_tool.specs.Board.{RanBy}
use Rattle.live_board_tool.proofs.BoardFacts.{boarded}
use Rattle.live_board_tool.proofs.board.board.Goals as goal

pub returns-in-Ok-open_display-clause-boards : goal.returns-in-Ok-open_display-clause-boards
returns-in-Ok-open_display-clause-boards g c =
    let at = c.open_inputs.new in let ran = c.run_picked in let closed = option_map history_of ran.result.closed in
    let out = sink c.args.out.now ran.new.out g.O.Sink.written g.O.Sink.handed g.O.Sink.faults in
    let replies = sink c.args.replies.now ran.new.replies g.R.Sink.written g.R.Sink.handed g.R.Sink.faults in
    let screen = sink c.args.screen.now ran.new.screen g.S.Sink.written g.S.Sink.handed g.S.Sink.faults in
    boarded c.args.feed.now at.feed ran.new.feed c.args.desk.now at.desk ran.new.desk
    g.F.Source.holds g.F.Source.left g.F.Source.faults g.F.Source.missed g.D.Source.holds g.D.Source.left g.D.Source.faults g.D.Source.missed
    ran.result.code (words_by c.args.call.now.request) c.in-Ok.first c.in-Ok.names.items
    (shelf c.args.tables.now at.tables g.T.Source.holds g.T.Source.left g.T.Source.faults g.T.Source.missed)
    (shelf c.args.page.now at.page g.P.Source.holds g.P.Source.left g.P.Source.faults g.P.Source.missed)
    out replies screen closed c.in-Ok.ensures.opened
    (subst (λ (names : List (List ℕ)). RanBy ran.result.code closed c.in-Ok.first names
    (shelf at.feed ran.new.feed g.F.Source.holds g.F.Source.left g.F.Source.faults g.F.Source.missed)
    (shelf at.desk ran.new.desk g.D.Source.holds g.D.Source.left g.D.Source.faults g.D.Source.missed) out replies screen)
    c.in-Ok-open_display.ensures.names ran.ensures.ran)

pub returns-in-Ok-open_display-clause-numbers : goal.returns-in-Ok-open_display-clause-numbers
returns-in-Ok-open_display-clause-numbers g c =
    IfSome_then c.run_picked.result.closed c.run_picked.ensures.numbers (λ told ends. (c.in-Ok.first, ends))

pub returns-in-Err-open_display-clause-boards : goal.returns-in-Err-open_display-clause-boards
returns-in-Err-open_display-clause-boards g c =
    let at = c.open_inputs.new in
    rw (c.unopened.ensures.code, c.unopened.ensures.closed)
    (boarded c.args.feed.now at.feed at.feed c.args.desk.now at.desk at.desk
    g.F.Source.holds g.F.Source.left g.F.Source.faults g.F.Source.missed g.D.Source.holds g.D.Source.left g.D.Source.faults g.D.Source.missed
    code.Want (words_by c.args.call.now.request) c.in-Ok.first c.in-Ok.names.items
    (shelf c.args.tables.now at.tables g.T.Source.holds g.T.Source.left g.T.Source.faults g.T.Source.missed)
    (shelf c.args.page.now at.page g.P.Source.holds g.P.Source.left g.P.Source.faults g.P.Source.missed)
    (sink c.args.out.now c.args.out.now g.O.Sink.written g.O.Sink.handed g.O.Sink.faults)
    (sink c.args.replies.now c.args.replies.now g.R.Sink.written g.R.Sink.handed g.R.Sink.faults)
    (sink c.args.screen.now c.args.screen.now g.S.Sink.written g.S.Sink.handed g.S.Sink.faults)
    None c.in-Ok.ensures.opened (refl, refl, refl, refl, refl, refl))
