use Rattle.fold_state.specs.Boards.{memory_of}
use Rattle.packet_run.specs.Told.{member}
use Rattle.page_watch.proofs.StandingFacts.{pager-stands-on}
use Rattle.run_pages.proofs.bound.BoundPagerWatch.committed.Goals as goal

pub returns : goal.returns
returns g c = record {
  stands = λ told h. pager-stands-on c.args.self.now.pager c.show.new.self (member c.args.number c.args.edition (memory_of c.args.board.now))
      c.show.ensures.names c.show.ensures.last c.show.ensures.pages told h;
}
