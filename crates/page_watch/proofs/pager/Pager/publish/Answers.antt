use Rattle.std.proofs.Common.{arith}
use Rattle.page_watch.specs.Ends.{last_of, names_of, pages_of}
use Rattle.page_watch.proofs.StandingFacts.{stands-published}
use Rattle.page_watch.proofs.pager.Pager.publish.Goals as goal

pub returns-then-self-clause-stands : goal.returns-then-self-clause-stands
returns-then-self-clause-stands g c =
    let self = c.args.self.now in let low = c.if-self.true in let number = self.publisher.number in
    stands-published (names_of self) (pages_of self) _ (last_of self) c.publish.ensures.pages (omega (arith, low, number))
