use Rattle.std.proofs.Common.{◌≡◌, length, ap, sym, subst, arith}
use Rattle.decode_session.specs.Ahead.{Come, packets_from, packets_of}
use Rattle.decode_session.proofs.AheadFacts.{came_back, come-hand, dealt-first}
use Rattle.decode_session.proofs.ahead.DrawnAhead.draw.Goals as goal
use Rattle.packet_feed.specs.Feed.{source_of}

pub returns-clause-come : goal.returns-clause-come
returns-clause-come g c = λ told.
    let db = g.P.Structures.tables c.args.plans.now in
    let left = g.S.Source.left (source_of c.args.feed.now) in
    let number = c.args.number in
    let old = c.args.self.now.jobs in
    let drawn = c.draw_jobs-self.new.jobs in
    let same : length drawn ≡ length old.items = let lent = ap (λ l. length l) c.deref_mut.ensures.value in let kept = c.draw_jobs-self.ensures.length in omega arith in
    let back = came_back old.items drawn old.len same (omega (arith, old.ok.0)) in
    subst (λ jobs. Come (packets_from number jobs) left) (sym back)
    (subst (λ packets. Come packets left) (sym (dealt-first db number drawn c.draw_jobs-self.ensures.jobs).1)
    (come-hand (packets_of drawn) (packets_from number old.items) left c.at_hand-octets.result.now told c.at_hand-octets.ensures c.draw_jobs-self.ensures.octets))
