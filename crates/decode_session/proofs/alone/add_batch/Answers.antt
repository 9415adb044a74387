use Rattle.std.proofs.Common.{◌≡◌, ◌+◌, ◌<◌, ℕ, List, [], ◌∷◌, ◌++◌, length, refl, sym, subst, ap, ◌∙◌, arith, length-append}
use Rattle.decode_session.specs.Batches.{EndsFeed}
use Rattle.decode_session.specs.Finishing.{Serves}
use Rattle.decode_session.proofs.BatchFacts.{batch-ends}
use Rattle.decode_session.proofs.TurnFacts.{adds-none, adds-more, adds-same}
use Rattle.decode_session.proofs.alone.add_batch.Goals as goal
use Rattle.packet_feed.specs.Feed.{source_of}

pub loop-next-init : goal.loop-next-init
loop-next-init g c =
    let db = g.P.Structures.tables c.args.plans.now in
    record {
      board = refl;
      adds = λ m serves. (m, serves, ([], adds-none db c.args.number (g.S.Source.left (source_of c.args.feed.now)) m _ c.clear.ensures, omega arith));
      limit = c.requires.number;
      order = omega arith;
      few = let begun = c.requires.some in omega arith;
      ahead = λ some. absurd (omega (arith, some));
      room = omega (arith, ap (λ (l : List ℕ). length l) c.clear.ensures);
      faults = refl;
      stays = (refl, refl, refl);
    }

pub returns-in-Some-clause-adds : goal.returns-in-Some-clause-adds
returns-in-Some-clause-adds g c = λ m serves.
    let db = g.P.Structures.tables c.args.plans.now in
    let (middle, serves', (packets, adds, is)) = c.loop-next.invariant.adds m serves in
    let (ends, kept, same) = c.in-Some.ensures.adds in (
      middle,
      subst (Serves db middle) (sym kept) serves',
      (
        packets,
        g.S.Source.left (source_of c.loop-next.feed),
        adds-same db c.args.number packets _ _ m middle middle [] _ _ refl same adds,
        is,
        batch-ends c.in-Some.why packets _ _ ends (λ some. c.loop-next.invariant.ahead (omega (arith, some, is))),
      ),
    )

pub returns-then-next-gt-MOST_PACKETS-clause-adds : goal.returns-then-next-gt-MOST_PACKETS-clause-adds
returns-then-next-gt-MOST_PACKETS-clause-adds g c = λ m serves.
    let db = g.P.Structures.tables c.args.plans.now in
    let (middle, serves', (packets, adds, is)) = c.loop-next.invariant.adds m serves in
    let (after, still, (packet, one)) = c.in_default.ensures.adds middle serves' in
    let more = packets ++ packet ∷ [] in
    let count : c.loop-next.next + 1 ≡ c.args.number + length more = omega (arith, is, length-append packets (packet ∷ [])) in
    let some : 0 < length more = omega (arith, length-append packets (packet ∷ [])) in (
      after,
      still,
      (
        more,
        g.S.Source.left (source_of c.add_next.new.feed),
        adds-more db c.args.number c.loop-next.next packets (packet ∷ []) _ _ _ m middle after [] _ _ is adds one,
        count,
        (refl {a = g.S.Source.left (source_of c.add_next.new.feed)}, some),
      ),
    )

pub loop-next-preserved : goal.loop-next-preserved
loop-next-preserved g c =
    let db = g.P.Structures.tables c.args.plans.now in
    let inv = c.loop-next.invariant in
    record {
      board = c.add_next.ensures.board ∙ inv.board;
      adds = λ m serves.
          let (middle, serves', (packets, adds, is)) = inv.adds m serves in
          let (after, still, (packet, one)) = c.in_default.ensures.adds middle serves' in (
            after,
            still,
            (
              packets ++ packet ∷ [],
              adds-more db c.args.number c.loop-next.next packets (packet ∷ []) _ _ _ m middle after [] _ _ is adds one,
              omega (arith, is, length-append packets (packet ∷ [])),
            ),
          );
      limit = let n = c.if-next-gt-MOST_PACKETS.false in omega arith;
      order = let n = inv.order in omega arith;
      few = let n = c.loop-next-test.true in omega arith;
      ahead = λ some. c.is_next_at_hand.ensures c.if-not-is_next_at_hand.false;
      room = let n = c.if-bytes-gt-TEXT_BEFORE.false in omega (arith, ap (λ (l : List ℕ). length l) c.bytes.ensures);
      faults = c.in_default.ensures.cause ∙ inv.faults;
      stays = (c.add_next.ensures.kept.0 ∙ inv.stays.0, c.add_next.ensures.kept.1 ∙ inv.stays.1, c.add_next.ensures.kept.2 ∙ inv.stays.2);
    }

pub returns-clause-adds : goal.returns-clause-adds
returns-clause-adds g c = λ m serves.
    let (after, still, (packets, adds, is)) = c.loop-next.invariant.adds m serves in
    let last = c.loop-next-test.false in
    let begun = c.requires.some in
    let some : 0 < length packets = omega (arith, is, last) in (
      after,
      still,
      (
        packets,
        g.S.Source.left (source_of c.loop-next.feed),
        adds,
        is,
        (refl {a = g.S.Source.left (source_of c.loop-next.feed)}, some),
      ),
    )

pub returns-in-Some-clause-some : goal.returns-in-Some-clause-some
returns-in-Some-clause-some g c = λ paused. absurd (subst (λ f. EndsFeed f (g.S.Source.left (source_of c.loop-next.feed)) (g.S.Source.left (source_of c.add_next.new.feed))) paused c.in-Some.ensures.adds.0)
