use Rattle.std.proofs.Common.{◌≡◌, ◌<◌, length, refl, length-take, ◌∙◌, arith}
use Rattle.decode_session.specs.declared.batch.Filled.TheVariants as filled
use Rattle.decode_session.proofs.AheadFacts.{read-ends, read-more, read-none, reads-so}
use Rattle.decode_session.proofs.playing.read_packets.Goals as goal
use Rattle.packet_feed.specs.Feed.{source_of}

pub loop-k-init : goal.loop-k-init
loop-k-init g c = record {
  read = λ packets each few come. read-none packets (g.S.Source.left (source_of c.args.feed.now)) come;
  faults = refl;
  stays = (refl, refl, refl);
}

pub loop-k-preserved : goal.loop-k-preserved
loop-k-preserved g c = record {
  read = λ packets each few come.
      let below = c.loop-k-test.true in
      read-more packets c.loop-k.k _ _ _ _ (omega (arith, below, few)) each c.in-Packet.ensures.gives.1 c.in-Packet.ensures.gives.2 (c.loop-k.invariant.read packets each few come);
  faults = c.in-Packet.ensures.cause ∙ c.loop-k.invariant.faults;
  stays = (c.next.ensures.holds ∙ c.loop-k.invariant.stays.0, c.next.ensures.missed ∙ c.loop-k.invariant.stays.1, c.next.ensures.borrow ∙ c.loop-k.invariant.stays.2);
}

pub returns-in-End-clause-reads : goal.returns-in-End-clause-reads
returns-in-End-clause-reads g c start number packets each few come =
    let below = c.loop-k-test.true in
    let short : c.loop-k.k < length packets = omega (arith, below, few) in
    let read = c.loop-k.invariant.read packets each few in
    reads-so filled.End start number c.loop-k.k packets _ _ _ each (omega (arith, short)) read (λ told. read-ends filled.End packets c.loop-k.k _ _ _ short each c.in-End.ensures.gives (read told)) (λ some. c.in-End.ensures.gives) come

pub returns-in-Cut-clause-reads : goal.returns-in-Cut-clause-reads
returns-in-Cut-clause-reads g c start number packets each few come =
    let below = c.loop-k-test.true in
    let short : c.loop-k.k < length packets = omega (arith, below, few) in
    let read = c.loop-k.invariant.read packets each few in
    let cut = filled.Cut c.in-Cut.octets in
    reads-so cut start number c.loop-k.k packets _ _ _ each (omega (arith, short)) read (λ told. read-ends cut packets c.loop-k.k _ _ _ short each c.in-Cut.ensures.gives (read told)) (λ some. c.in-Cut.ensures.gives) come

pub returns-in-Failed-clause-reads : goal.returns-in-Failed-clause-reads
returns-in-Failed-clause-reads g c start number packets each few come =
    let below = c.loop-k-test.true in
    let short : c.loop-k.k < length packets = omega (arith, below, few) in
    let read = c.loop-k.invariant.read packets each few in
    reads-so filled.Failed start number c.loop-k.k packets _ _ _ each (omega (arith, short)) read (λ told. read-ends filled.Failed packets c.loop-k.k _ _ _ short each c.in-Failed.ensures.gives (read told)) (λ some. c.in-Failed.ensures.gives) come

pub returns-clause-reads : goal.returns-clause-reads
returns-clause-reads g c start number packets each few come =
    let some = c.requires in
    let end : c.loop-k.k ≡ c.args.count = let over = c.loop-k-test.false in let within = c.loop-k.auto.k-end in omega arith in
    rw end at (reads-so filled.Paused start number c.loop-k.k packets _ _ _ each (omega (arith, end, few)) (c.loop-k.invariant.read packets each few)
    (λ told. (refl, omega (arith, end, few, some, length-take c.loop-k.k packets))) (λ more. absurd (more refl)) come)
