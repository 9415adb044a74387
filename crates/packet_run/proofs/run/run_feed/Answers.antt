use Rattle.packet_run.proofs.Common.{[], ℕ, ◌+◌, ◌<◌, ◌∙◌, ap, append-nil, arith, length, own_moves, refl, RegisterHistory, seen_by, sym}
use Rattle.edition_register.proofs.PanelFacts.{starts-more}
use Rattle.packet_run.proofs.FeedFacts.{fed, fed_stopped, feeding_more, feeding_on, feeding_start}
use Rattle.packet_run.proofs.KeepsFacts.{keeps_on, keeps_refl, keeps_trans}
use Rattle.packet_run.proofs.ReadingFacts.{more_moves}
use Rattle.packet_run.specs.declared.until.Until.TheVariants as until
use Rattle.packet_run.proofs.run.run_feed.Goals as goal

pub loop-init : goal.loop-init
loop-init g c =
    let u = c.requires.unused in let d = u.done in let n = u.read in let own = c.requires.seat.1 in record {
      seat = c.requires.seat.0;
      seen = ([], sym (append-nil (seen_by c.args.seat.now)));
      passes = c.requires.passes;
      next = u.next ∙ ap (λ (k : ℕ). k + 1) (sym d);
      below = omega (arith, n, d);
      ahead = omega (arith, n);
      limit = omega (arith, n);
      count = ap (λ (ms : RegisterHistory). length ms) own ∙ sym n;
      keeps = keeps_refl;
      feeding = λ from is pp. feeding_start own (rw (← is) at c.requires.in_use) pp;
      feed = refl;
      out = refl;
      stays = (refl, refl, refl);
    }

pub returns-then-pipeline-ge-MOST_PACKETS-clause-fed : goal.returns-then-pipeline-ge-MOST_PACKETS-clause-fed
returns-then-pipeline-ge-MOST_PACKETS-clause-fed g c from is pp =
    let i = c.loop.invariant in let n = i.count in let l = i.limit in let t = c.if-pipeline-ge-MOST_PACKETS.true in let f = i.feeding from is pp in
    fed until.Limit f.reads (refl, omega (arith, n, l, t)) i.ahead f.piping

pub returns-in_default-clause-keeps : goal.returns-in_default-clause-keeps
returns-in_default-clause-keeps g c = keeps_trans c.loop.invariant.keeps c.make_way.ensures.keeps

pub returns-in_default-clause-fed : goal.returns-in_default-clause-fed
returns-in_default-clause-fed g c from is pp =
    let i = c.loop.invariant in let w = c.make_way.ensures in let f = i.feeding from is pp in
    let n = i.count in let l = i.limit in let a = i.ahead in let r = w.goes_on.read in let m = w.goes_on.more in
    fed until.OutFault f.reads (refl, omega (arith, n, l)) (omega (arith, a, r, m)) (c.in_default.ensures.stopped from f.stamped f.piping)

pub loop-preserved-in_default-pop : goal.loop-preserved-in_default-pop
loop-preserved-in_default-pop g c =
    let i = c.loop.invariant in let w = c.make_way.ensures in let ok = c.in-Ok.ensures in
    let l = i.limit in let a = i.ahead in let r = w.goes_on.read in let m = w.goes_on.more in record {
      seat = i.seat;
      seen = i.seen;
      passes = w.passes;
      next = ok.next;
      below = w.goes_on.below i.below;
      ahead = omega (arith, a, r, m);
      limit = omega (arith, l, r);
      count = i.count ∙ sym r;
      keeps = keeps_on (keeps_trans i.keeps w.keeps) refl refl refl;
      feeding = λ from is pp. feeding_on (i.feeding from is pp) w.in_use (ok.piping from) (keeps_on keeps_refl refl refl refl) refl refl refl;
      feed = i.feed;
      out = ok.cause.ok ∙ i.out;
      stays = i.stays;
    }

pub returns-in-Err-clause-keeps : goal.returns-in-Err-clause-keeps
returns-in-Err-clause-keeps g c = keeps_on (keeps_trans c.loop.invariant.keeps c.make_way.ensures.keeps) refl refl refl

pub returns-in-Err-clause-fed : goal.returns-in-Err-clause-fed
returns-in-Err-clause-fed g c from is pp =
    let i = c.loop.invariant in let w = c.make_way.ensures in let u = c.in-Err.ensures.unread in
    let f = feeding_on (i.feeding from is pp) w.in_use (c.in-Ok.ensures.piping from) (keeps_on keeps_refl refl refl refl) refl refl refl in
    let n = i.count in let a = i.ahead in let r = w.goes_on.read in let m = w.goes_on.more in let t = c.if-pipeline-ge-MOST_PACKETS.false in
    let less : length (own_moves c.loop.seat) < 1000000000 = omega (arith, n, t) in
    fed (until.FeedEnds c.in-Err.field-0.why) {stamped = f.stamped} {packets = f.packets} (rw (u.1) f.reads) (u.0, rw (u.1) less)
    (omega (arith, a, r, m)) f.piping

pub loop-preserved : goal.loop-preserved
loop-preserved g c =
    let i = c.loop.invariant in let w = c.make_way.ensures in let ok = c.in-Ok.ensures in let rs = c.read_stamped.ensures in let tp = c.take_packet.ensures in
    let done = c.in-Ok-take_packet.ensures in let is = c.in-Ok-read_stamped.ensures.read in let more = more_moves is in
    let n = i.count in let r = w.goes_on.read in let room = ok.room in let t = c.if-pipeline-ge-MOST_PACKETS.false in let p = tp.read.0 in let m = tp.read.1 in
    record {
      seat = rs.seat;
      seen = starts-more (seen_by c.args.seat.now) (seen_by c.loop.seat) (seen_by c.read_stamped.new.seat) i.seen rs.seen;
      passes = tp.passes;
      next = done.next;
      below = tp.read.2;
      ahead = omega (arith, p, m, room);
      limit = omega (arith, p, r, t);
      count = omega (arith, more, n, p, r);
      keeps = keeps_trans (keeps_on (keeps_trans i.keeps w.keeps) refl refl refl) tp.keeps;
      feeding = λ from e pp.
          let f = feeding_on (i.feeding from e pp) w.in_use (ok.piping from) (keeps_on keeps_refl refl refl refl) refl refl refl in
          feeding_more f e is (n ∙ sym r) (done.piping from);
      feed = c.in-Ok-read_stamped.ensures.ok ∙ i.feed;
      out = done.cause.ok ∙ ok.cause.ok ∙ i.out;
      stays = (rs.kept.0 ∙ i.stays.0, rs.kept.1 ∙ i.stays.1, rs.kept.2 ∙ i.stays.2);
    }

pub returns-in_default-take_packet-clause-keeps : goal.returns-in_default-take_packet-clause-keeps
returns-in_default-take_packet-clause-keeps g c = keeps_trans
    (keeps_on (keeps_trans c.loop.invariant.keeps c.make_way.ensures.keeps) refl refl refl) c.take_packet.ensures.keeps

pub returns-in_default-take_packet-clause-fed : goal.returns-in_default-take_packet-clause-fed
returns-in_default-take_packet-clause-fed g c from e pp =
    let i = c.loop.invariant in let w = c.make_way.ensures in let tp = c.take_packet.ensures in let is = c.in-Ok-read_stamped.ensures.read in
    let f = feeding_on (i.feeding from e pp) w.in_use (c.in-Ok.ensures.piping from) (keeps_on keeps_refl refl refl refl) refl refl refl in
    let n = i.count in let r = w.goes_on.read in let room = c.in-Ok.ensures.room in let t = c.if-pipeline-ge-MOST_PACKETS.false in let p = tp.read.0 in
    let m = tp.read.1 in let more = more_moves is in
    fed_stopped f e is (n ∙ sym r) (c.in_default-take_packet.ensures.stopped from) (omega (arith, more, n, t)) (omega (arith, p, m, room))
