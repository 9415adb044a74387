use Rattle.std.proofs.Common.{◌-◌, ◌≡◌, length, arith, ◌∙◌, refl, ap, length-drop}
use Rattle.std.proofs.lemmas.List.{take_rest}
use Rattle.std.proofs.KnownBytes.{Consumes-trans}
use Rattle.packet_feed.proofs.Filling.{take-filled, length-filled}
use Rattle.packet_feed.proofs.feed.fill.Goals as goal

pub loop-at-preserved : goal.loop-at-preserved
loop-at-preserved g c =
    let kept = c.loop-at.invariant in
    let read = c.in_ok-count.ensures in
    let size : length c.read.new.buf ≡ length c.loop-at.buf - c.loop-at.at =
    c.read.auto.buf ∙ ap length (take_rest c.loop-at.buf c.loop-at.at) ∙ length-drop c.loop-at.at c.loop-at.buf in
    let whole = length-filled c.loop-at.at (length c.loop-at.buf - c.loop-at.at) c.loop-at.buf c.read.new.buf kept.within size refl in
    record {
      within = rw whole (omega (arith, size, kept.within, read.bound.0));
      octets = rw (take-filled c.loop-at.at c.in_ok-count.count (length c.loop-at.buf - c.loop-at.at) c.loop-at.buf c.read.new.buf kept.within read.bound.0)
          (Consumes-trans (g.S.Source.left c.args.source.now) (g.S.Source.left c.loop-at.source) (g.S.Source.left c.read.new.self) _ _ kept.octets read.bytes.0);
      faults = read.cause.ok ∙ kept.faults;
      holds = read.holds ∙ kept.holds;
      missed = read.missed ∙ kept.missed;
      borrow = read.borrow ∙ kept.borrow;
    }
