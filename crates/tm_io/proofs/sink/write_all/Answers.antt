use Rattle.std.proofs.Common.{arith, ◌∙◌, length-drop}
use Rattle.std.proofs.Math.Seq.{take-add}
use Rattle.std.proofs.lemmas.List.{take_rest}
use Rattle.std.proofs.KnownBytes.{Appends-trans}
use Rattle.tm_io.proofs.sink.write_all.Goals as goal

pub loop-at-preserved : goal.loop-at-preserved
loop-at-preserved g c =
    let before = c.loop-at.invariant in
    let done = c.in_ok-at.ensures in
    record {
      within = omega (arith, done.bound, length-drop c.loop-at.at c.args.octets.now);
      written = rw (take-add c.loop-at.at c.in_ok-at.field-0 c.args.octets.now)
          (Appends-trans (g.O.Sink.written c.args.out.now) (g.O.Sink.written c.loop-at.out) (g.O.Sink.written c.write.new.self) _ _ before.written (rw take_rest at done.bytes));
      handed = done.handed ∙ before.handed;
      faults = done.cause.ok ∙ before.faults;
      borrow = done.borrow ∙ before.borrow;
    }
