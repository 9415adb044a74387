use Rattle.std.proofs.Common.{◌∙◌, ◌+◌, [], ◌∷◌, None, Some, subst, arith}
use Rattle.layout_plan.proofs.SpanFacts.{reads-next, reads-span}
use Rattle.layout_plan.specs.Readings.{Reads}
use Rattle.layout_plan.specs.Stops.{ended_at}
use Rattle.layout_plan.specs.Turns.{Turns}
use Rattle.layout_plan.proofs.span.Span.read_each.Goals as goal

pub returns-in-Some-clause-reads : goal.returns-in-Some-clause-reads
returns-in-Some-clause-reads c =
    let here = subst (λ (span : Turns). Reads c.args.packet.now (record { name = span.name; at = c.place-at.result; shape = span.shape } ∷ []) (Some (ended_at span.name c.in-Some.stop)) c.loop-k.values c.read_value.new.values) c.self.view_is c.in-Some.ensures.reads in
    reads-span c.args.packet.now c.args.self.now (c.loop-k.k + 1) (ended_at c.args.self.now.name c.in-Some.stop) c.args.values.now c.read_value.new.values (omega (arith, c.loop-k-test.true, c.places-k-end.ensures))
    (reads-next c.args.packet.now c.args.self.now c.loop-k.k c.place-at.result (Some (ended_at c.args.self.now.name c.in-Some.stop)) c.args.values.now c.loop-k.values c.read_value.new.values c.loop-k.invariant.reads c.place-at.ensures here)

pub loop-k-preserved : goal.loop-k-preserved
loop-k-preserved c =
    let here = subst (λ (span : Turns). Reads c.args.packet.now (record { name = span.name; at = c.place-at.result; shape = span.shape } ∷ []) None c.loop-k.values c.read_value.new.values) c.self.view_is c.in_default.ensures.reads in
    record {
      reads = reads-next c.args.packet.now c.args.self.now c.loop-k.k c.place-at.result None c.args.values.now c.loop-k.values c.read_value.new.values c.loop-k.invariant.reads c.place-at.ensures here;
      slots = c.read_value.ensures.stays.slots;
      used = c.read_value.ensures.stays.used;
      borrow = c.read_value.ensures.stays.borrow ∙ c.loop-k.invariant.borrow;
    }
