use Rattle.std.proofs.Common.{◌∙◌, ◌+◌, None, Some}
use Rattle.mib_model.specs.declared.packet.Ended.{Ended}
use Rattle.layout_plan.specs.Stops.{ended_at}
use Rattle.layout_plan.proofs.SpanFacts.{reads-more, reads-all}
use Rattle.layout_plan.proofs.layout.read_spans.Goals as goal

pub returns-in-Some-clause-reads : goal.returns-in-Some-clause-reads
returns-in-Some-clause-reads c =
    let stopped : Ended = ended_at c.span-item.result.name c.in-Some.stop in
    reads-all c.args.packet.now c.args.spans.now (c.loop-span.span-index + 1) stopped c.args.values.now c.read.new.values
    (reads-more c.args.packet.now c.args.spans.now c.loop-span.span-index c.span-item.result (Some stopped) c.args.values.now c.loop-span.values c.read.new.values c.loop-span-test.true c.span-item.is c.loop-span.invariant.reads c.in-Some.ensures.reads)

pub loop-span-preserved : goal.loop-span-preserved
loop-span-preserved c = record {
  reads = reads-more c.args.packet.now c.args.spans.now c.loop-span.span-index c.span-item.result None c.args.values.now c.loop-span.values c.read.new.values c.loop-span-test.true c.span-item.is c.loop-span.invariant.reads c.in_default.ensures.reads;
  slots = c.read.ensures.stays.slots;
  used = c.read.ensures.stays.used;
  borrow = c.read.ensures.stays.borrow ∙ c.loop-span.invariant.borrow;
}
