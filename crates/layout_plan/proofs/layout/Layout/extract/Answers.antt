use Rattle.std.proofs.Common.{◌∙◌, ℕ, List, ap}
use Rattle.bit_field.specs.Taken.{taken}
use Rattle.mib_model.specs.declared.packet.Ended.{Ended}
use Rattle.mib_model.specs.Fixed.{values_at}
use Rattle.layout_plan.proofs.ValueFacts.{reads-to-end, reads-whole}
use Rattle.mib_model.specs.Layouts.{layout_places}
use Rattle.layout_plan.specs.Slices.{LayoutRows}
use Rattle.layout_plan.specs.Spans.{spans_places}
use Rattle.layout_plan.specs.Stops.{ended_at}
use Rattle.layout_plan.proofs.layout.Layout.extract.Goals as goal

pub returns-in-Some-clause-values : goal.returns-in-Some-clause-values
returns-in-Some-clause-values c =
    ap (λ (ended : Ended). (taken c.read_apart.new.values, ended)) (c.ended.ensures ∙ ap (λ (name : List ℕ). ended_at name c.in-Some.stop) c.name.ensures)
    ∙ (reads-to-end c.args.packet.now (spans_places c.deref.result.now) _ c.args.values.now c.read_apart.new.values c.requires.used c.in-Some.ensures.reads
    ∙ (ap (values_at c.args.packet.now) (ap spans_places c.deref.ensures.value ∙ c.self.invariant) ∙ ap (λ (rows : LayoutRows). values_at c.args.packet.now (layout_places rows.plfs rows.types)) c.self.view_is))

pub returns-in-None-clause-values : goal.returns-in-None-clause-values
returns-in-None-clause-values c =
    reads-whole c.args.packet.now (spans_places c.deref.result.now) c.args.values.now c.read_apart.new.values c.requires.used c.in-None.ensures.reads
    ∙ (ap (values_at c.args.packet.now) (ap spans_places c.deref.ensures.value ∙ c.self.invariant) ∙ ap (λ (rows : LayoutRows). values_at c.args.packet.now (layout_places rows.plfs rows.types)) c.self.view_is)
