use Rattle.std.proofs.Common.{◌∙◌, ◌++◌, [], ◌∷◌, None, List, subst, sym, ap}
use Rattle.mib_model.specs.declared.packet.Value.{Value}
use Rattle.mib_model.specs.Fixed.{Place}
use Rattle.row_interpreter.proofs.ReadFacts.{reads-many, reads-short, reads-value, taken-not, taken-so}
use Rattle.row_interpreter.specs.Readings.{Reads}
use Rattle.row_interpreter.proofs.layout.read_value.Goals as goal

pub returns-then-are_most-clause-reads : goal.returns-then-are_most-clause-reads
returns-then-are_most-clause-reads c =
    let most = c.are_most.ensures in
    reads-many c.args.packet.now (record { name = c.args.name; at = c.args.at; shape = c.args.shape }) c.args.values.now.items (sym most ∙ c.if-are_most.true)

pub returns-in_default-clause-reads : goal.returns-in_default-clause-reads
returns-in_default-clause-reads c =
    let most = c.are_most.ensures in
    reads-short c.args.packet.now (record { name = c.args.name; at = c.args.at; shape = c.args.shape }) c.args.values.now.items
    (sym most ∙ c.if-are_most.false) (taken-not _ _ _ c.take.ensures c.in_default.is)

pub returns-clause-reads : goal.returns-clause-reads
returns-clause-reads c =
    let most = c.are_most.ensures in
    let place : Place = record { name = c.args.name; at = c.args.at; shape = c.args.shape } in
    let so = taken-so _ _ _ (sym c.in-Some.is ∙ c.take.ensures) in
    subst (λ (new : List Value). Reads c.args.packet.now (place ∷ []) None c.args.values.now.items new)
    (sym (c.in_ok-push.ensures.items ∙ ap (λ (v : Value). c.args.values.now.items ++ v ∷ []) so.1))
    (reads-value c.args.packet.now place c.args.values.now.items (sym most ∙ c.if-are_most.false) so.0)
