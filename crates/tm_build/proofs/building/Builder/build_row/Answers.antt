use Rattle.std.proofs.Common.{◌≡◌, ◌∙◌, ℕ, ◌≤◌, List, ◌++◌, drop, take, length, sym, ap, subst, arith}
use Rattle.std.proofs.lemmas.List.{take-append-le, take-take}
use Rattle.std.specs.List.{AllByRecursion}
use Rattle.mib_model.specs.declared.packet.Value.{Value}
use Rattle.tm_build.proofs.LaidFacts.{IsFit, laid-fit}
use Rattle.tm_build.proofs.building.Builder.build_row.Goals as goal

pub put_writes-requires-clause-fit : goal.put_writes-requires-clause-fit
put_writes-requires-clause-fit c =
    let used : ℕ = c.in-Ok.used in
    let slots : List Value = c.lay_items.new.slots in
    let len : ℕ = c.self.inside.slots.len in
    let rest : List Value = drop (length slots) c.self.inside.slots.items in
    let long = c.lay_items.auto.slots in
    let all = ap length c.deref_mut.ensures.value in
    let low : used ≤ length slots = omega (arith, c.in-Ok.ensures.few, long, all, c.self.invariant.0) in
    let few : used ≤ len = omega (arith, c.in-Ok.ensures.few, c.self.invariant.0, c.self.inside.slots.ok) in
    let same : take used c.deref.result.now ≡ take used slots = ap (take used) c.deref.ensures.value ∙ (take-take used len (slots ++ rest) few ∙ take-append-le used slots rest low) in
    subst (AllByRecursion IsFit) (sym same) (laid-fit c.self.inside.tables c.args.row.now c.args.items.now (take used slots) c.in-Ok.ensures.laid)
