use Rattle.std.proofs.Common.{◌≡◌, ◌∙◌, ℤ, Result, Ok, Err, Option, slice_get, sym, ap, arith}
use Rattle.std.proofs.lemmas.Int.{to_z-of_z}
use Rattle.mib_model.specs.Attempts.{◌>>=◌}
use Rattle.struct_plan.specs.declared.numbers.WalkEnd.{WalkEnd}
use Rattle.build_rules.specs.declared.item.Item.{Item}
use Rattle.build_rules.specs.Laying as Spec
use Rattle.tm_build.proofs.numbers.ItemNumbersNumbers.value.Goals as goal
use mir.Val.{to_z, of_z}
use mir.Syntax.{w128}

pub returns-in-Ok : goal.returns-in-Ok
returns-in-Ok c =
    let field = c.args.field.now in
    let item : Spec.raw_of (slice_get c.args.self.now.items.now c.args.given) field.name ≡ Ok c.in-Ok.raw =
    ap (λ (o : Option Item). Spec.raw_of o field.name) (sym c.item_at.ensures) ∙ (sym c.raw_named.ensures ∙ c.in-Ok.is) in
    let raw : to_z w128 (of_z w128 c.in-Ok.raw) ≡ c.in-Ok.raw = grind (arith, to_z-of_z) in
    let cursor : to_z w128 (of_z w128 c.args.cursor) ≡ c.args.cursor = grind (arith, to_z-of_z) in
    c.value_laid.ensures
    ∙ (ap (λ (x : ℤ). Spec.value_laid field.name field.shape x (to_z w128 (of_z w128 c.in-Ok.raw))) cursor
    ∙ (ap (λ (x : ℤ). Spec.value_laid field.name field.shape c.args.cursor x) raw
    ∙ sym (ap (λ (r : Result ℤ WalkEnd). r >>= Spec.value_laid field.name field.shape c.args.cursor) item)))

pub returns-in-Err : goal.returns-in-Err
returns-in-Err c =
    let field = c.args.field.now in
    let item : Spec.raw_of (slice_get c.args.self.now.items.now c.args.given) field.name ≡ Err c.in-Err.why =
    ap (λ (o : Option Item). Spec.raw_of o field.name) (sym c.item_at.ensures) ∙ (sym c.raw_named.ensures ∙ c.in-Err.is) in
    sym (ap (λ (r : Result ℤ WalkEnd). r >>= Spec.value_laid field.name field.shape c.args.cursor) item)
