use Rattle.std.proofs.Common.{◌≡◌, ◌∙◌, ℤ, ◌∷◌, length, Ok, Some, sym, ap, subst, arith}
use Rattle.std.proofs.lemmas.Int.{to_z-of_z}
use Rattle.std.proofs.lemmas.List.{length-take-le}
use Rattle.mib_model.specs.Walk.{after_value}
use Rattle.bit_field.specs.Taken.{taken}
use Rattle.struct_plan.specs.Courses.{Leads, value_or_end, walking}
use Rattle.struct_plan.specs.Entries.{field_at}
use Rattle.struct_plan.proofs.CourseFacts.{given-value}
use Rattle.struct_plan.proofs.walks.give.Goals as goal
use mir.Val.{to_z, of_z}
use mir.Syntax.{w128}

pub returns-clause-given : goal.returns-clause-given
returns-clause-given g c = λ end row rest t is leads.
    let db = g.S.Structures.tables c.args.all.now in
    let source = g.N.Numbers.source c.args.numbers.now in
    let course = c.args.course.now in
    let values = c.args.values.now in
    let v = c.in_ok-value.value in
    let raw : to_z w128 (of_z w128 v.raw) ≡ v.raw = grind (arith, to_z-of_z) in
    let cursor : to_z w128 (of_z w128 c.behind-course.result) ≡ c.behind-course.result = grind (arith, to_z-of_z) in
    let count : length (taken values) ≡ values.used = length-take-le values.used values.slots.now (omega arith) in
    let last : to_z w128 (of_z w128 course.last) ≡ course.last = grind (arith, to_z-of_z) in
    let at : to_z w128 (of_z w128 course.cursor) ≡ course.cursor = grind (arith, to_z-of_z) in
    let found : Some c.in-Some.field ≡ _ = sym c.in-Some.is ∙ (c.field_at.ensures ∙ (ap (λ (x : ℤ). field_at db x c.args.subject) last ∙ is)) in
    let ok : value_or_end source course.cursor c.in-Some.field values.used ≡ Ok v =
    ap (λ (x : ℤ). value_or_end source x c.in-Some.field values.used) (sym at) ∙ (sym c.value_here.ensures.value ∙ c.in_ok-value.was) in
    let here = given-value db source end row rest (walking (row ∷ rest) course (taken values)) t c.in-Some.field v (taken c.give.new.values) c.behind-course.result
    found (ap (value_or_end source course.cursor c.in-Some.field) count ∙ ok) c.give.ensures.taken c.behind-course.ensures leads in
    subst (λ (x : ℤ). Leads db source end (after_value db row rest x (record { todo = rest; cursor = to_z w128 (of_z w128 c.behind-course.result); last = course.last; values = taken c.give.new.values }))) (sym raw)
    (subst (λ (x : ℤ). Leads db source end (after_value db row rest v.raw (record { todo = rest; cursor = x; last = course.last; values = taken c.give.new.values }))) (sym cursor) here)
