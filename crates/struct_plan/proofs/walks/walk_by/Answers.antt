use Rattle.std.proofs.Common.{◌≡◌, ◌∙◌, ℤ, pos, [], take, refl, sym, ap, subst, arith}
use Rattle.std.proofs.lemmas.Int.{ints, to_z-of_z}
use Rattle.mib_model.specs.Structures.{structure}
use Rattle.mib_model.specs.Walk.{chosen}
use Rattle.bit_field.specs.Taken.{taken}
use Rattle.struct_plan.specs.declared.course.WalkCourse.{WalkCourse}
use Rattle.struct_plan.specs.Courses.{IsInReach, Leads, walking}
use Rattle.struct_plan.proofs.ChoiceFacts.{starts, found-gives, missing-gives, found-structure}
use Rattle.struct_plan.proofs.walks.walk_by.Goals as goal
use mir.Val.{to_z, of_z}
use mir.Syntax.{w128}

pub loop-structure-init : goal.loop-structure-init
loop-structure-init g c =
    let db = g.S.Structures.tables c.args.all.now in
    let values = c.args.values.now in
    let cursor : to_z w128 (of_z w128 c.from.result) ≡ pos c.args.start = (let e : to_z w128 (of_z w128 c.from.result) ≡ c.from.result = grind (arith, to_z-of_z) in e ∙ c.from.ensures) in
    let next : to_z w128 (of_z w128 c.from-next.result) ≡ pos c.args.tpsd = (let e : to_z w128 (of_z w128 c.from-next.result) ≡ c.from-next.result = grind (arith, to_z-of_z) in e ∙ c.from-next.ensures) in
    let course : WalkCourse = record { cursor = to_z w128 (of_z w128 c.from.result); last = pos 0 } in
    let none : taken values ≡ [] = ap (λ n. take n values.slots.now) c.requires.used in
    record {
      leads = λ dfhsize end at gives.
          subst (λ (v : ℤ). Leads db (g.N.Numbers.source c.args.numbers.now) end (chosen (walking [] course (taken values)) v (structure db v))) (sym next)
          (starts db (g.N.Numbers.source c.args.numbers.now) end c.args.tpsd c.args.start dfhsize course (taken values) c.requires.there at (ap (λ (x : ℤ). record { cursor = x; last = pos 0 }) cursor) none gives);
      reach = subst (λ (x : ℤ). IsInReach x 0) (sym cursor) (record { low = omega (arith, ints); high = omega (arith, ints) });
      used = omega arith;
      slots = c.requires.slots;
      borrow = refl;
    }

pub walk_structure-requires-clause-structure : goal.walk_structure-requires-clause-structure
walk_structure-requires-clause-structure g c =
    found-structure (g.S.Structures.tables c.args.all.now) c.in-Some.structure.now _ c.in-Some.ensures.sound c.in-Some.ensures.found

pub returns-in-Ended-clause-values : goal.returns-in-Ended-clause-values
returns-in-Ended-clause-values g c = λ dfhsize end at gives.
    c.in-Ended.ensures.comes end
    (found-gives (g.S.Structures.tables c.args.all.now) (g.N.Numbers.source c.args.numbers.now) end c.in-Some.structure.now c.loop-structure.course (taken c.loop-structure.values) (to_z w128 c.loop-structure.next-bits) c.in-Some.ensures.found
    (c.loop-structure.invariant.leads dfhsize end at gives))

pub loop-structure-smaller : goal.loop-structure-smaller
loop-structure-smaller g c =
    let chosen = c.walk_structure.ensures.chosen c.in-Chosen.chosen c.in-Chosen.is in
    let more = chosen.more in
    omega (arith, more, c.walk_structure.ensures.stays.used)

pub loop-structure-preserved : goal.loop-structure-preserved
loop-structure-preserved g c =
    let goes = c.walk_structure.ensures.chosen c.in-Chosen.chosen c.in-Chosen.is in
    let db = g.S.Structures.tables c.args.all.now in
    let source = g.N.Numbers.source c.args.numbers.now in
    let same : to_z w128 (of_z w128 c.in-Chosen.chosen) ≡ c.in-Chosen.chosen = grind (arith, to_z-of_z) in
    record {
      leads = λ dfhsize end at gives.
          subst (λ (v : ℤ). Leads db source end (chosen (walking [] c.walk_structure.new.course (taken c.walk_structure.new.values)) v (structure db v))) (sym same)
          (c.in-Chosen.ensures.comes end
          (found-gives db source end c.in-Some.structure.now c.loop-structure.course (taken c.loop-structure.values) (to_z w128 c.loop-structure.next-bits) c.in-Some.ensures.found
          (c.loop-structure.invariant.leads dfhsize end at gives)));
      reach = goes.reach;
      used = c.walk_structure.ensures.stays.used;
      slots = c.walk_structure.ensures.stays.slots;
      borrow = c.walk_structure.ensures.stays.borrow ∙ c.loop-structure.invariant.borrow;
    }

pub returns-clause-values : goal.returns-clause-values
returns-clause-values g c = λ dfhsize end at gives.
    missing-gives (g.S.Structures.tables c.args.all.now) (g.N.Numbers.source c.args.numbers.now) end
    c.loop-structure.course (taken c.loop-structure.values) (to_z w128 c.loop-structure.next-bits) c.in_default.ensures.found
    (c.loop-structure.invariant.leads dfhsize end at gives)
