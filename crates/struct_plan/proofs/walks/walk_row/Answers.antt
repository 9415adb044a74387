use Rattle.std.proofs.Common.{◌≡◌, ◌∙◌, ◌+◌, ◌-◌, ◌≤◌, ◌∷◌, ℕ, ℤ, ◌+ℤ◌, List, take, length, sym, ap, subst, arith}
use Rattle.std.proofs.lemmas.Int.{to_z-of_z}
use Rattle.std.proofs.lemmas.List.{length-take-le}
use Rattle.mib_model.specs.Fixed.{most_values}
use Rattle.bit_field.specs.Taken.{taken}
use Rattle.struct_plan.specs.declared.course.WalkCourse.{WalkCourse}
use Rattle.struct_plan.specs.declared.group.RowGroup.{RowGroup}
use Rattle.struct_plan.specs.Courses.{Gives, Leads, Moves, walking}
use Rattle.struct_plan.specs.Sources.{on_subject_by}
use Rattle.struct_plan.specs.Groups.{still_to_walk, Enclose, Ahead}
use Rattle.struct_plan.specs.Places.{groups}
use Rattle.struct_plan.proofs.GroupFacts.{enclose-take}
use Rattle.struct_plan.proofs.PlaceFacts.{groups-given, none-given, structure-nested}
use Rattle.struct_plan.proofs.KnownFacts.{ahead-take}
use Rattle.struct_plan.specs.Entries.{field_at}
use Rattle.mib_model.specs.Walk.{after_value}
use Rattle.struct_plan.specs.Stacks.{kept}
use Rattle.mib_model.specs.Structures.{group_repeated}
use Rattle.struct_plan.proofs.RowFacts.{around-row, repeats, repeat-gives, give-leads, gives-fewer, counts-some}
use Rattle.struct_plan.proofs.walks.walk_row.Goals as goal
use mir.Val.{to_z, of_z}
use mir.Syntax.{w128}

pub repeat_fixed-requires-clause-some : goal.repeat_fixed-requires-clause-some
repeat_fixed-requires-clause-some g c =
    (repeats (g.S.Structures.tables c.args.all.now) c.args.structure.now c.requires.structure c.args.place.now.at (groups c.args.values.now c.args.place.now) c.entry-entry.result
    c.requires.inside c.requires.among.around c.requires.among.ahead c.entry-entry.ensures.size c.entry-entry.ensures.entry c.in-Repeat.times c.in-Repeat.is).0

pub repeat_fixed-requires-clause-times : goal.repeat_fixed-requires-clause-times
repeat_fixed-requires-clause-times g c =
    (repeats (g.S.Structures.tables c.args.all.now) c.args.structure.now c.requires.structure c.args.place.now.at (groups c.args.values.now c.args.place.now) c.entry-entry.result
    c.requires.inside c.requires.among.around c.requires.among.ahead c.entry-entry.ensures.size c.entry-entry.ensures.entry c.in-Repeat.times c.in-Repeat.is).1

pub repeat_fixed-requires-clause-around : goal.repeat_fixed-requires-clause-around
repeat_fixed-requires-clause-around g c =
    around-row (g.S.Structures.tables c.args.all.now) c.args.structure.now c.requires.structure c.args.place.now.at (groups c.args.values.now c.args.place.now) c.entry-entry.result
    c.requires.inside c.requires.among.around c.requires.among.ahead c.entry-entry.ensures.size c.entry-entry.ensures.entry

pub go_on-requires-clause-some : goal.go_on-requires-clause-some
go_on-requires-clause-some g c = λ counts.
    counts-some (g.S.Structures.tables c.args.all.now) c.args.structure.now c.requires.structure c.args.place.now.at (groups c.args.values.now c.args.place.now) c.entry-entry.result
    c.requires.inside c.requires.among.around c.requires.among.ahead c.entry-entry.ensures.size c.entry-entry.ensures.entry c.in-Give.subject c.in-Give.after c.in-Give.is (sym c.in-Give.after-is ∙ counts)

pub go_on-requires-clause-place : goal.go_on-requires-clause-place
go_on-requires-clause-place g c =
    record {
      within = c.in-Ok.ensures.within;
      alone = λ none. none-given (kept c.args.values.now c.args.place.now.stack) (kept c.give.new.values c.give.new.stack) (most_values - c.give.new.values.used) (c.requires.among.kept.alone none) c.in-Ok.ensures.groups;
    }

pub go_on-requires-clause-around : goal.go_on-requires-clause-around
go_on-requires-clause-around g c =
    let db = g.S.Structures.tables c.args.all.now in
    let rows = c.args.structure.now in
    let at = c.args.place.now.at in
    let gs : List RowGroup = groups c.args.values.now c.args.place.now in
    let around = around-row db rows c.requires.structure at gs c.entry-entry.result c.requires.inside c.requires.among.around c.requires.among.ahead c.entry-entry.ensures.size c.entry-entry.ensures.entry in
    let given : groups c.give.new.values (record { at = at; inner = c.args.place.now.inner; stack = c.give.new.stack }) ≡ take (most_values - c.give.new.values.used + 1) gs =
    groups-given c.args.place.now.inner (kept c.args.values.now c.args.place.now.stack) (kept c.give.new.values c.give.new.stack) (most_values - c.give.new.values.used) c.requires.among.kept.alone c.in-Ok.ensures.groups in
    subst (Enclose rows.vpds at (at + 1 + c.entry-entry.result.size)) (sym given) (enclose-take rows.vpds (most_values - c.give.new.values.used + 1) at (at + 1 + c.entry-entry.result.size) gs around)

pub returns-in-Repeat-clause-goes : goal.returns-in-Repeat-clause-goes
returns-in-Repeat-clause-goes g c = λ end gives.
    let db = g.S.Structures.tables c.args.all.now in
    let rows = c.args.structure.now in
    let source = g.N.Numbers.source c.args.numbers.now in
    let at = c.args.place.now.at in
    let old = c.args.values.now in
    let gs : List RowGroup = groups old c.args.place.now in
    let course : WalkCourse = c.args.course.now in
    let entry = c.entry-entry.result in
    let cursor : to_z w128 (of_z w128 (to_z w128 (of_z w128 course.cursor) +ℤ to_z w128 (of_z w128 c.from.result))) ≡ course.cursor +ℤ entry.offset = grind (arith, to_z-of_z) in
    let here = repeat-gives db rows c.requires.structure at gs entry c.requires.inside c.requires.among.around c.requires.among.ahead c.entry-entry.ensures.size c.entry-entry.ensures.entry
    source end course (taken old) c.in-Repeat.times c.in-Repeat.is gives in
    c.repeat_fixed.ensures.gives db source end (record { cursor = to_z w128 (of_z w128 (to_z w128 (of_z w128 course.cursor) +ℤ to_z w128 (of_z w128 c.from.result))); last = course.last }) c.requires.structure
    (subst (λ (x : ℤ). Gives db source end (walking (group_repeated entry.size c.in-Repeat.times (still_to_walk rows.vpds (at + 1) gs)) (record { cursor = x; last = course.last }) (taken old))) (sym cursor) here)

pub returns-in-Err-clause-goes : goal.returns-in-Err-clause-goes
returns-in-Err-clause-goes g c = λ end gives.
    let db = g.S.Structures.tables c.args.all.now in
    let rows = c.args.structure.now in
    let source = g.N.Numbers.source c.args.numbers.now in
    let at = c.args.place.now.at in
    let old = c.args.values.now in
    let gs : List RowGroup = groups old c.args.place.now in
    let course : WalkCourse = c.args.course.now in
    let entry = c.entry-entry.result in
    let cursor : to_z w128 (of_z w128 (to_z w128 (of_z w128 course.cursor) +ℤ to_z w128 (of_z w128 c.from.result))) ≡ course.cursor +ℤ entry.offset = grind (arith, to_z-of_z) in
    let gave = give-leads db rows c.requires.structure at gs entry c.requires.inside c.requires.among.around c.requires.among.ahead c.entry-entry.ensures.size c.entry-entry.ensures.entry
    source end course (taken old) c.in-Give.subject c.in-Give.after c.in-Give.is gives in
    c.in-Err.ensures.given end gave.row (still_to_walk rows.vpds (at + 1) gs) gave.parameter (ap (field_at db course.last) c.in-Give.subject-is ∙ gave.found)
    (subst (λ (x : ℤ). Moves db source end (on_subject_by db source gave.row (still_to_walk rows.vpds (at + 1) gs) (walking (gave.row ∷ still_to_walk rows.vpds (at + 1) gs) (record { cursor = x; last = course.last }) (taken old)) gave.parameter)) (sym cursor) gave.leads)

pub returns-in-Ok-clause-goes : goal.returns-in-Ok-clause-goes
returns-in-Ok-clause-goes g c = λ end gives.
    let db = g.S.Structures.tables c.args.all.now in
    let rows = c.args.structure.now in
    let source = g.N.Numbers.source c.args.numbers.now in
    let at = c.args.place.now.at in
    let old = c.args.values.now in
    let old-groups : List RowGroup = groups old c.args.place.now in
    let room : ℕ = most_values - c.give.new.values.used + 1 in
    let gs : List RowGroup = groups c.give.new.values (record { at = at; inner = c.args.place.now.inner; stack = c.give.new.stack }) in
    let fewer : gs ≡ take room old-groups =
    groups-given c.args.place.now.inner (kept old c.args.place.now.stack) (kept c.give.new.values c.give.new.stack) (most_values - c.give.new.values.used) c.requires.among.kept.alone c.in-Ok.ensures.groups in
    let course : WalkCourse = c.args.course.now in
    let entry = c.entry-entry.result in
    let cursor : to_z w128 (of_z w128 (to_z w128 (of_z w128 course.cursor) +ℤ to_z w128 (of_z w128 c.from.result))) ≡ course.cursor +ℤ entry.offset = grind (arith, to_z-of_z) in
    let raw : to_z w128 (of_z w128 c.in-Ok.raw) ≡ c.in-Ok.raw = grind (arith, to_z-of_z) in
    let used : length (taken old) ≡ old.used = length-take-le old.used old.slots.now (omega arith) in
    let more : c.give.new.values.used ≡ old.used + 1 = c.in-Ok.ensures.more in
    let most : c.give.new.values.used ≤ most_values = c.give.ensures.stays.used in
    let gives' : Gives db source end (walking (still_to_walk rows.vpds at gs) course (taken old)) =
    subst (λ (hs : List RowGroup). Gives db source end (walking (still_to_walk rows.vpds at hs) course (taken old))) (sym fewer)
    (gives-fewer db rows c.requires.structure at old-groups entry c.requires.inside c.requires.among.around c.requires.among.ahead c.entry-entry.ensures.size c.entry-entry.ensures.entry
    source end course (taken old) room (omega (arith, used)) (omega arith) (omega (arith, used, more, most)) gives) in
    let around : Enclose rows.vpds at at gs = subst (Enclose rows.vpds at at) (sym fewer) (enclose-take rows.vpds room at at old-groups c.requires.among.around) in
    let before : Ahead rows.vpds at gs = subst (Ahead rows.vpds at) (sym fewer) (ahead-take rows.vpds (structure-nested db rows c.requires.structure) room at old-groups (omega arith) c.requires.among.ahead) in
    let gave = give-leads db rows c.requires.structure at gs entry c.requires.inside around before c.entry-entry.ensures.size c.entry-entry.ensures.entry
    source end course (taken old) c.in-Give.subject c.in-Give.after c.in-Give.is gives' in
    let behind = c.in-Ok.ensures.given end gave.row (still_to_walk rows.vpds (at + 1) gs) gave.parameter (ap (field_at db course.last) c.in-Give.subject-is ∙ gave.found)
    (subst (λ (x : ℤ). Moves db source end (on_subject_by db source gave.row (still_to_walk rows.vpds (at + 1) gs) (walking (gave.row ∷ still_to_walk rows.vpds (at + 1) gs) (record { cursor = x; last = course.last }) (taken old)) gave.parameter)) (sym cursor) gave.leads) in
    c.go_on.ensures.goes db source end gave.row c.requires.structure (c.in-Give.after-is ∙ gave.after) gave.size
    (subst (λ (r : ℤ). Leads db source end (after_value db gave.row (still_to_walk rows.vpds (at + 1) gs) r (walking (still_to_walk rows.vpds (at + 1) gs) c.give.new.course (taken c.give.new.values)))) (sym raw) behind)
