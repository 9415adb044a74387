use Rattle.std.proofs.Common.{◌≡◌, ◌∙◌, ◌+◌, ◌-◌, suc, List, length, sym, ap, subst, arith}
use Rattle.std.proofs.lemmas.List.{length-take-le}
use Rattle.mib_model.specs.declared.rows.VpdRow.{VpdRow}
use Rattle.mib_model.specs.Structures.{group_repeated}
use Rattle.bit_field.specs.Taken.{taken}
use Rattle.struct_plan.specs.declared.group.RowGroup.{RowGroup}
use Rattle.struct_plan.specs.Courses.{Gives, walking}
use Rattle.struct_plan.specs.Groups.{still_to_walk}
use Rattle.struct_plan.specs.Places.{groups}
use Rattle.struct_plan.proofs.GroupFacts.{enclose-length}
use Rattle.struct_plan.proofs.PlaceFacts.{structure-nested, behind-around, behind-gives, behind-ahead}
use Rattle.struct_plan.proofs.place.RowPlace.repeat_fixed.Goals as goal

pub enter-requires-clause-room : goal.enter-requires-clause-room
enter-requires-clause-room c =
    let at = c.args.self.now.at in
    let le = enclose-length c.args.structure.now.vpds at (at + 1 + c.args.size) (groups c.args.values.now c.args.self.now) c.requires.around in
    omega (arith, le)

pub returns-clause-gives : goal.returns-clause-gives
returns-clause-gives c = λ db source end course is gives.
    let rows : List VpdRow = c.args.structure.now.vpds in
    let old = c.args.values.now in
    let at = c.args.self.now.at in
    let gs : List RowGroup = groups old c.args.self.now in
    let n = c.from.result in
    let count : c.args.count ≡ n = sym c.from.ensures in
    let used : length (taken c.enter.new.values) ≡ old.used = ap length c.enter.ensures.stays.taken ∙ length-take-le old.used old.slots.now (omega arith) in
    let same : Gives db source end (walking (group_repeated c.args.size n (still_to_walk rows (at + 1) gs)) course (taken c.enter.new.values)) =
    subst (λ vs. Gives db source end (walking (group_repeated c.args.size n (still_to_walk rows (at + 1) gs)) course vs)) (sym c.enter.ensures.stays.taken)
    (subst (λ k. Gives db source end (walking (group_repeated c.args.size k (still_to_walk rows (at + 1) gs)) course (taken old))) count gives) in
    behind-gives rows at c.enter.new.self.at c.args.size old.used n gs (groups c.enter.new.values c.enter.new.self) c.requires.size c.requires.some c.requires.around c.enter.ensures.at c.enter.ensures.groups
    db source end course (taken c.enter.new.values) (structure-nested db c.args.structure.now is) c.requires.slots.used used same

pub returns-clause-among : goal.returns-clause-among
returns-clause-among c =
    let rows : List VpdRow = c.args.structure.now.vpds in
    let old = c.args.values.now in
    let at = c.args.self.now.at in
    let gs : List RowGroup = groups old c.args.self.now in
    let gs' : List RowGroup = groups c.enter.new.values c.enter.new.self in
    let n = c.from.result in
    let one : n ≡ suc (n - 1) = omega (arith, c.from.ensures) in
    record {
      kept = c.enter.ensures.place;
      around = behind-around rows at c.enter.new.self.at c.args.size old.used n gs gs' c.requires.size c.requires.some c.requires.around c.enter.ensures.at c.enter.ensures.groups;
      ahead = behind-ahead rows at c.enter.new.self.at c.args.size old.used n gs gs' c.requires.size c.requires.some c.requires.around c.enter.ensures.at c.enter.ensures.groups (n - 1) one;
    }
