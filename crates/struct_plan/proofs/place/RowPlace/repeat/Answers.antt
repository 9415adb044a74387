use Rattle.std.proofs.Common.{◌≡◌, ◌∙◌, ◌+◌, List, length, sym, ap, subst, arith}
use Rattle.std.proofs.lemmas.Int.{to_z-of_z}
use Rattle.std.proofs.lemmas.List.{length-take-le}
use Rattle.mib_model.specs.declared.rows.VpdRow.{VpdRow}
use Rattle.mib_model.specs.Structures.{group_repeated}
use Rattle.bit_field.specs.Taken.{taken}
use Rattle.struct_plan.specs.declared.group.RowGroup.{RowGroup}
use Rattle.struct_plan.specs.Courses.{Gives, walking}
use Rattle.struct_plan.specs.Groups.{rounds, still_to_walk}
use Rattle.struct_plan.specs.Places.{groups}
use Rattle.struct_plan.proofs.GroupFacts.{enclose-length}
use Rattle.struct_plan.proofs.PlaceFacts.{structure-nested, gives-rounds, behind-around, behind-gives, enclose-rows, settled-todo, settled-around, settled-before}
use Rattle.struct_plan.proofs.place.RowPlace.repeat.Goals as goal
use mir.Val.{to_z, of_z}
use mir.Syntax.{w128}

pub enter-requires-clause-room : goal.enter-requires-clause-room
enter-requires-clause-room c =
    let at = c.args.self.now.at in
    let le = enclose-length c.args.structure.now.vpds at (at + 1 + c.args.size) (groups c.args.values.now c.args.self.now) c.requires.around in
    omega (arith, le)

pub settle-requires-clause-rows : goal.settle-requires-clause-rows
settle-requires-clause-rows c =
    let rows : List VpdRow = c.args.structure.now.vpds in
    let old = c.args.values.now in
    let at = c.args.self.now.at in
    let gs' : List RowGroup = groups c.enter.new.values c.enter.new.self in
    enclose-rows rows c.enter.new.self.at c.enter.new.self.at gs'
    (behind-around rows at c.enter.new.self.at c.args.size old.used c.rounds_of.result (groups old c.args.self.now) gs' c.requires.size c.requires.some c.requires.around c.enter.ensures.at c.enter.ensures.groups)

pub returns-clause-gives : goal.returns-clause-gives
returns-clause-gives c = λ db source end course is gives.
    let rows : List VpdRow = c.args.structure.now.vpds in
    let old = c.args.values.now in
    let at = c.args.self.now.at in
    let gs : List RowGroup = groups old c.args.self.now in
    let gs' : List RowGroup = groups c.enter.new.values c.enter.new.self in
    let used : length (taken c.enter.new.values) ≡ old.used = ap length c.enter.ensures.stays.taken ∙ length-take-le old.used old.slots.now (omega arith) in
    let few : length (taken old) ≡ old.used = length-take-le old.used old.slots.now (omega arith) in
    let nested = structure-nested db c.args.structure.now is in
    let raw : to_z w128 (of_z w128 c.args.raw) ≡ c.args.raw = grind (arith, to_z-of_z) in
    let count : rounds c.args.raw ≡ c.rounds_of.result = ap rounds (sym raw) ∙ sym c.rounds_of.ensures in
    let fewer : Gives db source end (walking (group_repeated c.args.size c.rounds_of.result (still_to_walk rows (at + 1) gs)) course (taken old)) =
    subst (λ k. Gives db source end (walking (group_repeated c.args.size k (still_to_walk rows (at + 1) gs)) course (taken old))) count
    (gives-rounds db source end rows course (taken old) at c.args.size c.args.raw gs nested c.requires.size c.requires.some c.requires.around (omega (arith, few)) gives) in
    let same : Gives db source end (walking (group_repeated c.args.size c.rounds_of.result (still_to_walk rows (at + 1) gs)) course (taken c.enter.new.values)) =
    subst (λ vs. Gives db source end (walking (group_repeated c.args.size c.rounds_of.result (still_to_walk rows (at + 1) gs)) course vs)) (sym c.enter.ensures.stays.taken) fewer in
    let around = behind-around rows at c.enter.new.self.at c.args.size old.used c.rounds_of.result gs gs' c.requires.size c.requires.some c.requires.around c.enter.ensures.at c.enter.ensures.groups in
    let behind = behind-gives rows at c.enter.new.self.at c.args.size old.used c.rounds_of.result gs gs' c.requires.size c.requires.some c.requires.around c.enter.ensures.at c.enter.ensures.groups
    db source end course (taken c.enter.new.values) nested c.requires.slots.used used same in
    subst (λ todo. Gives db source end (walking todo course (taken c.enter.new.values)))
    (sym (settled-todo rows c.enter.new.self.at c.settle.new.self.at gs' (groups c.enter.new.values c.settle.new.self) around c.settle.ensures.at c.settle.ensures.groups)) behind

pub returns-clause-among : goal.returns-clause-among
returns-clause-among c =
    let rows : List VpdRow = c.args.structure.now.vpds in
    let old = c.args.values.now in
    let at = c.args.self.now.at in
    let gs : List RowGroup = groups old c.args.self.now in
    let gs' : List RowGroup = groups c.enter.new.values c.enter.new.self in
    let around = behind-around rows at c.enter.new.self.at c.args.size old.used c.rounds_of.result gs gs' c.requires.size c.requires.some c.requires.around c.enter.ensures.at c.enter.ensures.groups in
    let settled : List RowGroup = groups c.enter.new.values c.settle.new.self in
    record {
      kept = c.settle.ensures.place;
      around = settled-around rows c.enter.new.self.at c.settle.new.self.at gs' settled around c.settle.ensures.at c.settle.ensures.groups;
      ahead = settled-before rows c.enter.new.self.at c.settle.new.self.at gs' settled around c.settle.ensures.at c.settle.ensures.groups;
    }
