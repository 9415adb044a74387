use Rattle.std.proofs.Common.{◌+◌, List, arith}
use Rattle.struct_plan.specs.declared.group.RowGroup.{RowGroup}
use Rattle.struct_plan.specs.Places.{groups}
use Rattle.struct_plan.proofs.GroupFacts.{enclose-length, enclose-fewer}
use Rattle.struct_plan.proofs.PlaceFacts.{enclose-rows, settled-todo, settled-around, settled-before}
use Rattle.struct_plan.proofs.place.RowPlace.pass.Goals as goal

pub overflow_add-self : goal.overflow_add-self
overflow_add-self c =
    let at = c.args.self.now.at in
    let le = enclose-length c.args.structure.now.vpds at (at + 1) (groups c.args.values.now c.args.self.now) c.requires.around in
    omega (arith, le)

pub settle-requires-clause-rows : goal.settle-requires-clause-rows
settle-requires-clause-rows c =
    let at = c.args.self.now.at in
    enclose-rows c.args.structure.now.vpds at (at + 1) (groups c.args.values.now c.args.self.now) c.requires.around

pub returns-clause-still : goal.returns-clause-still
returns-clause-still c =
    let rows = c.args.structure.now.vpds in
    let at = c.args.self.now.at in
    let gs : List RowGroup = groups c.args.values.now c.args.self.now in
    settled-todo rows (at + 1) c.settle.new.self.at gs (groups c.args.values.now c.settle.new.self)
    (enclose-fewer rows at (at + 1) (at + 1) (at + 1) gs (omega arith) (omega arith) c.requires.around) c.settle.ensures.at c.settle.ensures.groups

pub returns-clause-among : goal.returns-clause-among
returns-clause-among c =
    let rows = c.args.structure.now.vpds in
    let at = c.args.self.now.at in
    let gs : List RowGroup = groups c.args.values.now c.args.self.now in
    let around = enclose-fewer rows at (at + 1) (at + 1) (at + 1) gs (omega arith) (omega arith) c.requires.around in
    let gs' : List RowGroup = groups c.args.values.now c.settle.new.self in
    record {
      kept = c.settle.ensures.place;
      around = settled-around rows (at + 1) c.settle.new.self.at gs gs' around c.settle.ensures.at c.settle.ensures.groups;
      ahead = settled-before rows (at + 1) c.settle.new.self.at gs gs' around c.settle.ensures.at c.settle.ensures.groups;
    }
