use Rattle.std.proofs.Common.{◌≡◌, ◌∙◌, map, ap}
use Rattle.struct_plan.specs.Entries.{entry_of}
use Rattle.struct_plan.specs.Slices.{StructureRows}
use Rattle.struct_plan.proofs.EntryFacts.{entry-row, entry-size}
use Rattle.struct_plan.proofs.structure.Structure.entry.Goals as goal

pub returns-clause-entry : goal.returns-clause-entry
returns-clause-entry c =
    let rows : StructureRows = c.args.self.now in
    let is : c.self.inside.entries.items ≡ map (entry_of rows.types) rows.vpds = c.self.invariant.0 ∙ ap (λ (r : StructureRows). map (entry_of r.types) r.vpds) c.self.view_is in
    entry-row rows.types rows.vpds c.self.inside.entries.items c.args.at c.index.result.now c.requires is c.index.ensures

pub returns-clause-size : goal.returns-clause-size
returns-clause-size c =
    let rows : StructureRows = c.args.self.now in
    let is : c.self.inside.entries.items ≡ map (entry_of rows.types) rows.vpds = c.self.invariant.0 ∙ ap (λ (r : StructureRows). map (entry_of r.types) r.vpds) c.self.view_is in
    entry-size rows.types rows.vpds c.self.inside.entries.items c.args.at c.index.result.now c.requires is c.index.ensures
