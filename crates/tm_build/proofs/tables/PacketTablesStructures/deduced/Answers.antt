use Rattle.std.proofs.Common.{◌≡◌, ◌∙◌, ap, arith}
use Rattle.std.proofs.lemmas.Int.{ints}
use Rattle.mib_model.specs.declared.database.Database.{Database}
use Rattle.numbered_plans.proofs.StructureFacts.{deduced-found}
use Rattle.numbered_plans.specs.Structures.{item_numbered}
use Rattle.tm_build.proofs.tables.PacketTablesStructures.deduced.Goals as goal
use mir.Syntax.{w128}
use mir.Val.{of_z, to_z}

pub returns : goal.returns
returns c =
    let key : to_z w128 (of_z w128 c.args.pid) ≡ c.args.pid = omega (arith, ints) in
    let rows : c.self.inside.deduced ≡ c.args.self.now.pcf = c.self.invariant.5 ∙ ap (λ (db : Database). db.pcf) c.self.view_is in
    c.find.ensures ∙ (λ i. item_numbered (rows i) (key i)) ∙ deduced-found c.args.self.now c.args.pid
