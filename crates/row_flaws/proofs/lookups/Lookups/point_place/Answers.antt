use Rattle.std.proofs.Common.{ap, ◌∙◌}
use Rattle.mib_model.specs.declared.database.Database.{Database}
use Rattle.row_flaws.specs.Indexes.{first_place}
use Rattle.row_flaws.specs.Points.{point_eq, point_in}
use Rattle.row_flaws.proofs.lookups.Lookups.point_place.Goals as goal

pub returns : goal.returns
returns c =
    c.copied.ensures ∙ (c.get.ensures.value ∙ (c.self.invariant.point_places c.args.key ∙ ap (λ (db : Database). first_place point_eq (point_in db.caf) db.cap c.args.key) c.self.view_is))
