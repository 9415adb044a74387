use Rattle.std.proofs.Common.{◌≡◌, ◌∙◌, ◌-◌, ap, take, pos, subst, sym}
use Rattle.mib_model.specs.GroupFlaws.{place_of, passes_end}
use Rattle.mib_model.specs.Structures.{structure}
use Rattle.row_flaws.specs.Structures.{passes_spots, RisesByPos}
use Rattle.row_flaws.proofs.GroupFacts.{group-ends, structure-rises}
use Rattle.row_flaws.proofs.groups.is_bad_group.Goals as goal

pub passes_spots-passes-requires : goal.passes_spots-passes-requires
passes_spots-passes-requires c = subst RisesByPos (sym c.structure.ensures) (structure-rises c.args.lookups.now c.args.row.now.tpsd)

pub returns : goal.returns
returns c =
    let db = c.args.lookups.now in
    let r = c.args.row.now in
    let passes : c.passes_spots-passes.result ≡ passes_end (structure db (pos r.tpsd)) (place_of db (take (c.args.number - 1) db.vpd) r) r.grpsize =
    c.passes_spots-passes.ensures ∙ (ap (λ spots. passes_spots spots r) c.structure.ensures ∙ group-ends db r (c.args.number - 1) c.requires.first) in
    cc
