use Rattle.std.proofs.Common.{◌≡◌, ◌∙◌, ap, sym, subst}
use Rattle.std.specs.Option.{option_copied}
use Rattle.edition_plans.proofs.LayoutFacts.{layout-places}
use Rattle.edition_plans.specs.Layouts.{HasPlaces, layout_of}
use Rattle.mib_model.specs.declared.database.Database.{Database}
use Rattle.edition.proofs.compiled.CompiledPlans.layout.Goals as goal

pub returns-clause-places : goal.returns-clause-places
returns-clause-places c =
    let rows : option_copied c.layout.result ≡ layout_of c.args.self.now c.args.spid =
    c.layout.ensures ∙ ap (λ (db : Database). layout_of db c.args.spid) (c.keyed.ensures ∙ c.self.invariant.1 ∙ c.self.view_is) in
    subst (HasPlaces c.args.self.now c.args.spid) (sym rows) (layout-places c.args.self.now c.args.spid)
