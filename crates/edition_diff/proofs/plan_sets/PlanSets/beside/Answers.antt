use Rattle.std.proofs.Common.{◌≡◌, ◌∙◌, ◌++◌, ap, arith, length, not, sym}
use Rattle.std.proofs.lemmas.List.{length-append}
use Rattle.edition_diff.proofs.TouchedFacts.{touched-kinds}
use Rattle.edition_diff.specs.Diffs.{has_ident, ident_if, keyed_plans, touched_among}
use Rattle.mib_model.specs.declared.database.Database.{Database}
use Rattle.edition_diff.proofs.plan_sets.PlanSets.beside.Goals as goal

pub returns-clause-touched : goal.returns-clause-touched
returns-clause-touched g c =
    let old : Database = c.args.base.now in
    let new : Database = c.args.book.now in
    let base : c.base.inside.keyed ≡ old = c.base.view_is in
    let same : c.args.old.now ≡ old = sym c.requires.base in
    c.in_ok-add_ident.ensures
    ∙ (λ i. c.in_ok-keyed.ensures.touched i ++ ident_if (c.in_ok-ident.ensures.is_new i))
    ∙ (λ i. touched_among (base i) (keyed_plans new) ++ ident_if (not (has_ident (same i) new)))
    ∙ sym (touched-kinds old new)

pub returns-clause-steps : goal.returns-clause-steps
returns-clause-steps g c =
    let old : Database = c.args.base.now in
    let new : Database = c.args.book.now in
    let base : c.base.inside.keyed ≡ old = c.base.view_is in
    let same : c.args.old.now ≡ old = sym c.requires.base in
    let keyed = ap (λ (db : Database). length (touched_among db (keyed_plans new))) base in
    let ident = ap (λ (db : Database). length (ident_if (not (has_ident db new)))) same in
    let all = length-append (touched_among old (keyed_plans new)) (ident_if (not (has_ident old new))) in
    omega (arith, c.in_ok-keyed.ensures.steps, c.in_ok-ident.ensures.steps, keyed, ident, all, ap length (touched-kinds old new))
