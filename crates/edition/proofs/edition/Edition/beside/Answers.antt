use Rattle.std.proofs.Common.{◌≡◌, ◌∙◌, ap, arith, length}
use Rattle.mib_model.specs.declared.database.Database.{Database}
use Rattle.mib_model.specs.Touched.{touched}
use Rattle.edition.proofs.edition.Edition.beside.Goals as goal

pub returns : goal.returns
returns g c =
    let old : Database = c.args.base.now in
    let new : Database = c.args.book.now in
    let base : c.held.inside.sets ≡ old = c.held.invariant.1 ∙ c.held.view_is ∙ c.deref-held.ensures ∙ c.base.invariant.1 ∙ c.base.view_is in
    let count = ap (λ (db : Database). length (touched db new)) base in
    let names = c.in_ok-sets.ensures.touched ∙ ap (λ (db : Database). touched db new) base in
    record {
      edition = c.in_ok-copy.ensures;
      plans = omega (arith, ap length names);
      touched = names;
      steps = omega (arith, c.in_ok-sets.ensures.steps, count);
    }
