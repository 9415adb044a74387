use Rattle.std.proofs.Common.{◌≡◌, ◌∙◌, Bool, ℕ, List, IfOk, ap, filter, rules, subst}
use Rattle.std.proofs.lemmas.Fn.{always_returns_same}
use Rattle.std.specs.Str.{bytes_eq}
use Rattle.mib_model.specs.declared.database.Database.{Database}
use Rattle.mib_model.specs.declared.rows.CurRow.{CurRow}
use Rattle.mib_model.specs.Curves.{selections}
use Rattle.mib_model.specs.Orders.{sorted_by_number}
use Rattle.param_set.proofs.sources.ParamSources.selections.Goals as goal

pub returns : goal.returns
unfolding selections
returns c =
    let mine : CurRow → Bool = λ row. bytes_eq row.pname c.args.name.now in
    let pos : CurRow → ℕ = λ row. row.pos in
    subst (λ (rows : List CurRow). IfOk c.by_number.result (λ ordered. ordered.items ≡ rows))
    (ap (sorted_by_number pos) (c.in_ok-of.ensures ∙ ap (filter mine) c.self.invariant.2)
    ∙ ap (λ (db : Database). selections db c.args.name.now) c.self.view_is)
    (c.by_number.ensures pos (always_returns_same _ (λ a r. r ≡ pos a.0.now) _ (λ a r q k. search rules)))
