use Rattle.std.proofs.Common.{◌≡◌, ◌∙◌, Bool, ℕ, List, IfOk, ap, filter, rules, subst}
use Rattle.std.proofs.lemmas.Fn.{always_returns_same}
use Rattle.std.specs.Str.{bytes_eq}
use Rattle.mib_model.specs.declared.database.Database.{Database}
use Rattle.mib_model.specs.declared.rows.OcpRow.{OcpRow}
use Rattle.mib_model.specs.Checks.{checks_of}
use Rattle.mib_model.specs.Orders.{sorted_by_number}
use Rattle.param_set.proofs.sources.ParamSources.limits.Goals as goal

pub returns : goal.returns
unfolding checks_of
returns c =
    let mine : OcpRow → Bool = λ row. bytes_eq row.name c.args.name.now in
    let pos : OcpRow → ℕ = λ row. row.pos in
    subst (λ (rows : List OcpRow). IfOk c.by_number.result (λ ordered. ordered.items ≡ rows))
    (ap (sorted_by_number pos) (c.in_ok-of.ensures ∙ ap (filter mine) c.self.invariant.4)
    ∙ ap (λ (db : Database). checks_of db c.args.name.now) c.self.view_is)
    (c.by_number.ensures pos (always_returns_same _ (λ a r. r ≡ pos a.0.now) _ (λ a r q k. search rules)))
