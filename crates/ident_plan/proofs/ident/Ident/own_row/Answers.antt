use Rattle.std.proofs.Common.{sym, ap, ◌∙◌}
use Rattle.std.specs.List.{list_any}
use Rattle.ident_plan.specs.Rows.{IdentRows, has_apid}
use Rattle.ident_plan.proofs.Own.{none_own}
use Rattle.ident_plan.proofs.ident.Ident.own_row.Goals as goal

pub returns-then-not-self : goal.returns-then-not-self
returns-then-not-self c =
    sym (none_own c.args.self.now.pics c.args.service c.args.subtype c.args.apid
    (ap (λ (rows : IdentRows). list_any has_apid rows.pics) (sym c.self.view_is) ∙ sym c.self.invariant.0 ∙ c.if-not-self.true))
