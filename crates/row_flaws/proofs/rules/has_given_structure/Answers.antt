use Rattle.std.proofs.Common.{◌≡◌, ap, ◌∙◌, false, pos, int_lt, nat_abs, nat_eq, length, filter, rules}
use Rattle.mib_model.specs.declared.rows.VpdRow.{VpdRow}
use Rattle.row_flaws.proofs.AnyFacts.{structure-there}
use Rattle.row_flaws.proofs.rules.has_given_structure.Goals as goal

pub returns-else-has_layout : goal.returns-else-has_layout
returns-else-has_layout c =
    let vpd = c.args.lookups.now.vpd in
    let tpsd = c.args.row.now.tpsd in
    let low : int_lt tpsd (pos 1) ≡ false = search rules in
    let number : c.unsigned_abs.result ≡ nat_abs tpsd = search rules in
    structure-there vpd tpsd c.structure_rows.result low (c.structure_rows.ensures ∙ ap (λ n. length (filter (λ (row : VpdRow). nat_eq row.tpsd n) vpd)) number)
