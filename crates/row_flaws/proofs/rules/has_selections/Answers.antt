use Rattle.std.proofs.Common.{◌∙◌, ap, not, nat_eq}
use Rattle.std.specs.Str.{bytes_eq}
use Rattle.mib_model.specs.declared.rows.CurRow.{CurRow}
use Rattle.row_flaws.proofs.AnyFacts.{counted-any}
use Rattle.row_flaws.proofs.rules.has_selections.Goals as goal

pub returns : goal.returns
returns c = ap (λ n. not (nat_eq n 0)) c.selections.ensures ∙ counted-any (λ (cur : CurRow). bytes_eq cur.pname c.args.name) c.args.lookups.now.cur
