use Rattle.std.proofs.Common.{◌∙◌, Option, ap, find, unwrap_or}
use Rattle.std.specs.Str.{bytes_eq}
use Rattle.mib_model.specs.declared.database.Database.{Database}
use Rattle.mib_model.specs.declared.rows.PcfRow.{PcfRow}
use Rattle.param_set.specs.Sources.{row_now}
use Rattle.param_set.proofs.sources.ParamSources.parameter.Goals as goal

pub returns : goal.returns
returns c =
    c.unwrap_or.ensures
    ∙ ap (λ (o : Option PcfRow). unwrap_or o c.args.row.now)
    (c.copied.ensures ∙ c.named-found.ensures ∙ ap (find (λ (other : PcfRow). bytes_eq other.name c.args.row.now.name)) c.self.invariant.0)
    ∙ ap (λ (db : Database). row_now db c.args.row.now) c.self.view_is
