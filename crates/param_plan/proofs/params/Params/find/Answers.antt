use Rattle.std.proofs.Common.{◌∙◌, ap, option_map, sym}
use Rattle.std.specs.Arc.{arc_value}
use Rattle.std.specs.Option.{option_copied}
use Rattle.std.specs.Str.{bytes_eq}
use Rattle.param_plan.proofs.NameFacts.{found-placed, missing-placed}
use Rattle.param_plan.proofs.params.Params.find.Goals as goal

pub returns-in_err-at : goal.returns-in_err-at
returns-in_err-at c =
    ap (λ found. option_map arc_value (option_copied found)) c.from_residual.ensures
    ∙ sym (missing-placed (λ slice. bytes_eq slice.pcf.name c.args.name) c.args.self.now (sym c.in_err-at.ensures))

pub returns : goal.returns
returns c = sym (found-placed (λ slice. bytes_eq slice.pcf.name c.args.name) c.args.self.now c.in_ok-at.at (arc_value c.plan.result.now) (sym c.in_ok-at.ensures) c.plan.ensures)
