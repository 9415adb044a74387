-- What is kept of a plan beside its rows. [This profile.]
use Rattle.std.specs.Prelude.{◌≡◌, ℕ, Bool, true, List, [], Option}
use Rattle.std.specs.Option.{is_some}
use Rattle.check_plan.specs.Rows.{CheckRows}
use Rattle.mib_model.specs.declared.plan.CurveRows.{CurveRows}
use Rattle.param_plan.specs.declared.choice.Selection.{Selection}
use Rattle.param_plan.specs.Choices.{only_curve, selections_in}
use Rattle.param_plan.specs.Slices.{ParamSlice, checks_in}

-- the name, whether VALID names a parameter, the decimals, whether there are no selections, the curve of CURTX, those of selections, and the
-- checks, of a parameter's rows
pub record ArePartsOf (s : ParamSlice) (name : List ℕ) (conditional : Bool) (decim : ℕ) (without : Bool) (only : Option CurveRows)
    (selections : List Selection) (checks : Option CheckRows) : Type 0 where
  pub named : name ≡ s.pcf.name
  pub valid : conditional ≡ is_some s.pcf.valid
  pub decimals : decim ≡ s.pcf.decim
  pub none : without ≡ true → selections ≡ []
  pub curtx : only ≡ only_curve s.pcf.curtx s.curves
  pub curs : selections ≡ selections_in s.pcf.curtx s.curs s.curves
  pub ocf : checks ≡ checks_in s
