-- The class of a sample by checks that are sorted by their types. [SCOS-2000 Database Import ICD, ocp.]
use Rattle.std.specs.Prelude.{◌≡◌, ℕ, ℤ, ◌-ℤ◌, Bool, true, false, ◌&&◌, not, if◌then◌else◌, List, map, filter, Option, Some, None}
use Rattle.std.specs.List.{list_any}
use Rattle.check_plan.specs.declared.asked.AskedLimit.{AskedLimit}
use Rattle.check_plan.specs.declared.check_set.CheckSet.{CheckSet}
use Rattle.check_plan.specs.declared.limit.Limit.{Limit}
use Rattle.check_plan.specs.declared.state.ExpectedState.{ExpectedState}
use Rattle.mib_model.specs.declared.check.Class.{Class}
use Rattle.mib_model.specs.declared.check.Class.TheVariants.{Nominal, Hard, Status, Delta, Soft}
use Rattle.mib_model.specs.declared.rows.OcfRow.{OcfRow}
use Rattle.mib_model.specs.declared.rows.OcpRow.{OcpRow}
use Rattle.mib_model.specs.Checks.{Sample, Numbered, Worded, is_status}
use Rattle.mib_model.specs.Kept.{Memory}
use Rattle.mib_model.specs.Letters.{letter}
use Rattle.check_plan.specs.Aparts.{asked_behind, states_behind}
use Rattle.check_plan.specs.Calms.{is_calm}
use Rattle.check_plan.specs.Limits.{limit_of, is_unasked, asked_limit_of, is_asked, any_passed}
use Rattle.check_plan.specs.States.{state_of, is_in_state, asked_of}

-- whether a sample is a number outside one of the limits of a type that apply
abbrev pub any_violated : Memory → Sample → ℕ → List Limit → List AskedLimit → Bool
any_violated memory (Numbered count) sort limits asked = any_passed memory sort count limits asked
any_violated memory (Worded text) sort limits asked = false

-- whether a sample is a number too far from the one before, if there was one
abbrev pub any_far : Memory → Option ℤ → Sample → List Limit → List AskedLimit → Bool
any_far memory None sample limits asked = false
any_far memory (Some previous) (Numbered count) limits asked = any_passed memory (letter "D") (count -ℤ previous) limits asked
any_far memory (Some previous) (Worded text) limits asked = false

-- whether a state is expected, and a sample agrees with none that is
abbrev pub is_unexpected : Memory → Sample → List ExpectedState → Bool
is_unexpected memory sample states =
    list_any (asked_of memory) states && not (list_any (λ state. is_in_state sample state && asked_of memory state) states)

-- the class of a sample
abbrev pub class_in : Memory → CheckSet → Sample → Option ℤ → Class
class_in memory set sample previous =
    if any_violated memory sample (letter "H") set.limits.items (asked_behind set.apart) then Hard
    else if is_unexpected memory sample (states_behind set.apart) then Status
    else if any_far memory previous sample set.limits.items (asked_behind set.apart) then Delta
    else if any_violated memory sample (letter "S") set.limits.items (asked_behind set.apart) then Soft
    else Nominal

-- the class of a calm sample is Nominal, whatever is kept and whatever the last number was
pub record IsCalmSet (set : CheckSet) : Type 0 where
  pub nominal : (memory : Memory) (previous : Option ℤ) (sample : Sample) → is_calm set.calm sample ≡ true → class_in memory set sample previous ≡ Nominal

-- the checks of rows: limits without a condition, limits with one, and states
pub record IsSetOf (set : CheckSet) (ocps : List OcpRow) : Type 0 where
  pub limits : set.limits.items ≡ map limit_of (filter is_unasked ocps)
  pub asked : asked_behind set.apart ≡ map asked_limit_of (filter is_asked ocps)
  pub states : states_behind set.apart ≡ map state_of (filter is_status ocps)
  pub calm : IsCalmSet set

-- what is kept of a row of ocf and of rows of ocp: which number is checked, how many samples are told, and the rows by their types
pub record ArePartsOf (ocf : OcfRow) (ocps : List OcpRow) (inter nbchck : ℕ) (set : CheckSet) : Type 0 where
  pub number : inter ≡ ocf.inter
  pub samples : nbchck ≡ ocf.nbchck
  pub types : IsSetOf set ocps
