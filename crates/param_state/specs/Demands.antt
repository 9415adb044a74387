-- What plans ask of raw numbers, and what is noted of it for the places of their names. [This profile.]
use Rattle.std.specs.Prelude.{◌≡◌, ℕ, Bool, true, false, ◌||◌, List, Some, get_or, if◌then◌else◌}
use Rattle.std.specs.List.{list_any, position}
use Rattle.std.specs.Str.{bytes_eq}
use Rattle.param_state.specs.declared.demands.Demand.{Demand}
use Rattle.param_state.specs.ParamPlans.{is_name_of, plan_names}
use Rattle.memory_laws.specs.Alike.{is_on}
use Rattle.param_plan.specs.Plain.{is_plain, plain_at}
use Rattle.param_plan.specs.Slices.{ParamSlice}
use Rattle.mib_model.specs.declared.packet.Value.{Value}
use Rattle.mib_model.specs.Kept.{Memory, entered}

-- whether a plan asks the latest raw number of a name: for validity, for a selection or for a limit
abbrev pub slice_asks : List ℕ → ParamSlice → Bool
slice_asks name s =
    is_on name s.pcf.valid ||
    list_any (λ row. bytes_eq row.rlchk name) s.curs ||
    list_any (λ row. is_on name row.rlchk) s.ocps

-- what is noted of a plan before it is known what is asked
abbrev pub unasked_for : ParamSlice → Demand
unasked_for s = record { plain = is_plain s; asked = false }

-- whether any of plans asks it
abbrev pub asked_in : List ParamSlice → List ℕ → Bool
asked_in params name = list_any (slice_asks name) params

-- every name, as if all were asked
abbrev pub any_name : List ℕ → Bool
any_name name = true

-- what is noted for a place, and behind the last note that the raw number is asked
abbrev pub demand_at : List Demand → ℕ → Demand
demand_at demands at = get_or demands at (record { plain = false; asked = true })

-- a raw number is noted to be asked at the place of each name that is
abbrev pub AreAsked : (List ℕ → Bool) → List (List ℕ) → List Demand → Type 0
AreAsked asked names demands =
    (name : List ℕ) (at : ℕ) → position (is_name_of name) names ≡ Some at → asked name ≡ true → (demand_at demands at).asked ≡ true

-- the names that are asked are noted, and no plan is noted to be plain that isn't
pub record AreNoted (asked : List ℕ → Bool) (params : List ParamSlice) (demands : List Demand) : Type 0 where
  pub places : AreAsked asked (plan_names params) demands
  pub plain : (at : ℕ) → (demand_at demands at).plain ≡ true → plain_at params at ≡ true

-- names were noted beside those that were before
abbrev pub Notes : (List ℕ → Bool) → List ParamSlice → List Demand → List Demand → Type 0
Notes more params old new = (asked : List ℕ → Bool) → AreNoted asked params old → AreNoted (λ name. asked name || more name) params new

-- what plans ask is among the names that are asked, and these are noted
pub record AreDemandsOf (asked : List ℕ → Bool) (params : List ParamSlice) (demands : List Demand) : Type 0 where
  pub covers : (name : List ℕ) → asked_in params name ≡ true → asked name ≡ true
  pub noted : AreNoted asked params demands

-- the memory after a value of the name at a place, whose raw number is entered where it is asked there
abbrev pub entered_at : List Demand → ℕ → Memory → Value → Memory
entered_at demands at memory v = if (demand_at demands at).asked then entered memory v else memory
