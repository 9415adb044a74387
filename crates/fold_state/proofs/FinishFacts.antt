-- A finished value by the place of its name on a board.
use Rattle.std.proofs.Common.{◌≡◌, ◌∙◌, ℕ, ◌<◌, true, false, List, [], Some, None, length, get_or, map, find, sym, ap, subst, arith, IsSome}
use Rattle.std.proofs.lemmas.List.{get_or-map, get_or_default, length-map}
use Rattle.std.proofs.lemmas.List.Quantifiers.{position-Some}
use Rattle.std.specs.List.{position}
use Rattle.std.specs.Str.{bytes_eq}
use Rattle.mib_model.specs.declared.database.Database.{Database}
use Rattle.mib_model.specs.declared.packet.Value.{Value}
use Rattle.mib_model.specs.Finish.{Finished, finished}
use Rattle.mib_model.specs.Kept.{Memory}
use Rattle.mib_model.specs.Tails.{Plain}
use Rattle.param_plan.specs.Plain.{is_plain, plain_at}
use Rattle.param_plan.specs.Slices.{ParamSlice}
use Rattle.fold_state.specs.Boards.{Slots, place_of}
use Rattle.param_state.specs.ParamPlans.{is_name_of, plan_names, IsParamsOf}
use Rattle.fold_state.specs.Premises.{Fits, HasSlot}
use Rattle.param_state.proofs.ValueFacts.{finish-plain, found-first, slice-found, some-item}

-- the plan at the place of a name is that of the name
pub plan-found : (params : List ParamSlice) (board : Slots) (name : List ℕ) (i : ℕ) (s : ParamSlice) → board.names ≡ plan_names params → place_of board name ≡ Some i → s ≡ get_or params i s
    → find (λ slice. bytes_eq slice.pcf.name name) params ≡ Some s
plan-found params board name i s made at is =
    let key : ParamSlice → List ℕ = λ slice. slice.pcf.name in
    let place = position-Some (is_name_of name) (plan_names params) i [] (ap (λ (names : List (List ℕ)). position (is_name_of name) names) (sym made) ∙ at) in
    let long : length (map key params) ≡ length params = simp length-map in
    let below : i < length params = omega (arith, long, place.0) in
    let here = ap (λ (x : List ℕ). bytes_eq x name) (sym (get_or-map key params i s [] below)) ∙ place.1 in
    found-first (λ slice. bytes_eq slice.pcf.name name) params i s below here
    (λ k before. ap (λ (x : List ℕ). bytes_eq x name) (sym (get_or-map key params k s [] (omega (arith, before, below)))) ∙ place.2 k before) ∙ ap Some (sym is)

-- the place of a name is that of a plan
pub plan-within : (params : List ParamSlice) (board : Slots) (name : List ℕ) (i : ℕ) → board.names ≡ plan_names params → place_of board name ≡ Some i → i < length params
plan-within params board name i made at =
    let key : ParamSlice → List ℕ = λ slice. slice.pcf.name in
    let place = position-Some (is_name_of name) (plan_names params) i [] (ap (λ (names : List (List ℕ)). position (is_name_of name) names) (sym made) ∙ at) in
    let long : length (map key params) ≡ length params = simp length-map in
    omega (arith, long, place.0)

-- a value whose plan, at the place of its name, is plain
pub finish-plain-at : (db : Database) (memory : Memory) (v : Value) (params : List ParamSlice) (board : Slots) (i : ℕ)
    → IsParamsOf db params → board.names ≡ plan_names params → place_of board v.name ≡ Some i → plain_at params i ≡ true
    → ◌≡◌ {A = Finished} (memory, record { value = v; tail = Plain; change = None }) (finished db memory v)
finish-plain-at db memory v params board i plans made at plain =
    let within = plan-within params board v.name i made at in
    let item = some-item params i within in
    let s = get_or params i item in
    let found = plan-found params board v.name i s made at (get_or_default params i item s within) in
    finish-plain db memory v s (slice-found db params v.name s plans found) (sym (get_or-map is_plain params i item false within) ∙ plain)

-- a slot is there by the names alone
pub slot-kept : (board other : Slots) (name : List ℕ) → other.names ≡ board.names → HasSlot board name → HasSlot other name
slot-kept board other name same slot = subst (λ (names : List (List ℕ)). IsSome (position (is_name_of name) names)) (sym same) slot

-- what is promised of values holds of a board of the same names
pub fits-kept : (db : Database) (params : List ParamSlice) (board other : Slots) (values : List Value) → other.names ≡ board.names → Fits db params board values → Fits db params other values
fits-kept db params board other values same fits = record {
  plans = fits.plans;
  names = same ∙ fits.names;
  slots = λ k d below. slot-kept board other (get_or values k d).name same (fits.slots k d below);
  numbers = fits.numbers;
}
