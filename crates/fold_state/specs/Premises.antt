-- What is promised of the values of a packet. [This profile.]
use Rattle.std.specs.Prelude.{◌≡◌, ◌<◌, ℕ, List, Some, IsSome, get_or, length}
use Rattle.std.specs.List.{All}
use Rattle.fold_state.specs.Boards.{Slots, place_of}
use Rattle.param_state.specs.ParamPlans.{plan_names, IsParamsOf}
use Rattle.mib_model.specs.declared.packet.Value.{Value}
use Rattle.mib_model.specs.declared.database.Database.{Database}
use Rattle.param_plan.specs.Slices.{ParamSlice}
use Rattle.param_state.specs.FinishedValues.{IsRaw}

-- a board has a slot for a name
abbrev pub HasSlot : Slots → List ℕ → Type 0
HasSlot board name = IsSome (place_of board name)

-- places are those of the names of the first so many values, as far as there are places
abbrev pub AreSeated : Slots → List Value → ℕ → List ℕ → Type 0
AreSeated board values count seats =
    (k : ℕ) (v : Value) → k < count → k < length seats → place_of board (get_or values k v).name ≡ Some (get_or seats k 0)

-- a board was made for plans, each value has a slot and a raw number
pub record Fits (db : Database) (params : List ParamSlice) (board : Slots) (values : List Value) : Type 0 where
  pub plans : IsParamsOf db params
  pub names : board.names ≡ plan_names params
  pub slots : All (λ v. HasSlot board v.name) values
  pub numbers : All IsRaw values
