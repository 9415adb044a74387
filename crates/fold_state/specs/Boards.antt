-- What a board keeps, as mib_model defines it. [This profile.]
use Rattle.std.specs.Prelude.{ℕ, Bool, List, map, Option, Some, None}
use Rattle.std.specs.Cmp.Lexicographic.{pointwise}
use Rattle.std.specs.List.{find, position, zip}
use Rattle.std.specs.Str.{bytes_eq}
use Rattle.param_state.specs.declared.slot.ParamSlot.{ParamSlot}
use Rattle.mib_model.specs.declared.database.Database.{Database}
use Rattle.mib_model.specs.Kept.{Kept, Memory, nothing_kept}
use Rattle.param_state.specs.ParamPlans.{is_name_of, planned_names}
use Rattle.param_state.specs.SlotViews.{kept_as, slot_name}

-- the names of a board in their order, and what is kept of each
pub record Slots : Type 0 where
  pub names : List (List ℕ)
  pub slots : List ParamSlot

-- slots with their names
abbrev pub board_of : List ParamSlot → Slots
board_of slots = record { names = map slot_name slots; slots = slots }

-- what is kept in the slot of a name, and nothing where there is none
abbrev pub kept_beside : Option (List ℕ × ParamSlot) → Kept
kept_beside None = nothing_kept
kept_beside (Some pair) = kept_as pair.1

-- what a board keeps of each name
abbrev pub memory_of : Slots → Memory
memory_of board name = kept_beside (find (λ pair. is_name_of name pair.0) (zip board.names board.slots))

-- the place of a name
abbrev pub place_of : Slots → List ℕ → Option ℕ
place_of board name = position (is_name_of name) board.names

-- whether the names of a board are those of the parameters that have plans
abbrev pub is_made_for : Database → Slots → Bool
is_made_for db board = pointwise bytes_eq board.names (planned_names db)
