-- What is kept as values are entered and finished, and the memories that it serves for. [This profile.]
use Rattle.std.specs.Prelude.{◌≡◌, ℕ, Bool, true, false, List, ◌++◌, length, Some}
use Rattle.std.specs.List.{All, flat_map}
use Rattle.param_state.specs.declared.demands.Demand.{Demand}
use Rattle.fold_state.specs.Boards.{Slots, memory_of, place_of}
use Rattle.param_state.specs.Demands.{AreAsked, AreDemandsOf, demand_at}
use Rattle.fold_state.specs.Premises.{AreSeated, Fits}
use Rattle.memory_laws.specs.Alike.{AreAlike}
use Rattle.mib_model.specs.declared.database.Database.{Database}
use Rattle.mib_model.specs.declared.packet.Value.{Value}
use Rattle.mib_model.specs.Finish.{all_finished, finished}
use Rattle.mib_model.specs.Kept.{Memory, all_entered, entered}
use Rattle.mib_model.specs.Texts.{told_text}
use Rattle.param_plan.specs.Slices.{ParamSlice}

-- raw numbers of values were entered as far as they are asked: what was alike to what a board kept is so behind all of them
abbrev pub HasEntered : List Demand → List Value → Slots → Slots → Type 0
HasEntered demands vs before after =
    (asked : List ℕ → Bool) (m : Memory) → AreAsked asked before.names demands → AreAlike asked m (memory_of before) →
    AreAlike asked (all_entered m vs) (memory_of after)

-- raw numbers of values were entered as far as they are asked, and their places noted
pub record AreEntered (db : Database) (params : List ParamSlice) (demands : List Demand) (vs : List Value) (before after : Slots)
    (seats : List ℕ) : Type 0 where
  pub fits : Fits db params after vs
  pub seated : AreSeated after vs (length vs) seats
  pub memory : HasEntered demands vs before after

-- a name has a place, where the plan is plain and the raw number isn't asked
pub record IsQuiet (demands : List Demand) (board : Slots) (name : List ℕ) : Type 0 where
  pub at : ℕ
  pub here : place_of board name ≡ Some at
  pub plain : (demand_at demands at).plain ≡ true
  pub unasked : (demand_at demands at).asked ≡ false

-- the names of values are such
abbrev pub AreQuiet : List Demand → Slots → List Value → Type 0
AreQuiet demands board vs = All (λ v. IsQuiet demands board v.name) vs

-- a board was made for plans and fits values, what is asked is demanded, and a memory is alike to what the board keeps
pub record StandsFor (asked : List ℕ → Bool) (db : Database) (params : List ParamSlice) (demands : List Demand) (board : Slots)
    (vs : List Value) (m : Memory) : Type 0 where
  pub fits : Fits db params board vs
  pub demanded : AreDemandsOf asked params demands
  pub alike : AreAlike asked m (memory_of board)

-- values were finished from a memory: what is kept is alike to what they leave, and their lines stand behind a text
pub record AreFinishedFor (asked : List ℕ → Bool) (db : Database) (packet : List ℕ) (vs : List Value) (before after : Memory)
    (old new : List ℕ) : Type 0 where
  pub memory : AreAlike asked (all_finished db before vs).0 after
  pub text : new ≡ old ++ flat_map (told_text packet) (all_finished db before vs).1

-- values are finished from each memory for which a board stands
abbrev pub FinishesAll : List ParamSlice → List Demand → Slots → List ℕ → List Value → Memory → List ℕ → List ℕ → Type 0
FinishesAll params demands board packet vs after old new =
    (asked : List ℕ → Bool) (db : Database) (m : Memory) → StandsFor asked db params demands board vs m
    → AreFinishedFor asked db packet vs (all_entered m vs) after old new
