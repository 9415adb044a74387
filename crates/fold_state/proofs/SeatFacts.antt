-- The places of a packet's values, as they were noted.
use Rattle.std.proofs.Common.{◌≡◌, ◌≤◌, ◌∙◌, ℕ, ◌+◌, ◌<◌, inl, inr, List, Option, Some, length, get_or, take, sym, ap, arith, All}
use Rattle.std.proofs.Math.ListN.{set}
use Rattle.std.proofs.lemmas.Bool.{cases_lt}
use Rattle.std.proofs.lemmas.Grind.{get_or-set_at}
use Rattle.std.proofs.lemmas.List.{get_or_default, get_or-set_other, length-set}
use Rattle.std.proofs.lemmas.List.Sums.{fold_more}
use Rattle.std.specs.List.{position}
use Rattle.mib_model.specs.declared.packet.Value.{Value}
use Rattle.mib_model.specs.Kept.{Memory, all_entered, entered}
use Rattle.fold_state.specs.Boards.{Slots, place_of}
use Rattle.param_state.specs.ParamPlans.{is_name_of}
use Rattle.fold_state.specs.Premises.{AreSeated, HasSlot}
use Rattle.fold_state.proofs.FinishFacts.{slot-kept}

-- places are those of a board of the same names
pub seated-kept : (board other : Slots) (values : List Value) (count : ℕ) (seats : List ℕ) → other.names ≡ board.names → AreSeated board values count seats → AreSeated other values count seats
seated-kept board other values count seats same seated = λ k v below within.
    ap (position (is_name_of (get_or values k v).name)) same ∙ seated k v below within

-- the place of one more value, where there is a seat for it
pub seated-more : (board : Slots) (values : List Value) (v : Value) (i at : ℕ) (seats : List ℕ) → i < length values → v ≡ get_or values i v → i < length seats → place_of board v.name ≡ Some at
    → AreSeated board values i seats → AreSeated board values (i + 1) (set seats i at)
seated-more board values v i at seats below is within here seated = λ k w before inside.
    let long : length (set seats i at) ≡ length seats = length-set seats i at in
    elim (cases_lt k i) [
      | inl front ↦ seated k w front (omega (arith, inside, long)) ∙ ap Some (sym (get_or-set_other seats i k at 0 (omega (arith, front))))
      | inr back ↦
          let last : k ≡ i = omega (arith, before, back) in
          let item : get_or values k w ≡ v = ap (λ (n : ℕ). get_or values n w) last ∙ (get_or_default values i w v below ∙ sym is) in
          ap (λ (x : Value). place_of board x.name) item ∙ (here ∙ ap Some (sym (get_or-set_at seats i k at 0 last within)))
    ]

-- the place of one more value, where there is no seat for it
pub seated-past : (board : Slots) (values : List Value) (i : ℕ) (seats : List ℕ) → length seats ≤ i → AreSeated board values i seats → AreSeated board values (i + 1) seats
seated-past board values i seats full seated = λ k v before inside. seated k v (omega (arith, full, inside)) inside

-- the place of a name is that on a board of the same names
pub place-kept : (board other : Slots) (name : List ℕ) {place : Option ℕ} → board.names ≡ other.names → place_of board name ≡ place → place_of other name ≡ place
place-kept board other name same here = ap (position (is_name_of name)) (sym same) ∙ here

-- values entered, and one more
pub entered-more : (memory : Memory) (values : List Value) (v : Value) (i : ℕ) → i < length values → v ≡ get_or values i v → all_entered memory (take (i + 1) values) ≡ entered (all_entered memory (take i values)) v
entered-more memory values v i below is =
    fold_more entered memory values i v below ∙ ap (entered (all_entered memory (take i values))) (sym is)

-- slots are there by the names alone
pub slots-kept : (board other : Slots) (values : List Value) → other.names ≡ board.names → All (λ v. HasSlot board v.name) values → All (λ v. HasSlot other v.name) values
slots-kept board other values same slots = λ k d below. slot-kept board other (get_or values k d).name same (slots k d below)
