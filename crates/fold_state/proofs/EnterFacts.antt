-- Raw numbers that are entered as far as they are asked.
use Rattle.std.proofs.Common.{◌≡◌, ◌∙◌, ◌+◌, ◌<◌, ℕ, Bool, true, false, List, [], ◌∷◌, Some, length, get_or, take, refl, sym, subst}
use Rattle.std.proofs.lemmas.Bool.{false≢true}
use Rattle.std.proofs.lemmas.List.Elements.{recursion_from_All}
use Rattle.std.specs.List.{AllByRecursion}
use Rattle.param_state.specs.declared.demands.Demand.{Demand}
use Rattle.fold_state.specs.Boards.{Slots, memory_of, place_of}
use Rattle.param_state.specs.Demands.{AreDemandsOf, any_name, demand_at, entered_at}
use Rattle.fold_state.specs.Entering.{AreQuiet, HasEntered, IsQuiet}
use Rattle.fold_state.proofs.SeatFacts.{entered-more}
use Rattle.memory_laws.specs.Alike.{AreAlike}
use Rattle.memory_laws.proofs.AlikeFacts.{entered-where, one-entered}
use Rattle.mib_model.specs.declared.packet.Value.{Value}
use Rattle.mib_model.specs.Kept.{Memory, all_entered, entered}
use Rattle.param_plan.specs.Slices.{ParamSlice}

module _ (demands : List Demand) (values : List Value) (before : Slots) where
  -- one value more
  pub entered-next : (v : Value) (i at : ℕ) (board after : Slots) → i < length values → v ≡ get_or values i v → place_of before v.name ≡ Some at
      → memory_of after ≡ entered_at demands at (memory_of board) v → HasEntered demands (take i values) before board → HasEntered demands (take (i + 1) values) before after
  entered-next v i at board after below is here left front asked m noted alike =
      let so_far = front asked m noted alike in
      let next = entered-where asked (all_entered m (take i values)) (memory_of board) v (demand_at demands at).asked (noted v.name at here) so_far in
      subst (λ (x : Memory). AreAlike asked x (memory_of after)) (sym (entered-more m values v i below is))
      (subst (λ (x : Memory). AreAlike asked (entered (all_entered m (take i values)) v) x) (sym left) next)

-- nothing is entered of names that aren't asked
pub quiet-entered : (demands : List Demand) (values : List Value) (board : Slots) → AreQuiet demands board values → HasEntered demands values board board
quiet-entered demands values board quiet asked m noted alike = go values m (recursion_from_All (λ (v : Value). IsQuiet demands board v.name) values quiet) alike where
  unasked : (v : Value) → IsQuiet demands board v.name → asked v.name ≡ false
  unasked v q = by (asked v.name) refl where
    by : (b : Bool) → asked v.name ≡ b → asked v.name ≡ false
    by true is = absurd (false≢true (sym q.unasked ∙ noted v.name q.at q.here is))
    by false is = is

  go : (vs : List Value) (m : Memory) → AllByRecursion (λ v. IsQuiet demands board v.name) vs → AreAlike asked m (memory_of board) → AreAlike asked (all_entered m vs) (memory_of board)
  go [] m each alike = alike
  go (v ∷ vs) m each alike = go vs (entered m v) each.1 (one-entered asked m (memory_of board) v (unasked v each.0) alike)

-- no notes are those of every name
pub any-demanded : (params : List ParamSlice) → AreDemandsOf any_name params []
any-demanded params = record {
  covers = λ name h. refl;
  noted = record { places = λ name at here h. refl; plain = λ at h. absurd (false≢true h) };
}
