-- Values finished from memories that are alike to what a board keeps.
use Rattle.std.proofs.Common.{◌≡◌, ◌∙◌, ◌||◌, ◌++◌, ℕ, Bool, true, false, cond, List, Option, Some, None, IsSome, get_or, find, option_and_then, refl, sym, ap, subst, All}
use Rattle.std.proofs.lemmas.Bool.{false≢true}
use Rattle.std.proofs.lemmas.List.{get_or_default}
use Rattle.std.proofs.lemmas.List.Elements.{recursion_from_All}
use Rattle.std.proofs.lemmas.List.Folds.{list_any_at}
use Rattle.std.specs.List.{flat_map, list_any}
use Rattle.std.specs.Str.{bytes_eq}
use Rattle.param_state.specs.declared.demands.Demand.{Demand}
use Rattle.fold_state.specs.Boards.{Slots, memory_of, place_of}
use Rattle.param_state.specs.ParamPlans.{plan_names, IsParamsOf, planned}
use Rattle.param_state.specs.Demands.{AreAsked, asked_in, slice_asks}
use Rattle.fold_state.specs.Entering.{AreFinishedFor, AreQuiet, HasEntered, StandsFor}
use Rattle.param_state.specs.FinishedValues.{IsToldPlain, AreFinished}
use Rattle.fold_state.specs.Premises.{HasSlot}
use Rattle.fold_state.proofs.FinishFacts.{finish-plain-at, plan-found, plan-within}
use Rattle.param_state.proofs.ValueFacts.{found-passes, some-item}
use Rattle.memory_laws.specs.Alike.{AreAlike, Covers, CoversAll, asks, is_on, is_valid_on}
use Rattle.memory_laws.proofs.AlikeFacts.{all_finished-alike}
use Rattle.mib_model.specs.declared.database.Database.{Database}
use Rattle.mib_model.specs.declared.packet.Value.{Value}
use Rattle.mib_model.specs.declared.rows.PcfRow.{PcfRow}
use Rattle.mib_model.specs.Checks.{checks_of}
use Rattle.mib_model.specs.Curves.{selections}
use Rattle.mib_model.specs.Finish.{all_finished}
use Rattle.mib_model.specs.Kept.{Memory, all_entered}
use Rattle.mib_model.specs.Parameters.{parameter}
use Rattle.mib_model.specs.Plans.{has_plan}
use Rattle.mib_model.specs.Tails.{Told}
use Rattle.mib_model.specs.Texts.{told_text}
use Rattle.param_plan.specs.Slices.{ParamSlice, slice_for}
use Rattle.param_state.proofs.NamedFacts.{same-name}

-- the slice of a parameter asks what its values ask
by-slice : (db : Database) (name : List ℕ) (row : PcfRow) → parameter db.pcf name ≡ Some row → (other : List ℕ) → asks db name other ≡ slice_asks other (slice_for db row)
by-slice db name row here other =
    let named : row.name ≡ name = same-name row.name name (found-passes (λ (r : PcfRow). bytes_eq r.name name) db.pcf row here) in
    λ i.
    is_valid_on other (here i) ||
    list_any (λ r. bytes_eq r.rlchk other) (selections db (sym named i)) ||
    list_any (λ r. is_on other r.rlchk) (checks_of db (sym named i))

-- and so does the plan that is found
by-plan : (db : Database) (params : List ParamSlice) (name : List ℕ) (s : ParamSlice) → IsParamsOf db params → find (λ slice. bytes_eq slice.pcf.name name) params ≡ Some s
    → (other : List ℕ) → asks db name other ≡ slice_asks other s
by-plan db params name s plans found other = go (parameter db.pcf name) refl (sym (plans name) ∙ found) where
  by : (row : PcfRow) (b : Bool) → asks db name other ≡ slice_asks other (slice_for db row) → cond b (Some (slice_for db row)) None ≡ Some s → asks db name other ≡ slice_asks other s
  by row true same is = let e : slice_for db row ≡ s = cc in same ∙ ap (slice_asks other) e
  by row false same is = absurd (cc)

  go : (p : Option PcfRow) → parameter db.pcf name ≡ p → option_and_then (planned db) p ≡ Some s → asks db name other ≡ slice_asks other s
  go None here same = absurd (cc)
  go (Some row) here same = by row (has_plan row) (by-slice db name row here other) same

-- what plans ask covers a name that has a slot on a board that was made for them
covers-slot : (db : Database) (params : List ParamSlice) (board : Slots) (name : List ℕ) → IsParamsOf db params → board.names ≡ plan_names params → HasSlot board name → Covers (asked_in params) db name
covers-slot db params board name plans made slot = go (place_of board name) refl slot where
  go : (p : Option ℕ) → place_of board name ≡ p → IsSome p → Covers (asked_in params) db name
  go None at has = absurd (false≢true has)
  go (Some i) at has = λ other h.
      let within = plan-within params board name i made at in
      let item = some-item params i within in
      let s = get_or params i item in
      let found = plan-found params board name i s made at (get_or_default params i item s within) in
      list_any_at (slice_asks other) params i item within (sym (by-plan db params name s plans found other) ∙ h)

module _ (asked : List ℕ → Bool) (db : Database) (params : List ParamSlice) (demands : List Demand) (board : Slots) (vs : List Value) (m : Memory) (stands : StandsFor asked db params demands board vs m) where
  -- what is asked covers the values
  covers : CoversAll asked db vs
  covers = recursion_from_All (λ (v : Value). Covers asked db v.name) vs (λ k d below other h.
      stands.demanded.covers other (covers-slot db params board (get_or vs k d).name stands.fits.plans stands.fits.names (stands.fits.slots k d below) other h))

  -- what is asked is noted for the names of the board
  noted : AreAsked asked board.names demands
  noted = subst (λ (names : List (List ℕ)). AreAsked asked names demands) (sym stands.fits.names) stands.demanded.noted.places

  -- of quiet values the raw numbers alone are told
  pub quiet-told : AreQuiet demands board vs → All (IsToldPlain db) vs
  quiet-told quiet = λ k d below memory.
      let v = get_or vs k d in let q = quiet k d below in
      finish-plain-at db memory v params board q.at stands.fits.plans stands.fits.names q.here (stands.demanded.noted.plain q.at q.plain)

  -- values that were entered, and finished from what that left
  pub finished-for : (mid : Slots) (packet : List ℕ) (after : Memory) (old new : List ℕ) → HasEntered demands vs board mid → AreFinished db packet vs (memory_of mid) after old new
      → AreFinishedFor asked db packet vs (all_entered m vs) after old new
  finished-for mid packet after old new entered done =
      let tells = all_finished-alike asked db (all_entered m vs) (memory_of mid) vs covers (entered asked m noted stands.alike) in
      record {
        memory = subst (λ (x : Memory). AreAlike asked (all_finished db (all_entered m vs) vs).0 x) (sym done.memory) tells.1;
        text = done.text ∙ ap (λ (ts : List Told). old ++ flat_map (told_text packet) ts) (sym tells.0);
      }
