-- What is asked of the values of a packet that was decoded, and a step of the interpreter.
use Rattle.std.proofs.Common.{◌≡◌, ◌∙◌, ℕ, Bool, ◌++◌, List, [], Option, take, true, All, IsSome, refl, sym, ap, subst}
use Rattle.std.proofs.lemmas.List.Elements.{All-weaker}
use Rattle.std.specs.List.{flat_map}
use Rattle.edition_plans.specs.Params.{param_slices}
use Rattle.fold_state.specs.Boards.{Slots}
use Rattle.param_state.specs.ParamPlans.{is_name_of, plan_names, IsParamsOf}
use Rattle.line_sheets.specs.Drawings.{HasPlan, body_played, packet_played}
use Rattle.line_sheets.specs.Pieces.{Played}
use Rattle.param_plan.proofs.PlanFacts.{position-map}
use Rattle.fold_state.specs.Premises.{Fits, HasSlot}
use Rattle.param_state.specs.FinishedValues.{IsRaw}
use Rattle.fold_state.specs.Laws.{FinishIsAStep}
use Rattle.param_state.specs.Demands.{AreDemandsOf, any_name}
use Rattle.fold_state.proofs.EnterFacts.{any-demanded}
use Rattle.memory_laws.specs.Alike.{AreAlike}
use Rattle.memory_laws.proofs.AlikeFacts.{alike-is-same, alike-same}
use Rattle.mib_model.specs.declared.database.Database.{Database}
use Rattle.mib_model.specs.declared.packet.Found.{Found}
use Rattle.mib_model.specs.declared.packet.Header.{Header}
use Rattle.mib_model.specs.declared.packet.Value.{Value}
use Rattle.mib_model.specs.Bits.{is_inside}
use Rattle.mib_model.specs.Finish.{all_finished}
use Rattle.mib_model.specs.Headers.{header_of}
use Rattle.mib_model.specs.Interpreter.{Course, StampedPacket, values_of, title_of, record_for, course_after}
use Rattle.mib_model.specs.Kept.{Memory, all_entered}
use Rattle.mib_model.specs.Match.{match_of}
use Rattle.mib_model.specs.Soundness.{IsSound}
use Rattle.mib_model.specs.Texts.{ended_text, head_text, record_body, told_text}
use Rattle.mib_model.specs.Walk.{Extracted}
use Rattle.param_plan.specs.Slices.{ParamSlice}
use Rattle.decode_one.specs.declared.half.Half.{Half}
use Rattle.decode_one.specs.Halves.{IsHalf}
use Rattle.decode_one.specs.Steps.{ComesTo, HasStepped, HasSteppedFor, IsStampedOf}
use Rattle.decode_one.specs.Values.{IsValueOf}
use Rattle.decode_one.proofs.ParamFacts.{params-of, slot-of}
use Rattle.decode_one.proofs.ValueFacts.{sound-values}

module _ (db : Database) (sound : IsSound db) (packet : List ℕ) (half : Half) (slots : List Value) (is : IsHalf db packet half slots) where
  -- the values that were taken are values of the packet
  taken-values : All (IsValueOf db packet) (take half.used slots)
  taken-values = subst (λ (e : Extracted). All (IsValueOf db packet) e.0) (sym is.values) (sound-values db sound packet)

  -- their bits are in it
  pub taken-inside : All (λ v. is_inside packet v.at v.shape.width ≡ true) (take half.used slots)
  taken-inside = All-weaker (IsValueOf db packet) (λ v. is_inside packet v.at v.shape.width ≡ true) (λ v of. of.inside) (take half.used slots) taken-values

  -- their numbers are raw numbers
  pub taken-raw : All IsRaw (take half.used slots)
  taken-raw = All-weaker (IsValueOf db packet) IsRaw (λ v of. of.number) (take half.used slots) taken-values

  -- plans of all parameters are those of the database
  pub taken-params : (params : List ParamSlice) → params ≡ param_slices db → IsParamsOf db params
  taken-params params all = subst (IsParamsOf db) (sym all) (params-of db sound)

  -- they are what plans of all parameters, and a board for these, need
  pub taken-fit : (params : List ParamSlice) (board : Slots) → params ≡ param_slices db → board.names ≡ plan_names (param_slices db) → Fits db params board (take half.used slots)
  taken-fit params board all same = record {
    plans = taken-params params all;
    names = same ∙ ap plan_names (sym all);
    slots = All-weaker (IsValueOf db packet) (λ v. HasSlot board v.name) (λ v of. slot-of db board v.name same of.planned) (take half.used slots) taken-values;
    numbers = taken-raw;
  }

  -- each has a plan among plans of all parameters
  pub taken-planned : (params : List ParamSlice) → params ≡ param_slices db → All (λ v. HasPlan params v.name) (take half.used slots)
  taken-planned params all = All-weaker (IsValueOf db packet) (λ v. HasPlan params v.name) (λ v of.
      let board : Slots = record { names = plan_names params; slots = [] } in
      subst (λ (place : Option ℕ). IsSome place) (position-map (λ (slice : ParamSlice). slice.pcf.name) (is_name_of v.name) params)
      (slot-of db board v.name (ap plan_names all) of.planned)) (take half.used slots) taken-values

  abbrev vs : List Value
  vs = take half.used slots

  -- what is drawn of such values between such a head and such an end is the packet's record
  pub record-drawn : (number : ℕ) (title : Option (List ℕ)) (s : StampedPacket) → title ≡ title_of db half.found → IsStampedOf s number packet db → (memory : Memory)
      → body_played db packet vs (head_text number half.header half.found title) (ended_text half.ended) memory ≡ packet_played s memory
  record-drawn number title s titled of memory =
      let named : title ≡ title_of db (match_of db packet) = titled ∙ ap (title_of db) is.found in
      let played : ℕ → Database → List ℕ → Header → Found → Option (List ℕ) → Extracted → Played =
      λ n tables octets header found name e. body_played tables octets e.0 (head_text n header found name) (ended_text e.1) memory in
      (λ i. played number db packet (is.header i) (is.found i) (named i) (is.values i)) ∙
      sym (λ i. played (of.number i) (of.tables i) (of.packet i) (header_of (of.packet i)) (match_of (of.tables i) (of.packet i)) (title_of (of.tables i) (match_of (of.tables i) (of.packet i)))
      (values_of (of.tables i) (of.packet i) (match_of (of.tables i) (of.packet i))))

  -- the lines of such values behind a head
  abbrev lines_behind : List ℕ → List ℕ → Database → Memory → List ℕ
  lines_behind head octets tables memory = head ++ flat_map (told_text octets) (all_finished tables (all_entered memory vs) vs).1 ++ ended_text half.ended

  -- what was finished by the tables is a step of the interpreter
  pub has-stepped : FinishIsAStep → (asked : List ℕ → Bool) (number : ℕ) (title : Option (List ℕ)) (before after : Memory) (old new : List ℕ)
      → title ≡ title_of db half.found → AreAlike asked (all_finished db (all_entered before vs) vs).0 after → new ≡ old ++ lines_behind (head_text number half.header half.found title) packet db before
      → (c : Course) (s : StampedPacket) → ComesTo c s number packet db before → HasSteppedFor asked c s after old new
  has-stepped steps asked number title before after old new titled left text c s comes =
      let given : ◌≡◌ {A = Extracted} (vs, half.ended) (values_of s.tables s.packet (match_of s.tables s.packet)) =
      is.values ∙ sym (λ i. values_of (comes.tables i) (comes.packet i) (match_of (comes.tables i) (comes.packet i))) in
      let step = steps c s vs half.ended given in
      let named : title ≡ title_of db (match_of db packet) = titled ∙ ap (title_of db) is.found in
      let told : record_body (record_for c s) ≡ lines_behind (head_text number (header_of packet) (match_of db packet) (title_of db (match_of db packet))) packet db before =
      step.text ∙ (λ i. lines_behind
      (head_text (comes.number i) (header_of (comes.packet i)) (match_of (comes.tables i) (comes.packet i)) (title_of (comes.tables i) (match_of (comes.tables i) (comes.packet i))))
      (comes.packet i) (comes.tables i) (comes.memory i)) in
      let kept : (course_after c s).memory ≡ (all_finished db (all_entered before vs) vs).0 = step.memory ∙ (λ i. (all_finished (comes.tables i) (all_entered (comes.memory i) vs) vs).0) in
      record {
        text = text ∙ ap (λ (t : List ℕ). old ++ t) ((λ i. lines_behind (head_text number (is.header i) (is.found i) (named i)) packet db before) ∙ sym told);
        memory = subst (λ (x : Memory). AreAlike asked x after) (sym kept) left;
      }

-- where every name counts as asked, a step leaves just what is kept
pub stepped-all : {c : Course} {s : StampedPacket} {after : Memory} {old new : List ℕ} → HasSteppedFor any_name c s after old new → HasStepped c s after old new
stepped-all {c} {s} {after} step = record { text = step.text; memory = alike-is-same any_name (course_after c s).memory after (λ name. refl) step.memory }

-- where nothing is demanded in particular, so that every name counts as asked, a step leaves just what is kept
pub stepped-exactly : (db : Database) (number : ℕ) (packet : List ℕ) (before after : Memory) (old new : List ℕ)
    → ((asked : List ℕ → Bool) (m : Memory) (c : Course) (s : StampedPacket) → AreDemandsOf asked (param_slices db) [] → AreAlike asked m before → ComesTo c s number packet db m
    → HasSteppedFor asked c s after old new) → (c : Course) (s : StampedPacket) → ComesTo c s number packet db before → HasStepped c s after old new
stepped-exactly db number packet before after old new steps c s comes =
    stepped-all (steps any_name before c s (any-demanded (param_slices db)) (alike-same any_name before) comes)
