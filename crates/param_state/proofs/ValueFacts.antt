-- A finished value by the slice of its parameter.
use Rattle.std.proofs.Common.{◌≡◌, ◌∙◌, ℕ, ℤ, zero, suc, ◌<◌, Bool, true, false, cond, List, [], ◌∷◌, ◌++◌, Option, Some, None, option_map, option_and_then, length, get_or, find, refl, sym, ap, subst, arith, append_assoc, append-nil, All}
use Rattle.std.proofs.lemmas.List.Concat.{flat_map-append}
use Rattle.std.proofs.lemmas.Slice.Eq.{bytes_eq-Decides}
use Rattle.std.specs.List.{flat_map}
use Rattle.std.specs.Str.{bytes_eq}
use Rattle.mib_model.specs.declared.database.Database.{Database}
use Rattle.mib_model.specs.declared.packet.Value.{Value}
use Rattle.mib_model.specs.declared.plan.CurveRows.{CurveRows}
use Rattle.mib_model.specs.declared.rows.PcfRow.{PcfRow}
use Rattle.mib_model.specs.Calibrated.{Calibrated}
use Rattle.mib_model.specs.Carry.{check_of}
use Rattle.mib_model.specs.Checks.{checks_of}
use Rattle.mib_model.specs.Curves.{calibration}
use Rattle.mib_model.specs.Finish.{CheckedValue, Finished, is_valid, given_for, tail_for, checked_by, told, finished_by, finished, all_finished, in_front}
use Rattle.mib_model.specs.Kept.{Memory, has_number}
use Rattle.mib_model.specs.Parameters.{parameter}
use Rattle.mib_model.specs.Plans.{has_plan}
use Rattle.mib_model.specs.Tails.{Tail, Invalid, Plain, Told}
use Rattle.mib_model.specs.declared.rows.OcfRow.{OcfRow}
use Rattle.mib_model.specs.Texts.{told_text}
use Rattle.param_plan.specs.Plain.{is_plain}
use Rattle.param_plan.specs.Slices.{ParamSlice, curve_in, slice_for}
use Rattle.param_plan.proofs.LawFacts.{have-curves}
use Rattle.param_plan.proofs.PlainFacts.{plain-curve, plain-ocf, plain-valid}
use Rattle.param_state.specs.FinishedValues.{AreFinished, IsFinished}
use Rattle.param_state.specs.ParamPlans.{IsParamsOf, IsSliceOf, planned}

-- a value that isn't valid
pub finish-invalid : (db : Database) (memory : Memory) (v : Value) (s : ParamSlice) → IsSliceOf db v.name s → is_valid memory s.pcf ≡ false
    → ◌≡◌ {A = Finished} (memory, record { value = v; tail = Invalid; change = None }) (finished db memory v)
unfolding finished
finish-invalid db memory v s is fails =
    let by : finished_by db memory v (Some s.pcf) ≡ told v Invalid (memory, None) = rw fails refl in
    sym (ap (finished_by db memory v) is.row ∙ by)

-- what a curve makes of a value, by the slice
pub given-same : (db : Database) (memory : Memory) (v : Value) (s : ParamSlice) → IsSliceOf db v.name s
    → cond (has_number v.shape.sort) (option_map (λ rows. calibration rows v.raw) (curve_in s memory)) None ≡ given_for db s.pcf memory v
given-same db memory v s is = ap (λ curve. cond (has_number v.shape.sort) (option_map (λ rows. calibration rows v.raw) curve) None) (is.curve memory)

-- a value that is valid
pub finish-valid : (db : Database) (memory : Memory) (v : Value) (s : ParamSlice) (given : Option Calibrated) (tail : Tail) (checked : CheckedValue) → IsSliceOf db v.name s → is_valid memory s.pcf ≡ true
    → given ≡ given_for db s.pcf memory v → tail ≡ tail_for s.pcf.decim given → checked ≡ checked_by db memory v given (check_of db v.name)
    → ◌≡◌ {A = Finished} (checked.0, record { value = v; tail = tail; change = checked.1 }) (finished db memory v)
unfolding finished
finish-valid db memory v s given tail checked is holds made tailed done =
    let by : finished_by db memory v (Some s.pcf) ≡ told v (tail_for s.pcf.decim (given_for db s.pcf memory v)) (checked_by db memory v (given_for db s.pcf memory v) (check_of db v.name)) = rw holds refl in
    let made' : told v tail checked ≡ told v (tail_for s.pcf.decim given) (checked_by db memory v given (check_of db v.name)) = λ i. told v (tailed i) (done i) in
    made' ∙ (ap (λ (g : Option Calibrated). told v (tail_for s.pcf.decim g) (checked_by db memory v g (check_of db v.name))) made ∙ sym (ap (finished_by db memory v) is.row ∙ by))

-- what a curve makes of a value that has a number
pub given-number : (db : Database) (memory : Memory) (v : Value) (s : ParamSlice) (given : Option Calibrated) → IsSliceOf db v.name s → has_number v.shape.sort ≡ true
    → given ≡ option_map (λ rows. calibration rows v.raw) (curve_in s memory) → given ≡ given_for db s.pcf memory v
given-number db memory v s given is number made =
    made ∙ (ap (λ (b : Bool). cond b (option_map (λ rows. calibration rows v.raw) (curve_in s memory)) None) (sym number) ∙ given-same db memory v s is)

-- a value that has no number isn't checked
unchecked : (db : Database) (memory : Memory) (v : Value) (check : Option OcfRow) → has_number v.shape.sort ≡ false → ◌≡◌ {A = CheckedValue} (memory, None) (checked_by db memory v None check)
unchecked db memory v None number = refl
unchecked db memory v (Some row) number = rw number refl

-- a value that is valid and has no number
pub finish-numberless : (db : Database) (memory : Memory) (v : Value) (s : ParamSlice) → IsSliceOf db v.name s → is_valid memory s.pcf ≡ true → has_number v.shape.sort ≡ false
    → ◌≡◌ {A = Finished} (memory, record { value = v; tail = Plain; change = None }) (finished db memory v)
finish-numberless db memory v s is holds number =
    finish-valid db memory v s None Plain (memory, None) is holds (rw number refl) refl (unchecked db memory v (check_of db v.name) number)

-- the first item that passes, by its place
pub found-first : {X : Type 0} (p : X → Bool) (xs : List X) (i : ℕ) (d : X) → i < length xs → p (get_or xs i d) ≡ true → ((k : ℕ) → k < i → p (get_or xs k d) ≡ false) → find p xs ≡ Some (get_or xs i d)
found-first p [] i d below here before = absurd (omega (arith, below))
found-first p (x ∷ xs) zero d below here before = rw here refl
found-first p (x ∷ xs) (suc i) d below here before = rw (before 0 (omega arith)) (found-first p xs i d (omega (arith, below)) here (λ k b. before (suc k) (omega (arith, b))))

-- what is found passes
pub found-passes : {X : Type 0} (p : X → Bool) (xs : List X) (x : X) → find p xs ≡ Some x → p x ≡ true
found-passes p [] x found = absurd (cc)
found-passes p (y ∷ xs) x found = go (p y) refl (found-passes p xs x) found where
  go : (b : Bool) → p y ≡ b → (find p xs ≡ Some x → p x ≡ true) → cond b (Some y) (find p xs) ≡ Some x → p x ≡ true
  go true here others same = (let is : y ≡ x = cc in subst (λ z. p z ≡ true) is here)
  go false past others same = others same

-- a plan that is found is the slice of the parameter
pub slice-found : (db : Database) (params : List ParamSlice) (name : List ℕ) (s : ParamSlice) → IsParamsOf db params → find (λ slice. bytes_eq slice.pcf.name name) params ≡ Some s → IsSliceOf db name s
slice-found db params name s plans found = go (parameter db.pcf name) refl (sym (plans name) ∙ found) where
  sliced : (row : PcfRow) → parameter db.pcf name ≡ Some row → slice_for db row ≡ s → IsSliceOf db name s
  sliced row here is =
      let named : row.name ≡ name = (bytes_eq-Decides row.name name).0 (found-passes (λ r. bytes_eq r.name name) db.pcf row here) in
      subst (λ (t : ParamSlice). IsSliceOf db name t) is (record {
        row = here;
        curve = have-curves db row;
        ocf = ap (check_of db) named;
        ocps = ap (checks_of db) named;
      })

  by : (row : PcfRow) → parameter db.pcf name ≡ Some row → (b : Bool) → cond b (Some (slice_for db row)) None ≡ Some s → IsSliceOf db name s
  by row here true same = sliced row here (cc)
  by row here false same = absurd (cc)

  go : (p : Option PcfRow) → parameter db.pcf name ≡ p → option_and_then (planned db) p ≡ Some s → IsSliceOf db name s
  go None here same = absurd (cc)
  go (Some row) here same = by row here (has_plan row) same

no-curve : (b : Bool) (raw : ℤ) (curve : Option CurveRows) → curve ≡ None → ◌≡◌ {A = Option Calibrated} None (cond b (option_map (λ rows. calibration rows raw) curve) None)
no-curve false raw curve h = refl
no-curve true raw None h = refl
no-curve true raw (Some rows) h = absurd (cc h)

-- a value of a plain parameter
pub finish-plain : (db : Database) (memory : Memory) (v : Value) (s : ParamSlice) → IsSliceOf db v.name s → is_plain s ≡ true
    → ◌≡◌ {A = Finished} (memory, record { value = v; tail = Plain; change = None }) (finished db memory v)
finish-plain db memory v s is plain =
    let valid : is_valid memory s.pcf ≡ true = rw (plain-valid s plain) refl in
    let given = no-curve (has_number v.shape.sort) v.raw (curve_in s memory) (plain-curve s plain memory) ∙ given-same db memory v s is in
    finish-valid db memory v s None Plain (memory, None) is valid given refl (ap (checked_by db memory v None) (sym (plain-ocf s plain) ∙ is.ocf))

pub some-item : {X : Type 0} (xs : List X) (i : ℕ) → i < length xs → X
some-item [] i below = absurd (omega (arith, below))
some-item (x ∷ xs) i below = x

-- values finished, and one more
pub finished-more : (db : Database) (memory : Memory) (vs : List Value) (v : Value)
    → all_finished db memory (vs ++ v ∷ []) ≡ ((finished db (all_finished db memory vs).0 v).0, (all_finished db memory vs).1 ++ (finished db (all_finished db memory vs).0 v).1 ∷ [])
unfolding all_finished
finished-more db memory [] v = refl
finished-more db memory (u ∷ vs) v = ap (in_front (finished db memory u).1) (finished-more db (finished db memory u).0 vs v)

flat_map-push : {X A : Type 0} (f : X → List A) (xs : List X) (x : X) → flat_map f (xs ++ x ∷ []) ≡ flat_map f xs ++ f x
flat_map-push f xs x = flat_map-append f xs (x ∷ []) ∙ ap (λ t. flat_map f xs ++ t) (append-nil (f x))

-- no value finished
pub are-none : (db : Database) (packet : List ℕ) (memory : Memory) (text : List ℕ) → AreFinished db packet [] memory memory text text
unfolding all_finished
are-none db packet memory text = record { memory = refl; text = sym (append-nil text) }

-- values finished, and one more
pub are-more : (db : Database) (packet : List ℕ) (vs : List Value) (v : Value) (m n o : Memory) (x y z : List ℕ) → AreFinished db packet vs m n x y → IsFinished db packet v n o y z → AreFinished db packet (vs ++ v ∷ []) m o x z
are-more db packet vs v m n o x y z front last =
    let more = finished-more db m vs v in
    record {
      memory = last.memory ∙ (ap (λ (k : Memory). (finished db k v).0) front.memory ∙ sym (ap (λ (f : Memory × List Told). f.0) more));
      text = last.text ∙ (ap (λ (k : Memory). y ++ told_text packet (finished db k v).1) front.memory ∙
          (ap (λ (t : List ℕ). t ++ told_text packet (finished db (all_finished db m vs).0 v).1) front.text ∙
          (append_assoc x (flat_map (told_text packet) (all_finished db m vs).1) (told_text packet (finished db (all_finished db m vs).0 v).1) ∙
          ap (λ (t : List ℕ). x ++ t) (sym (ap (λ (f : Memory × List Told). flat_map (told_text packet) f.1) more ∙ flat_map-push (told_text packet) (all_finished db m vs).1 (finished db (all_finished db m vs).0 v).1)))));
    }

-- what holds of all items holds of one
pub each-item : {X : Type 0} (P : X → Type 0) (xs : List X) (i : ℕ) (x : X) → i < length xs → x ≡ get_or xs i x → All P xs → P x
each-item P xs i x below is all = subst P (sym is) (all i x below)
