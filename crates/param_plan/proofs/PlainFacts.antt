-- What holds of a plan that is plain.
use Rattle.std.proofs.Common.{◌≡◌, ◌∙◌, ℕ, ◌<◌, Bool, true, false, ◌&&◌, ◌==◌, not, List, [], ◌∷◌, Option, Some, None, option_and_then, find, map, get_or, length, refl, sym, ap, arith, Global}
use Rattle.std.proofs.lemmas.Bool.Decides.{nat_tests}
use Rattle.std.proofs.lemmas.List.{get_or-map, get_or_default}
use Rattle.std.specs.Arc.{arc_value}
use Rattle.std.specs.declared.sync.Arc.{Arc}
use Rattle.std.specs.Option.{is_some}
use Rattle.mib_model.specs.declared.plan.CurveRows.{CurveRows}
use Rattle.mib_model.specs.declared.rows.CurRow.{CurRow}
use Rattle.mib_model.specs.Finish.{is_valid}
use Rattle.mib_model.specs.Kept.{Memory}
use Rattle.mib_model.specs.Kept.{is_met as met}
use Rattle.param_plan.specs.declared.choice.Selection.{Selection}
use Rattle.param_plan.specs.Choices.{is_met, only_curve, selections_in}
use Rattle.param_plan.specs.Plain.{has_no_curve, is_plain, plain_at, plain_behind}
use Rattle.param_plan.specs.Slices.{ParamSlice, curve_by, curve_in}
use Rattle.param_plan.proofs.ChoiceFacts.{chosen-same}

both : (a b : Bool) → (a && b) ≡ true → (a ≡ true) × (b ≡ true)
both true true h = (refl, refl)
both true false h = absurd (cc h)
both false b h = absurd (cc h)

nothing : {A : Type 0} (x : Option A) → not (is_some x) ≡ true → x ≡ None
nothing None h = refl
nothing (Some x) h = absurd (cc h)

no-items : {A : Type 0} (xs : List A) → (length xs == 0) ≡ true → xs ≡ []
no-items [] h = refl
no-items (x ∷ xs) h = absurd (grind (arith, nat_tests, h))

-- what a plan that is plain has none of: no condition, no curve by CURTX, no selection, no check
record Parts (s : ParamSlice) : Type 0 where
  condition : not (is_some s.pcf.valid) ≡ true
  only : not (is_some (only_curve s.pcf.curtx s.curves)) ≡ true
  selections : (length (selections_in s.pcf.curtx s.curs s.curves) == 0) ≡ true
  check : not (is_some s.ocf) ≡ true

parts : (s : ParamSlice) → is_plain s ≡ true → Parts s
unfolding is_plain
parts s plain =
    let last = both (not (is_some s.pcf.valid) && has_no_curve s) (not (is_some s.ocf)) plain in
    let front = both (not (is_some s.pcf.valid)) (has_no_curve s) last.0 in
    let curves = both (not (is_some (only_curve s.pcf.curtx s.curves))) (length (selections_in s.pcf.curtx s.curs s.curves) == 0) front.1 in
    record { condition = front.0; only = curves.0; selections = curves.1; check = last.1 }

-- it has no condition
pub plain-valid : (s : ParamSlice) → is_plain s ≡ true → s.pcf.valid ≡ None
plain-valid s plain = nothing s.pcf.valid (parts s plain).condition

-- it has no check
pub plain-ocf : (s : ParamSlice) → is_plain s ≡ true → s.ocf ≡ None
plain-ocf s plain = nothing s.ocf (parts s plain).check

-- it has no curve
pub plain-curve : (s : ParamSlice) → is_plain s ≡ true → (memory : Memory) → curve_in s memory ≡ None
plain-curve s plain memory =
    let only = nothing (only_curve s.pcf.curtx s.curves) (parts s plain).only in
    let none = no-items (selections_in s.pcf.curtx s.curs s.curves) (parts s plain).selections in
    let chosen : List Selection → Option CurveRows = λ selections. option_and_then (λ selection. selection.choice) (find (is_met memory) selections) in
    sym (chosen-same memory s.pcf.curtx s.curs s.curves only) ∙ ap chosen none

map-again : {X Y Z : Type 0} (f : X → Y) (g : Y → Z) (xs : List X) → map (λ x. g (f x)) xs ≡ map g (map f xs)
map-again f g [] = refl
map-again f g (x ∷ xs) = ap (λ zs. g (f x) ∷ zs) (map-again f g xs)

-- marks beside plans are those of their slices
pub marks-same : (plans : List (Arc ParamSlice Global)) (params : List ParamSlice) → map arc_value plans ≡ params
    → map plain_behind plans ≡ map is_plain params
marks-same plans params seen = map-again arc_value is_plain plans ∙ ap (λ (slices : List ParamSlice). map is_plain slices) seen

-- the mark at a place says whether the plan there is plain
pub mark-at : (marks : List Bool) (params : List ParamSlice) (at : ℕ) (mark : Bool) → marks ≡ map is_plain params → at < length marks
    → mark ≡ get_or marks at mark → mark ≡ plain_at params at
mark-at marks params at mark same below is =
    is ∙ (get_or_default marks at mark false below ∙ ap (λ (marks : List Bool). get_or marks at false) same)

-- the plan at a place is plain by its own slice
pub plan-at : (plans : List (Arc ParamSlice Global)) (params : List ParamSlice) (at : ℕ) (plan : Arc ParamSlice Global) → map arc_value plans ≡ params
    → at < length plans → plan ≡ get_or plans at plan → is_plain (arc_value plan) ≡ plain_at params at
plan-at plans params at plan seen below is =
    ap plain_behind is ∙ (sym (get_or-map plain_behind plans at plan false below) ∙ ap (λ (marks : List Bool). get_or marks at false) (marks-same plans params seen))

-- what has no condition is valid whatever is kept
pub settled-valid : (s : ParamSlice) (conditional : Bool) → conditional ≡ is_some s.pcf.valid → conditional ≡ false → (memory : Memory)
    → is_valid memory s.pcf ≡ true
settled-valid s conditional is none memory = go s.pcf.valid (sym is ∙ none) where
  go : (name : Option (List ℕ)) → is_some name ≡ false → met memory name s.pcf.valpar ≡ true
  go None h = refl
  go (Some name) h = absurd (cc h)

by-rows : (m n : Memory) (curtx : Option (List ℕ)) (curs : List CurRow) (curves : List (Option CurveRows)) → selections_in curtx curs curves ≡ []
    → curve_by m curtx curs curves ≡ curve_by n curtx curs curves
by-rows m n (Some name) curs curves none = refl
by-rows m n None curs curves none =
    let chosen : Memory → List Selection → Option CurveRows = λ memory selections. option_and_then (λ selection. selection.choice) (find (is_met memory) selections) in
    sym (chosen-same m None curs curves refl) ∙ (ap (chosen m) none ∙ (sym (ap (chosen n) none) ∙ chosen-same n None curs curves refl))

-- what has no selections has one curve, or none, whatever is kept
pub settled-curve : (s : ParamSlice) (selections : List Selection) → selections ≡ selections_in s.pcf.curtx s.curs s.curves → selections ≡ []
    → (m n : Memory) → curve_in s m ≡ curve_in s n
settled-curve s selections is none m n = by-rows m n s.pcf.curtx s.curs s.curves (sym is ∙ none)
