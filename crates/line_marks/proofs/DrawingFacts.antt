-- What is drawn of a value shows it, whatever is kept.
use Rattle.std.proofs.Common.{◌≡◌, ◌∙◌, ℕ, Bool, true, false, List, ◌++◌, Option, Some, None, option_map, get_or, find, refl, sym, ap, append-nil}
use Rattle.std.proofs.lemmas.List.Quantifiers.{position-Some}
use Rattle.std.specs.List.{position}
use Rattle.std.specs.Str.{bytes_eq}
use Rattle.check_plan.specs.Rows.{CheckRows}
use Rattle.mib_model.specs.declared.check.Class.{Class}
use Rattle.mib_model.specs.declared.check.Class.TheVariants.{Nominal}
use Rattle.mib_model.specs.declared.database.Database.{Database}
use Rattle.mib_model.specs.declared.packet.Value.{Value}
use Rattle.mib_model.specs.declared.rows.OcfRow.{OcfRow}
use Rattle.mib_model.specs.AlarmTexts.{change_text_of}
use Rattle.mib_model.specs.Alarms.{Watch, alarm}
use Rattle.mib_model.specs.Calibrated.{Calibrated}
use Rattle.mib_model.specs.Carry.{check_of}
use Rattle.mib_model.specs.Checks.{Sample, checks_of, class_of}
use Rattle.mib_model.specs.Curves.{calibration}
use Rattle.mib_model.specs.Finish.{Finished, checked_by, given_for, sample_for, tail_for, with_alarm}
use Rattle.mib_model.specs.Kept.{Memory, empty_memory, has_number}
use Rattle.mib_model.specs.Tails.{Tail, Plain}
use Rattle.mib_model.specs.Texts.{told_text, value_text}
use Rattle.param_plan.specs.Slices.{ParamSlice, checks_in, curve_in}
use Rattle.line_marks.specs.declared.mark.Mark.{Mark}
use Rattle.line_marks.specs.declared.mark.Mark.TheVariants as mark
use Rattle.param_state.specs.ParamPlans.{IsSliceOf}
use Rattle.param_state.specs.FinishedValues.{checked_given}
use Rattle.line_marks.specs.Marks.{IsMarkOf, IsMarked, IsSettled, IsShown, Shown, after_nominal}
use Rattle.param_state.proofs.ValueFacts.{finish-numberless, finish-valid, found-first, given-number}

-- what is kept after a value, and its lines, by what is told of it
abbrev shown_of : List ℕ → Finished → Shown
shown_of packet done = (done.0, told_text packet done.1)

-- what a curve makes of a value of a settled parameter, whatever is kept
pub given-settled : (db : Database) (v : Value) (s : ParamSlice) (given : Option Calibrated) → IsSliceOf db v.name s → IsSettled s → has_number v.shape.sort ≡ true
    → given ≡ option_map (λ rows. calibration rows v.raw) (curve_in s empty_memory) → (memory : Memory) → given ≡ given_for db s.pcf memory v
given-settled db v s given is settled number made memory =
    given-number db memory v s given is number (made ∙ sym (ap (option_map (λ rows. calibration rows v.raw)) (settled.curve memory)))

-- the line of a value with its mark shows it
pub shown-marked : (db : Database) (packet : List ℕ) (v : Value) (s : ParamSlice) (given : Option Calibrated) (tail : Tail) (m : Mark) (line : List ℕ) → IsSliceOf db v.name s → IsSettled s
    → ((memory : Memory) → given ≡ given_for db s.pcf memory v) → tail ≡ tail_for s.pcf.decim given → IsMarked db v given m → line ≡ value_text v packet tail → IsShown db packet v (m, line)
shown-marked db packet v s given tail mark.Told line is settled made tailed marked text = λ memory.
    let done = finish-valid db memory v s given tail (memory, None) is (settled.valid memory) (made memory) tailed (marked memory) in
    ap (λ (t : List ℕ). (memory, t)) (text ∙ sym (append-nil (value_text v packet tail))) ∙ ap (shown_of packet) done
shown-marked db packet v s given tail (mark.Nominal number) line is settled made tailed marked text = λ memory.
    let checked = after_nominal memory v.name number.count in
    let done = finish-valid db memory v s given tail checked is (settled.valid memory) (made memory) tailed (marked memory) in
    ap (λ (t : List ℕ). (checked.0, t ++ change_text_of v.name checked.1)) text ∙ ap (shown_of packet) done
shown-marked db packet v s given tail mark.Open line is settled made tailed marked text = λ memory. refl

-- the line of a value that has no number shows it
pub shown-numberless : (db : Database) (packet : List ℕ) (v : Value) (s : ParamSlice) (line : List ℕ) → IsSliceOf db v.name s → IsSettled s → has_number v.shape.sort ≡ false
    → line ≡ value_text v packet Plain → IsShown db packet v (mark.Told, line)
shown-numberless db packet v s line is settled number text = λ memory.
    let done = finish-numberless db memory v s is (settled.valid memory) number in
    ap (λ (t : List ℕ). (memory, t)) (text ∙ sym (append-nil (value_text v packet Plain))) ∙ ap (shown_of packet) done

-- whatever is spoken of, and however many samples are, a nominal one does the same
nominal-step : (watch : Watch) (class : Class) (repeats : ℕ) → class ≡ Nominal → alarm watch class repeats ≡ alarm watch Nominal 0
unfolding alarm
nominal-step watch class repeats is = ap (λ (c : Class). alarm watch c repeats) is

-- a value by the check of its name
checked-sample : (db : Database) (v : Value) (given : Option Calibrated) (rows : CheckRows) (sample : Sample) → check_of db v.name ≡ Some rows.ocf → checks_of db v.name ≡ rows.ocps
    → has_number v.shape.sort ≡ true → sample_for rows.ocf v.raw given ≡ Some sample → (memory : Memory)
    → with_alarm memory v.name sample (alarm ((memory v.name).spoken, (memory v.name).run) (class_of rows.ocps sample (memory v.name).previous memory) rows.ocf.nbchck)
    ≡ checked_given db memory v given
checked-sample db v given rows sample check checks number sampled memory =
    sym (ap (checked_by db memory v given) check ∙ (rw (number, sampled, checks) refl))

-- what the mark of a sample says is said of its value
pub marked-sample : (db : Database) (v : Value) (given : Option Calibrated) (rows : CheckRows) (sample : Sample) (m : Mark) → check_of db v.name ≡ Some rows.ocf → checks_of db v.name ≡ rows.ocps
    → has_number v.shape.sort ≡ true → sample_for rows.ocf v.raw given ≡ Some sample → IsMarkOf rows sample m → IsMarked db v given m
marked-sample db v given rows sample mark.Told check checks number sampled says = absurd says
marked-sample db v given rows sample (mark.Nominal nominal) check checks number sampled says = λ memory.
    let watch : Watch = ((memory v.name).spoken, (memory v.name).run) in
    let step = nominal-step watch _ rows.ocf.nbchck (says.1 (memory v.name).previous memory) in
    (λ i. with_alarm memory v.name (sym says.0 i) (sym step i)) ∙ checked-sample db v given rows sample check checks number sampled memory
marked-sample db v given rows sample mark.Open check checks number sampled says = tt

-- the rows of a check, by the slice
pub marked-given : (db : Database) (v : Value) (s : ParamSlice) (given : Option Calibrated) (rows : CheckRows) (sample : Sample) (m : Mark) → IsSliceOf db v.name s
    → ◌≡◌ {A = Option CheckRows} (Some rows) (checks_in s) → has_number v.shape.sort ≡ true → sample_for rows.ocf v.raw given ≡ Some sample → IsMarkOf rows sample m → IsMarked db v given m
marked-given db v s given rows sample m is checks number sampled says = go s.ocf refl checks where
  go : (ocf : Option OcfRow) → s.ocf ≡ ocf → ◌≡◌ {A = Option CheckRows} (Some rows) (option_map (λ row. record { ocf = row; ocps = s.ocps }) ocf) → IsMarked db v given m
  go None here same = absurd (cc)
  go (Some row) here same =
      let is_rows : ◌≡◌ {A = CheckRows} rows (record { ocf = row; ocps = s.ocps }) = cc same in
      let check : check_of db v.name ≡ Some rows.ocf = sym is.ocf ∙ (here ∙ sym (ap (λ (r : CheckRows). Some r.ocf) is_rows)) in
      let checks' : checks_of db v.name ≡ rows.ocps = sym is.ocps ∙ sym (ap (λ (r : CheckRows). r.ocps) is_rows) in
      marked-sample db v given rows sample m check checks' number sampled says

-- the plan at the place of a name is what is found by the name
pub found-at : (params : List ParamSlice) (name : List ℕ) (i : ℕ) (s : ParamSlice) → position (λ slice. bytes_eq slice.pcf.name name) params ≡ Some i → s ≡ get_or params i s
    → find (λ slice. bytes_eq slice.pcf.name name) params ≡ Some s
found-at params name i s at is =
    let named : ParamSlice → Bool = λ slice. bytes_eq slice.pcf.name name in
    let place = position-Some named params i s at in
    found-first named params i s place.0 place.1 place.2 ∙ ap Some (sym is)
