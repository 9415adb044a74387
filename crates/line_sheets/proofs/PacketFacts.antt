-- The lines of values behind a sheet.
use Rattle.std.proofs.Common.{◌≡◌, ◌∙◌, ℕ, ℤ, ◌<◌, Bool, true, false, cond, List, [], ◌∷◌, ◌++◌, Option, Some, None, length, get_or, codes, refl, sym, ap, append_assoc, append-nil}
use Rattle.std.proofs.lemmas.List.Concat.{flat_map-append}
use Rattle.std.specs.List.{flat_map}
use Rattle.mib_model.specs.declared.database.Database.{Database}
use Rattle.mib_model.specs.declared.number.Eng.{Eng}
use Rattle.mib_model.specs.declared.packet.Value.{Value}
use Rattle.mib_model.specs.declared.rows.OcfRow.{OcfRow}
use Rattle.mib_model.specs.declared.rows.PcfRow.{PcfRow}
use Rattle.mib_model.specs.AlarmTexts.{change_text_of}
use Rattle.mib_model.specs.Carry.{check_of}
use Rattle.mib_model.specs.Finish.{all_finished, checked_by, finished, finished_by, given_for, is_valid, tail_for, told}
use Rattle.mib_model.specs.Kept.{Memory, entered, has_number}
use Rattle.mib_model.specs.Parameters.{parameter}
use Rattle.mib_model.specs.Tails.{Tail, Told}
use Rattle.mib_model.specs.Texts.{tail_text, told_text, value_text}
use Rattle.record_text.specs.ValueParts.{begin_text}
use Rattle.line_marks.specs.declared.mark.Mark.TheVariants as mark
use Rattle.param_state.specs.FinishedValues.{bare_value}
use Rattle.fold_state.specs.Opened.{open_text, opened}
use Rattle.line_marks.specs.Marks.{IsShown, finished_lines, told_after_nominal}
use Rattle.param_state.proofs.ValueFacts.{finished-more}
use Rattle.line_sheets.specs.Pieces.{Played, and_then, behind}
use Rattle.line_sheets.specs.Sheets.{Calmed, Entered, Opened, SheetView, with_act, with_text}
use Rattle.line_sheets.specs.Drawings.{Adds, values_played}
use Rattle.line_sheets.proofs.AddFacts.{adds-act, adds-same, adds-text, adds-then}

cut-behind : (a b c d : List ℕ) → a ++ b ++ c ++ d ≡ a ++ (b ++ c ++ d)
cut-behind a b c d = simp append_assoc

-- a line cut behind its raw number
line-cut : (v : Value) (packet : List ℕ) (tail : Tail) (change : List ℕ) → value_text v packet tail ++ change ≡ begin_text v packet ++ (tail_text tail ++ codes "\n" ++ change)
unfolding value_text
line-cut v packet tail change = cut-behind (begin_text v packet) (tail_text tail) (codes "\n") change

-- a value that is valid, by a value of its name and its raw number
bare-valid : (db : Database) (memory : Memory) (v : Value) (row : PcfRow) (check : Option OcfRow) (b : Bool) (u : Value) → has_number v.shape.sort ≡ b → u ≡ bare_value v.name (cond b (Some v.raw) None)
    → opened (told u (tail_for row.decim (given_for db row memory u)) (checked_by db memory u (given_for db row memory u) check))
    ≡ opened (told v (tail_for row.decim (given_for db row memory v)) (checked_by db memory v (given_for db row memory v) check))
bare-valid db memory v row None true u number is = rw (is, number) refl
bare-valid db memory v row None false u number is = rw (is, number) refl
bare-valid db memory v row (Some c) true u number is = rw (is, number) refl
bare-valid db memory v row (Some c) false u number is = rw (is, number) refl

-- what is told of a value, with a number or without one, by a value of its name and its raw number
bare-by : (db : Database) (memory : Memory) (v : Value) (row : Option PcfRow) (b : Bool) → has_number v.shape.sort ≡ b
    → opened (finished_by db memory (bare_value v.name (cond b (Some v.raw) None)) row) ≡ opened (finished_by db memory v row)
bare-by db memory v None true number = refl
bare-by db memory v None false number = refl
bare-by db memory v (Some row) true number = go (is_valid memory row) refl where
  go : (b : Bool) → is_valid memory row ≡ b → opened (finished_by db memory (bare_value v.name (Some v.raw)) (Some row)) ≡ opened (finished_by db memory v (Some row))
  go true is = rw is (bare-valid db memory v row (check_of db v.name) true (bare_value v.name (Some v.raw)) number refl)
  go false is = rw is refl
bare-by db memory v (Some row) false number = go (is_valid memory row) refl where
  go : (b : Bool) → is_valid memory row ≡ b → opened (finished_by db memory (bare_value v.name None) (Some row)) ≡ opened (finished_by db memory v (Some row))
  go true is = rw is (bare-valid db memory v row (check_of db v.name) false (bare_value v.name None) number refl)
  go false is = rw is refl

-- how the line of a value goes on, by its name and its raw number alone
bare-same : (db : Database) (memory : Memory) (v : Value) (b : Bool) → has_number v.shape.sort ≡ b → opened (finished db memory (bare_value v.name (cond b (Some v.raw) None))) ≡ opened (finished db memory v)
unfolding finished
bare-same db memory v true number = bare-by db memory v (parameter db.pcf v.name) true number
bare-same db memory v false number = bare-by db memory v (parameter db.pcf v.name) false number

-- what is told of a value has the value
told-value : (db : Database) (memory : Memory) (v : Value) → (finished db memory v).1.value ≡ v
unfolding finished
told-value db memory v = go (parameter db.pcf v.name) where
  by : (row : PcfRow) (b : Bool) → is_valid memory row ≡ b → (finished_by db memory v (Some row)).1.value ≡ v
  by row true is = rw is refl
  by row false is = rw is refl

  go : (p : Option PcfRow) → (finished_by db memory v p).1.value ≡ v
  go None = refl
  go (Some row) = by row (is_valid memory row) refl

-- a value whose line goes on by what is kept
open-played : (db : Database) (packet : List ℕ) (v : Value) (b : Bool) (memory : Memory) → has_number v.shape.sort ≡ b
    → behind (begin_text v packet) (opened (finished db memory (bare_value v.name (cond b (Some v.raw) None)))) ≡ finished_lines db packet memory v
open-played db packet v b memory number =
    let done = finished db memory v in
    let front = begin_text v packet in
    ap (λ (p : Played). (p.0, front ++ p.1)) (bare-same db memory v b number) ∙
    (ap (λ (u : Value). (done.0, begin_text u packet ++ open_text done.1)) (sym (told-value db memory v)) ∙
    ap (λ (t : List ℕ). (done.0, t)) (sym (line-cut done.1.value packet done.1.tail (change_text_of done.1.value.name done.1.change))))

-- a line with which nothing is told
pub adds-told : (db : Database) (names : List (List ℕ)) (packet : List ℕ) (v : Value) (old : SheetView) (line : List ℕ) → IsShown db packet v (mark.Told, line)
    → Adds db names old (with_text old line) (λ memory. finished_lines db packet memory v)
adds-told db names packet v old line shown =
    adds-same db names old (with_text old line) (λ memory. (memory, line)) (λ memory. finished_lines db packet memory v) (adds-text db names old line) shown

module _ (db : Database) (names : List (List ℕ)) (packet : List ℕ) (v : Value) (old : SheetView) (seat : ℕ) (named : get_or names seat [] ≡ v.name) (below : seat < length names) where
  -- a line of a nominal number
  pub adds-calm : (line : List ℕ) (number : Eng) → IsShown db packet v (mark.Nominal number, line)
      → Adds db names old (with_act (with_text old line) (Calmed seat number.count)) (λ memory. finished_lines db packet memory v)
  adds-calm line number shown =
      let middle = with_text old line in
      let both = adds-then db names old middle (with_act middle (Calmed seat number.count)) (λ memory. (memory, line)) _ (adds-text db names old line) (adds-act db names middle (Calmed seat number.count) below) in
      adds-same db names old (with_act middle (Calmed seat number.count)) _ (λ memory. finished_lines db packet memory v) both
      (λ memory. ap (λ (name : List ℕ). behind line (told_after_nominal memory name number.count)) named ∙ shown memory)

  -- a line that goes on by what is kept
  pub adds-open : (b : Bool) → has_number v.shape.sort ≡ b
      → Adds db names old (with_act (with_text old (begin_text v packet)) (Opened seat (cond b (Some v.raw) None))) (λ memory. finished_lines db packet memory v)
  adds-open b number =
      let line = begin_text v packet in
      let middle = with_text old line in
      let raw : Option ℤ = cond b (Some v.raw) None in
      let both = adds-then db names old middle (with_act middle (Opened seat raw)) (λ memory. (memory, line)) _ (adds-text db names old line) (adds-act db names middle (Opened seat raw) below) in
      adds-same db names old (with_act middle (Opened seat raw)) _ (λ memory. finished_lines db packet memory v) both
      (λ memory. ap (λ (name : List ℕ). behind line (opened (finished db memory (bare_value name raw)))) named ∙ open-played db packet v b memory number)

  -- a raw number
  pub adds-entry : has_number v.shape.sort ≡ true → Adds db names old (with_act old (Entered seat v.raw)) (λ memory. (entered memory v, []))
  adds-entry number = adds-same db names old (with_act old (Entered seat v.raw)) _ (λ memory. (entered memory v, [])) (adds-act db names old (Entered seat v.raw) below)
      (λ memory. ap (λ (name : List ℕ). (entered memory (bare_value name (Some v.raw)), [])) named ∙ entry-same memory number)
    where
      entry-same : (memory : Memory) → has_number v.shape.sort ≡ true → ◌≡◌ {A = Played} (entered memory (bare_value v.name (Some v.raw)), []) (entered memory v, [])
      entry-same memory number = rw number refl

-- a value without a number is entered by nothing
pub entered-none : (memory : Memory) (v : Value) → has_number v.shape.sort ≡ false → entered memory v ≡ memory
entered-none memory v number = rw number refl

flat_map-push : {X A : Type 0} (f : X → List A) (xs : List X) (x : X) → flat_map f (xs ++ x ∷ []) ≡ flat_map f xs ++ f x
flat_map-push f xs x = flat_map-append f xs (x ∷ []) ∙ ap (λ t. flat_map f xs ++ t) (append-nil (f x))

-- the lines of values, and of one more
pub values-more : (db : Database) (packet : List ℕ) (vs : List Value) (v : Value) (memory : Memory)
    → and_then (values_played db packet vs memory) (λ (m : Memory). finished_lines db packet m v) ≡ values_played db packet (vs ++ v ∷ []) memory
values-more db packet vs v memory =
    let front = all_finished db memory vs in
    let last = finished db front.0 v in
    ap (λ (t : List ℕ). (last.0, t)) (sym (flat_map-push (told_text packet) front.1 last.1)) ∙
    ap (λ (done : Memory × List Told). (done.0, flat_map (told_text packet) done.1)) (sym (finished-more db memory vs v))

-- no values
pub values-none : (db : Database) (packet : List ℕ) (memory : Memory) → ◌≡◌ {A = Played} (memory, []) (values_played db packet [] memory)
unfolding all_finished
values-none db packet memory = refl
