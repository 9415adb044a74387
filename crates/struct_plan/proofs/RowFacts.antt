-- One row of a walk, by its entry.
use Rattle.std.proofs.Common.{◌≡◌, ◌≢◌, ℕ, zero, suc, ◌+◌, ◌<◌, ◌≤◌, ℤ, ◌+ℤ◌, Bool, true, false, not, cond, nat_eq, List, [], ◌∷◌, length, take, drop, map, get_or, Option, Some, None, option_map, option_and_then, refl, sym, ap, subst, ◌∙◌, arith}
use Rattle.std.proofs.lemmas.Bool.{eqb-false}
use Rattle.std.proofs.lemmas.Slice.Eq.{bytes_eq-Decides}
use Rattle.std.proofs.lemmas.List.{drop_more, length-map, get_or-map}
use Rattle.std.proofs.lemmas.List.Folds.{list_any_at}
use Rattle.std.specs.List.{list_any}
use Rattle.std.specs.Str.{bytes_eq}
use Rattle.mib_model.specs.declared.database.Database.{Database}
use Rattle.mib_model.specs.declared.packet.Value.{Value}
use Rattle.mib_model.specs.declared.plan.TypeItem.{TypeItem}
use Rattle.mib_model.specs.declared.rows.PcfRow.{PcfRow}
use Rattle.mib_model.specs.declared.rows.VpdRow.{VpdRow}
use Rattle.mib_model.specs.Encodings.{Encoding, encoding_of}
use Rattle.mib_model.specs.Fixed.{most_values}
use Rattle.mib_model.specs.Layouts.{item_named}
use Rattle.mib_model.specs.Parameters.{parameter, endian_of}
use Rattle.mib_model.specs.Plans.{type_item, type_items}
use Rattle.mib_model.specs.Structures.{Typed, typed, subject, deduced, own_or_deduced, group_repeated, is_yes}
use Rattle.mib_model.specs.Walk.{Goes}
use Rattle.struct_plan.specs.Sources.{Source, Walked, Steps, on_row_by, on_subject_by}
use Rattle.mib_laws.proofs.Nesting.{Nested, nested-drop}
use Rattle.mib_laws.proofs.SliceFacts.{item_from, named}
use Rattle.struct_plan.specs.declared.course.WalkCourse.{WalkCourse}
use Rattle.struct_plan.specs.declared.entry.Act.TheVariants as act
use Rattle.struct_plan.specs.declared.entry.StructureRow.{StructureRow}
use Rattle.struct_plan.specs.declared.entry.ValueField.{ValueField}
use Rattle.struct_plan.specs.declared.entry.Subject.{Subject}
use Rattle.struct_plan.specs.declared.entry.Then.{Then}
use Rattle.struct_plan.specs.declared.entry.Then.TheVariants as then
use Rattle.struct_plan.specs.declared.group.RowGroup.{RowGroup}
use Rattle.struct_plan.specs.Courses.{Gives, Moves, IsStructure, walking}
use Rattle.struct_plan.specs.Entries.{entry_of, act_of, field_of, field_at, item_field, subject_by, own, then_of}
use Rattle.struct_plan.specs.Groups.{size_at, still_to_walk, Enclose, Ahead}
use Rattle.struct_plan.specs.Slices.{StructureRows}
use Rattle.struct_plan.proofs.EntryFacts.{head_or}
use Rattle.struct_plan.proofs.CourseFacts.{gives-row, gives-todo}
use Rattle.struct_plan.proofs.GroupFacts.{enclose-fewer, next-still, row-enclose}
use Rattle.struct_plan.proofs.KnownFacts.{fewer-suffice}
use Rattle.struct_plan.proofs.PlaceFacts.{structure-nested}

-- ---- what a row gives a value of, by the type items of its structure

field-typed : (row : PcfRow) (e : Option Encoding) → encoding_of row.ptc row.pfc (endian_of row.endian) ≡ e → item_field (type_item row) ≡ option_map field_of (typed row)
field-typed row None is = rw is refl
field-typed row (Some e) is = rw is refl

deduced-field : (found : Option PcfRow) → option_and_then item_field (option_map type_item found) ≡ option_map field_of (option_and_then typed found)
deduced-field None = refl
deduced-field (Some row) = field-typed row (encoding_of row.ptc row.pfc (endian_of row.endian)) refl

own-field : (db : Database) (last : ℤ) (field : Option ValueField) → field_at db last (own field) ≡ field
own-field db last None = refl
own-field db last (Some field) = refl

either-field : (db : Database) (last : ℤ) (row : PcfRow) (b : Bool) → nat_eq row.ptc 11 ≡ b
    → field_at db last (subject_by (Some (type_item row))) ≡ option_map field_of (option_and_then typed (own_or_deduced db last row))
either-field db last row true is = rw is (deduced-field (deduced db last))
either-field db last row false is = rw is (own-field db last (item_field (type_item row)) ∙ field-typed row (encoding_of row.ptc row.pfc (endian_of row.endian)) refl)

found-field : (db : Database) (last : ℤ) (found : Option PcfRow) → field_at db last (subject_by (item_from found)) ≡ option_map field_of (option_and_then typed (option_and_then (own_or_deduced db last) found))
found-field db last None = refl
found-field db last (Some row) = either-field db last row (nat_eq row.ptc 11) refl

-- a row among others
item-at : (db : Database) (rows : List VpdRow) (at : ℕ) (row : VpdRow) (rest : List VpdRow) → at < length rows → drop at rows ≡ row ∷ rest → item_named (type_items db (map (λ r. r.name) rows)) row.name ≡ item_from (parameter db.pcf row.name)
item-at db rows at row rest lt here =
    let names : List (List ℕ) = map (λ (r : VpdRow). r.name) rows in
    let n : List ℕ = row.name in
    let self : bytes_eq n n ≡ true = (bytes_eq-Decides n n).1 refl in
    let inside : at < length names = omega (arith, lt, length-map rows (λ (r : VpdRow). r.name)) in
    let same : get_or rows at row ≡ row = ap (λ (xs : List VpdRow). head_or xs row) (sym (drop_more rows at row lt) ∙ here) in
    let at-name : get_or names at n ≡ n = get_or-map (λ (r : VpdRow). r.name) rows at row n lt ∙ ap (λ (r : VpdRow). r.name) same in
    let there : list_any (λ m. bytes_eq m n) names ≡ true = list_any_at (λ m. bytes_eq m n) names at n inside (ap (λ (m : List ℕ). bytes_eq m n) at-name ∙ self) in
    named db n names ∙ ap (λ (b : Bool). cond b (item_from (parameter db.pcf n)) None) there

-- ---- the step of a row

first-at : (rows : List VpdRow) (at : ℕ) → at < length rows → (row : VpdRow) × (rest : List VpdRow) × (drop at rows ≡ row ∷ rest)
first-at [] at lt = absurd (omega (arith, lt))
first-at (r ∷ rs) zero lt = (r, rs, refl)
first-at (r ∷ rs) (suc at) lt = first-at rs at (omega (arith, lt))

repeat-act : (types : List TypeItem) (row : VpdRow) (times : ℕ) (b : Bool) → nat_eq row.fixrep 0 ≡ b → act_of types row ≡ act.Repeat times → (nat_eq row.fixrep 0 ≡ false) × (row.fixrep ≡ times)
repeat-act types row times true is same = absurd (cc (rw is at same))
repeat-act types row times false is same = (is, cc (rw is at same))

give-act : (types : List TypeItem) (row : VpdRow) (s : Subject) (after : Then) (b : Bool) → nat_eq row.fixrep 0 ≡ b → act_of types row ≡ act.Give s after → (nat_eq row.fixrep 0 ≡ true) × (subject_by (item_named types row.name) ≡ s) × (then_of row ≡ after)
give-act types row s after true is same = (is, cc (rw is at same), cc (rw is at same))
give-act types row s after false is same = absurd (cc (rw is at same))

counted-then : (b c d : Bool) → cond b then.Choose (cond (not c) then.Repeat (cond d then.Refer then.Next)) ≡ then.Repeat → c ≡ false
counted-then true c d h = absurd (cc h)
counted-then false false d h = refl
counted-then false true true h = absurd (cc h)
counted-then false true false h = absurd (cc h)

module _ (db : Database) (rows : StructureRows) (is : IsStructure db rows) (at : ℕ) (gs : List RowGroup) (entry : StructureRow) (inside : at < length rows.vpds)
    (around : Enclose rows.vpds at at gs) (before : Ahead rows.vpds at gs) (sized : entry.size ≡ size_at rows.vpds at)
    (compiled : (row : VpdRow) (rest : List VpdRow) → drop at rows.vpds ≡ row ∷ rest → entry ≡ entry_of rows.types row) where
  nested : Nested rows.vpds
  nested = structure-nested db rows is

  pub around-row : Enclose rows.vpds at (at + 1 + entry.size) gs
  around-row = subst (λ s. Enclose rows.vpds at (at + 1 + s) gs) (sym sized) (row-enclose rows.vpds nested at gs inside before around)

  around-next : Enclose rows.vpds at (at + 1) gs
  around-next = enclose-fewer rows.vpds at (at + 1 + entry.size) at (at + 1) gs (omega arith) (omega arith) around-row

  still-next : (row : VpdRow) (rest : List VpdRow) → drop at rows.vpds ≡ row ∷ rest → still_to_walk rows.vpds at gs ≡ row ∷ still_to_walk rows.vpds (at + 1) gs
  still-next row rest here = next-still rows.vpds at at gs row rest around-next here

  behind : List VpdRow
  behind = still_to_walk rows.vpds (at + 1) gs

  moved : WalkCourse → WalkCourse
  moved course = record course { cursor = course.cursor +ℤ entry.offset }

  -- the step of the row
  row-step : (source : Source) (end : Walked) (course : WalkCourse) (values : List Value) (row : VpdRow) (rest : List VpdRow) → drop at rows.vpds ≡ row ∷ rest
      → Gives db source end (walking (still_to_walk rows.vpds at gs) course values) → Moves db source end (on_row_by db source row behind (walking (row ∷ behind) (moved course) values))
  unfolding behind moved
  row-step source end course values row rest here gives =
      let same : row.offset ≡ entry.offset = ap (λ (e : StructureRow). e.offset) (sym (compiled row rest here)) in
      subst (λ (z : ℤ). Moves db source end (on_row_by db source row behind (walking (row ∷ behind) (record course { cursor = course.cursor +ℤ z }) values))) same
      (gives-row db source end row behind course values (gives-todo db source end (still_to_walk rows.vpds at gs) (row ∷ behind) course values (still-next row rest here) gives))

  above : (n : ℕ) → n ≢ 0 → 0 < n
  above zero other = absurd (other refl)
  above (suc n) other = omega arith

  -- a row that repeats its group
  pub repeats : (times : ℕ) → entry.act ≡ act.Repeat times → (0 < entry.size) × (0 < times)
  repeats times acts =
      let (row, rest, here) = first-at rows.vpds at inside in
      let compiled-act : act_of rows.types row ≡ act.Repeat times = ap (λ (e : StructureRow). e.act) (sym (compiled row rest here)) ∙ acts in
      let (some, same) = repeat-act rows.types row times (nat_eq row.fixrep 0) refl compiled-act in
      let fixed : row.fixrep ≢ 0 = eqb-false row.fixrep 0 some in
      let first = (subst Nested here (nested-drop at rows.vpds nested)).0 in
      let grouped : row.grpsize ≢ 0 = first.repeats fixed in
      let size : entry.size ≡ row.grpsize = ap (λ (e : StructureRow). e.size) (compiled row rest here) in
      (above entry.size (λ e. grouped (sym size ∙ e)), above times (λ e. fixed (same ∙ e)))

  if-not : (source : Source) (end : Walked) (b : Bool) (s t : _) → b ≡ false → Moves db source end (cond (not b) s t) → Moves db source end s
  if-not source end true s t is leads = absurd (cc is)
  if-not source end false s t is leads = leads

  if-so : (source : Source) (end : Walked) (b : Bool) (s t : _) → b ≡ true → Moves db source end (cond (not b) s t) → Moves db source end t
  if-so source end true s t is leads = leads
  if-so source end false s t is leads = absurd (cc is)

  pub repeat-gives : (source : Source) (end : Walked) (course : WalkCourse) (values : List Value) (times : ℕ) → entry.act ≡ act.Repeat times
      → Gives db source end (walking (still_to_walk rows.vpds at gs) course values)
      → Gives db source end (walking (group_repeated entry.size times (still_to_walk rows.vpds (at + 1) gs)) (record course { cursor = course.cursor +ℤ entry.offset }) values)
  unfolding behind moved
  repeat-gives source end course values times acts gives =
      let (row, rest, here) = first-at rows.vpds at inside in
      let compiled-act : act_of rows.types row ≡ act.Repeat times = ap (λ (e : StructureRow). e.act) (sym (compiled row rest here)) ∙ acts in
      let (some, same) = repeat-act rows.types row times (nat_eq row.fixrep 0) refl compiled-act in
      let size : row.grpsize ≡ entry.size = ap (λ (e : StructureRow). e.size) (sym (compiled row rest here)) in
      let leads : Gives db source end (walking (group_repeated row.grpsize row.fixrep behind) (moved course) values) =
      if-not source end (nat_eq row.fixrep 0) (Steps (Goes (walking (group_repeated row.grpsize row.fixrep behind) (moved course) values))) _ some (row-step source end course values row rest here gives) in
      subst (λ s. Gives db source end (walking (group_repeated s times behind) (moved course) values)) size
      (subst (λ n. Gives db source end (walking (group_repeated row.grpsize n behind) (moved course) values)) same leads)

  -- what a row that gives a value leads to
  pub record Gave (source : Source) (end : Walked) (course : WalkCourse) (values : List Value) (s : Subject) (what : Then) : Type 0 where
    pub row : VpdRow
    pub parameter : Option Typed
    pub found : field_at db course.last s ≡ option_map field_of parameter
    pub after : what ≡ then_of row
    pub size : entry.size ≡ row.grpsize
    pub leads : Moves db source end (on_subject_by db source row (still_to_walk rows.vpds (at + 1) gs) (walking (row ∷ still_to_walk rows.vpds (at + 1) gs) (record course { cursor = course.cursor +ℤ entry.offset }) values) parameter)

  pub give-leads : (source : Source) (end : Walked) (course : WalkCourse) (values : List Value) (s : Subject) (after : Then) → entry.act ≡ act.Give s after
      → Gives db source end (walking (still_to_walk rows.vpds at gs) course values) → Gave source end course values s after
  unfolding behind moved
  give-leads source end course values s after acts gives =
      let (row, rest, here) = first-at rows.vpds at inside in
      let compiled-act : act_of rows.types row ≡ act.Give s after = ap (λ (e : StructureRow). e.act) (sym (compiled row rest here)) ∙ acts in
      let (some, subjects, thens) = give-act rows.types row s after (nat_eq row.fixrep 0) refl compiled-act in
      let (tpsd, of_rows) = is.of_rows in
      let types : rows.types ≡ type_items db (map (λ (r : VpdRow). r.name) rows.vpds) =
      ap (λ (r : StructureRows). r.types) of_rows ∙ ap (λ (xs : List VpdRow). type_items db (map (λ (r : VpdRow). r.name) xs)) (sym (ap (λ (r : StructureRows). r.vpds) of_rows)) in
      let item : item_named rows.types row.name ≡ item_from (parameter db.pcf row.name) =
      ap (λ (items : List TypeItem). item_named items row.name) types ∙ item-at db rows.vpds at row rest inside here in
      record {
        row = row;
        parameter = option_and_then typed (subject db course.last row);
        found = ap (field_at db course.last) (sym subjects ∙ ap subject_by item) ∙ found-field db course.last (parameter db.pcf row.name);
        after = sym thens;
        size = ap (λ (e : StructureRow). e.size) (compiled row rest here);
        leads = if-so source end (nat_eq row.fixrep 0) _ _ some (row-step source end course values row rest here gives);
      }

  -- as many groups as matter behind a value
  pub gives-fewer : (source : Source) (end : Walked) (course : WalkCourse) (values : List Value) (n : ℕ) → length values ≤ most_values → 0 < n → most_values ≤ length values + n
      → Gives db source end (walking (still_to_walk rows.vpds at gs) course values) → Gives db source end (walking (still_to_walk rows.vpds at (take n gs)) course values)
  gives-fewer source end course values n few some many (steps, gives) =
      (steps, sym (fewer-suffice rows.vpds nested db source n steps at gs (walking [] course values) before around few some many) ∙ gives)

  -- a row whose group is counted has one
  pub counts-some : (s : Subject) (after : Then) → entry.act ≡ act.Give s after → after ≡ then.Repeat → 0 < entry.size
  counts-some s after acts counts =
      let (row, rest, here) = first-at rows.vpds at inside in
      let compiled-act : act_of rows.types row ≡ act.Give s after = ap (λ (e : StructureRow). e.act) (sym (compiled row rest here)) ∙ acts in
      let (some, subjects, thens) = give-act rows.types row s after (nat_eq row.fixrep 0) refl compiled-act in
      let other = eqb-false row.grpsize 0 (counted-then (is_yes row.choice) (nat_eq row.grpsize 0) (is_yes row.pidref) (thens ∙ counts)) in
      let size : entry.size ≡ row.grpsize = ap (λ (e : StructureRow). e.size) (compiled row rest here) in
      above entry.size (λ e. other (sym size ∙ e))
