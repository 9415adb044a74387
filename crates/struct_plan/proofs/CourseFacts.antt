-- What walks give, and the steps they take.
use Rattle.std.proofs.Common.{◌≡◌, ℕ, zero, suc, ◌+◌, ℤ, pos, ◌+ℤ◌, Bool, true, false, cond, nat_eq, List, [], ◌∷◌, ◌++◌, length, Option, Some, None, Result, Ok, Err, option_map, sym, ap, subst, ◌∙◌}
use Rattle.std.proofs.lemmas.Option.{none-some}
use Rattle.mib_model.specs.declared.database.Database.{Database}
use Rattle.mib_model.specs.declared.packet.Ended.TheVariants as ended
use Rattle.mib_model.specs.declared.packet.Value.{Value}
use Rattle.mib_model.specs.declared.rows.VpdRow.{VpdRow}
use Rattle.mib_model.specs.Fixed.{most_values}
use Rattle.mib_model.specs.Structures.{Typed}
use Rattle.mib_model.specs.Walk.{Walking, Goes, Ends, after_value}
use Rattle.struct_plan.specs.declared.numbers.WalkEnd.{WalkEnd}
use Rattle.struct_plan.specs.declared.numbers.WalkEnd.TheVariants.{Ended}
use Rattle.struct_plan.specs.declared.course.WalkCourse.{WalkCourse}
use Rattle.struct_plan.specs.declared.entry.ValueField.{ValueField}
use Rattle.struct_plan.specs.Courses.{Gives, Leads, Moves, walking, value_or_end}
use Rattle.struct_plan.specs.Sources.{Source, Walked, Move, Steps, Halts, move, on_given, on_move, on_row_by, on_subject_by, walked_by}
use Rattle.struct_plan.specs.Entries.{field_of}

some-same : {A : Type 0} (x y : A) → Some x ≡ Some y → x ≡ y
some-same x y is = cc is

module _ (db : Database) (source : Source) (end : Walked) where
  -- what the walk behind a row gives is what the row leads to
  leads_by : (k : ℕ) (m : Move) → on_move (λ on. walked_by db source k on) m ≡ Some end → Moves db source end m
  leads_by k (Steps (Goes on)) h = (k, h)
  leads_by k (Steps (Ends e values)) h = some-same (values, Ended e) end h
  leads_by k (Halts why values) h = some-same (values, why) end h

  pub gives-step : (w : Walking) → Gives db source end w → Moves db source end (move db source w)
  unfolding walked_by
  gives-step w (zero, h) = absurd (none-some end h)
  gives-step w (suc k, h) = leads_by k (move db source w) h

  -- the step of the next row
  pub gives-row : (row : VpdRow) (rest : List VpdRow) (course : WalkCourse) (values : List Value) → Gives db source end (walking (row ∷ rest) course values)
      → Moves db source end (on_row_by db source row rest (walking (row ∷ rest) (record course { cursor = course.cursor +ℤ row.offset }) values))
  unfolding move
  gives-row row rest course values gives = gives-step (walking (row ∷ rest) course values) gives

  pub gives-none : (course : WalkCourse) (values : List Value) → Gives db source end (walking [] course values) → (values, Ended ended.Whole) ≡ end
  unfolding move
  gives-none course values gives = gives-step (walking [] course values) gives

  -- rows in place of others
  pub gives-todo : (todo todo' : List VpdRow) (course : WalkCourse) (values : List Value) → todo ≡ todo' → Gives db source end (walking todo course values) → Gives db source end (walking todo' course values)
  gives-todo todo todo' course values is gives = subst (λ rows. Gives db source end (walking rows course values)) is gives

  -- the value of a known parameter
  with-field : (t : Typed) (field : ValueField) → Some field ≡ option_map field_of (Some t) → field_of t ≡ field
  with-field t field is = sym (some-same field (field_of t) is)

  given-none : (row : VpdRow) (rest : List VpdRow) (w : Walking) (o : Option Typed) → None ≡ option_map field_of o → Moves db source end (on_subject_by db source row rest w o) → (w.values, Ended (ended.NoParameter w.last)) ≡ end
  given-none row rest w None is leads = leads
  given-none row rest w (Some t) is leads = absurd (cc is)

  -- behind a value that was given, or that isn't there
  either-given : (row : VpdRow) (rest : List VpdRow) (w : Walking) (t : Typed) (given : Result Value WalkEnd) (b : Bool)
      → Moves db source end (cond b (Steps (Ends ended.Many w.values)) (on_given db row rest w t given)) → Moves db source end (on_given db row rest w t (cond b (Err (Ended ended.Many)) given))
  either-given row rest w t given true leads = leads
  either-given row rest w t given false leads = leads

  -- the move of a row's value, by what comes of it
  of-value : (row : VpdRow) (rest : List VpdRow) (w : Walking) (o : Option Typed) (field : ValueField) (given : Result Value WalkEnd)
      → Some field ≡ option_map field_of o → value_or_end source w.cursor field (length w.values) ≡ given
      → Moves db source end (on_subject_by db source row rest w o) → (t : Typed) × (field_of t ≡ field) × Moves db source end (on_given db row rest w t given)
  of-value row rest w None field given is same leads = absurd (cc is)
  of-value row rest w (Some t) field given is same leads =
      let here = with-field t field is in
      let value : value_or_end source w.cursor (field_of t) (length w.values) ≡ given = ap (λ (f : ValueField). value_or_end source w.cursor f (length w.values)) here ∙ same in (
        t,
        here,
        subst (λ (r : Result Value WalkEnd). Moves db source end (on_given db row rest w t r)) value
            (either-given row rest w t (source w.cursor (field_of t) (length w.values)) (nat_eq (length w.values) most_values) leads),
      )

  -- behind a value that was given
  pub given-value : (row : VpdRow) (rest : List VpdRow) (w : Walking) (o : Option Typed) (field : ValueField) (v : Value) (values : List Value) (cursor : ℤ)
      → Some field ≡ option_map field_of o → value_or_end source w.cursor field (length w.values) ≡ Ok v → values ≡ w.values ++ v ∷ [] → cursor ≡ pos (v.at + field.moves)
      → Moves db source end (on_subject_by db source row rest w o) → Leads db source end (after_value db row rest v.raw (record { todo = rest; cursor = cursor; last = w.last; values = values }))
  given-value row rest w o field v values cursor is ok more moved leads =
      let (t, same, here) = of-value row rest w o field (Ok v) is ok leads in
      let moves : (field_of t).moves ≡ field.moves = ap (λ (f : ValueField). f.moves) same in
      let cursors : pos (v.at + (field_of t).moves) ≡ cursor = ap (λ (m : ℕ). pos (v.at + m)) moves ∙ sym moved in
      subst (λ (x : ℤ). Leads db source end (after_value db row rest v.raw (record { todo = rest; cursor = x; last = w.last; values = values }))) cursors
      (subst (λ (vs : List Value). Leads db source end (after_value db row rest v.raw (record { todo = rest; cursor = pos (v.at + (field_of t).moves); last = w.last; values = vs }))) (sym more) here)

  -- where there is none
  pub not-given : (row : VpdRow) (rest : List VpdRow) (w : Walking) (o : Option Typed) (field : ValueField) (why : WalkEnd)
      → Some field ≡ option_map field_of o → value_or_end source w.cursor field (length w.values) ≡ Err why
      → Moves db source end (on_subject_by db source row rest w o) → (w.values, why) ≡ end
  not-given row rest w o field why is err leads = let (t, same, here) = of-value row rest w o field (Err why) is err leads in here
