-- What a walk gives, whatever number of steps it takes. [This profile.]
use Rattle.std.specs.Prelude.{◌≡◌, ℕ, ◌+◌, ◌*◌, ◌^◌, ◌<◌, ◌⊎◌, ℤ, pos, ◌+ℤ◌, ◌≤ℤ◌, List, [], Option, Some, None, Result, Ok, Err, ◌==◌, if◌then◌else◌}
use Rattle.mib_model.specs.declared.database.Database.{Database}
use Rattle.mib_model.specs.declared.packet.Ended.TheVariants.{Many}
use Rattle.mib_model.specs.declared.packet.Value.{Value}
use Rattle.mib_model.specs.declared.rows.VpdRow.{VpdRow}
use Rattle.mib_model.specs.Fixed.{most_values}
use Rattle.mib_model.specs.Soundness.{IsSound}
use Rattle.mib_model.specs.Structures.{structure}
use Rattle.mib_model.specs.Walk.{Walking, Step, Goes, Ends, after_value, chosen}
use Rattle.struct_plan.specs.declared.course.WalkCourse.{WalkCourse}
use Rattle.struct_plan.specs.declared.entry.ValueField.{ValueField}
use Rattle.struct_plan.specs.declared.walks.Way.{Way}
use Rattle.struct_plan.specs.declared.walks.Way.TheVariants as way
use Rattle.struct_plan.specs.declared.numbers.WalkEnd.{WalkEnd}
use Rattle.struct_plan.specs.declared.numbers.WalkEnd.TheVariants.{Ended}
use Rattle.struct_plan.specs.Slices.{StructureRows, with_types}
use Rattle.struct_plan.specs.Sources.{Source, Move, Steps, Halts, Walked, walked_by}

-- a walk gives these values and this end
abbrev pub Gives : Database → Source → Walked → Walking → Type 0
Gives db source end w = (steps : ℕ) × (walked_by db source steps w ≡ Some end)

-- a step leads to these values and this end
abbrev pub Leads : Database → Source → Walked → Step → Type 0
Leads db source end (Goes on) = Gives db source end on
Leads db source end (Ends ended values) = (values, Ended ended) ≡ end

-- a row leads to these values and this end
abbrev pub Moves : Database → Source → Walked → Move → Type 0
Moves db source end (Steps step) = Leads db source end step
Moves db source end (Halts why values) = (values, why) ≡ end

-- the walk that has come so far, with these rows still to walk
abbrev pub walking : List VpdRow → WalkCourse → List Value → Walking
walking todo course values = record { todo = todo; cursor = course.cursor; last = course.last; values = values }

-- the value of a field at a bit, behind so many others, or the end before it
abbrev pub value_or_end : Source → ℤ → ValueField → ℕ → Result Value WalkEnd
value_or_end source cursor field given = if given == most_values then Err (Ended Many) else source cursor field given

-- what giving the value of a row comes to: an end, or its raw number, behind which the walk goes on
abbrev pub Given : Database → Source → Walked → VpdRow → List VpdRow → WalkCourse → List Value → Result ℤ WalkEnd → Type 0
Given db source end row rest course values (Err why) = (values, why) ≡ end
Given db source end row rest course values (Ok raw) = Leads db source end (after_value db row rest raw (walking rest course values))

-- what a walk over the rows of a structure comes to: an end, or another structure
abbrev pub Comes : Database → Source → Walked → WalkCourse → List Value → Way → Type 0
Comes db source end course values (way.Ended why) = (values, why) ≡ end
Comes db source end course values (way.Chosen tpsd) = Leads db source end (chosen (walking [] course values) tpsd (structure db tpsd))

-- a walk that goes on with these rows, or comes to something
abbrev pub GoesOn : Database → Source → Walked → List VpdRow → WalkCourse → List Value → Option Way → Type 0
GoesOn db source end todo course values None = Gives db source end (walking todo course values)
GoesOn db source end todo course values (Some way) = Comes db source end course values way

-- rows of a structure of a sound database, beside the type items of their names
pub record IsStructure (db : Database) (rows : StructureRows) : Type 0 where
  pub sound : IsSound db
  pub of_rows : (tpsd : ℤ) × (rows ≡ with_types db (structure db tpsd))

-- a bit that is no farther off than so many rows behind a value can lead
pub record IsInReach (cursor : ℤ) (rows : ℕ) : Type 0 where
  pub low : pos 0 ≤ℤ (cursor +ℤ pos (2 ^ 68 + rows * 2 ^ 32))
  pub high : cursor ≤ℤ pos (2 ^ 68 + rows * 2 ^ 32)

-- a walk that gave a value, or stands further on in the rows
abbrev pub IsFurther : ℕ → ℕ → ℕ → ℕ → Type 0
IsFurther used at used' at' = ((used' ≡ used) × (at < at')) ⊎ (used' ≡ used + 1)

-- a walk that gave a value before a choice
pub record HasChosen (used used' : ℕ) (course : WalkCourse) : Type 0 where
  pub more : used < used'
  pub reach : IsInReach course.cursor 0
