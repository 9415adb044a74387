-- A place among the rows of a structure, with the groups round it. [This profile.]
use Rattle.std.specs.Prelude.{◌≡◌, List, [], None}
use Rattle.std.specs.List.{cons_option}
use Rattle.mib_model.specs.declared.rows.VpdRow.{VpdRow}
use Rattle.bit_field.specs.declared.values.Values.{Values}
use Rattle.struct_plan.specs.declared.group.RowGroup.{RowGroup}
use Rattle.struct_plan.specs.declared.place.RowPlace.{RowPlace}
use Rattle.struct_plan.specs.Groups.{Enclose, Ahead}
use Rattle.struct_plan.specs.Stacks.{kept, IsWithin}

-- the groups round a place that are to be repeated, the innermost first
abbrev pub groups : Values → RowPlace → List RowGroup
groups values place = cons_option place.inner (kept values place.stack)

-- a place whose stack is within the slots that aren't in use, and keeps no groups where there is no innermost one
pub record IsPlace (values : Values) (place : RowPlace) : Type 0 where
  pub within : IsWithin values place.stack
  pub alone : place.inner ≡ None → kept values place.stack ≡ []

-- a place among rows: within the groups round it
pub record IsAmong (rows : List VpdRow) (values : Values) (place : RowPlace) : Type 0 where
  pub kept : IsPlace values place
  pub around : Enclose rows place.at place.at (groups values place)
  pub ahead : Ahead rows place.at (groups values place)
