-- A row of a structure, compiled: what the walk does there. [SCOS-2000 Database Import ICD, vpd.]
use Rattle.std.specs.Prelude.{ℕ, ℤ, List, Option, Some, None, option_map, option_and_then, ◌==◌, not, if◌then◌else◌}
use Rattle.mib_model.specs.declared.plan.TypeItem.{TypeItem}
use Rattle.mib_model.specs.declared.rows.VpdRow.{VpdRow}
use Rattle.mib_model.specs.declared.database.Database.{Database}
use Rattle.mib_model.specs.Encodings.{Encoding, encoding_of}
use Rattle.mib_model.specs.Layouts.{item_named}
use Rattle.mib_model.specs.Structures.{Typed, is_yes, moved_by}
use Rattle.struct_plan.specs.Slices.{deduced_item}
use Rattle.struct_plan.specs.declared.entry.StructureRow.{StructureRow}
use Rattle.struct_plan.specs.declared.entry.Act.{Act}
use Rattle.struct_plan.specs.declared.entry.Act.TheVariants as act
use Rattle.struct_plan.specs.declared.entry.ValueField.{ValueField}
use Rattle.struct_plan.specs.declared.entry.Subject.{Subject}
use Rattle.struct_plan.specs.declared.entry.Subject.TheVariants as subject
use Rattle.struct_plan.specs.declared.entry.Then.{Then}
use Rattle.struct_plan.specs.declared.entry.Then.TheVariants as then

-- what the walk needs of a parameter whose type is known
abbrev pub field_of : Typed → ValueField
field_of t = record { name = t.0.name; shape = t.1; moves = moved_by t }

-- the width given for a parameter, or else that of its type
abbrev pub moves_by : ℕ → ℕ → ℕ
moves_by given width = if given == 0 then width else given

-- what the walk needs of a parameter by its type item, where its type is known
abbrev pub item_field : TypeItem → Option ValueField
item_field item =
    option_map (λ (e : Encoding). record { name = item.name; shape = e; moves = moves_by item.width e.width }) (encoding_of item.ptc item.pfc item.endian)

-- a parameter's own value, where its type is known
abbrev pub own : Option ValueField → Subject
own None = subject.Missing
own (Some field) = subject.Own field

-- what a row gives a value of, by the type item of its name: PTC 11 is deduced
abbrev pub subject_by : Option TypeItem → Subject
subject_by None = subject.Missing
subject_by (Some item) = if item.ptc == 11 then subject.Deduced else own (item_field item)

-- what comes behind a row's value: the first of choice, group and reference that it has
abbrev pub then_of : VpdRow → Then
then_of row =
    if is_yes row.choice then then.Choose
    else if not (row.grpsize == 0) then then.Repeat
    else if is_yes row.pidref then then.Refer
    else then.Next

-- what a row does: repetitions without a value, or a value
abbrev pub act_of : List TypeItem → VpdRow → Act
act_of types row =
    if not (row.fixrep == 0) then act.Repeat row.fixrep
    else act.Give (subject_by (item_named types row.name)) (then_of row)

-- a row, compiled
abbrev pub entry_of : List TypeItem → VpdRow → StructureRow
entry_of types row = record { offset = row.offset; size = row.grpsize; act = act_of types row }

-- what a value is of, where the last reference was to this number
abbrev pub field_at : Database → ℤ → Subject → Option ValueField
field_at db last subject.Missing = None
field_at db last (subject.Own field) = Some field
field_at db last subject.Deduced = option_and_then item_field (deduced_item db last)
