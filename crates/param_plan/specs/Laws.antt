-- Laws of slices. [This profile.]
use Rattle.std.specs.Prelude.{◌≡◌, ℕ, List}
use Rattle.mib_model.specs.declared.rows.PcfRow.{PcfRow}
use Rattle.mib_model.specs.Curves.{curve_named, curve_of}
use Rattle.mib_model.specs.declared.database.Database.{Database}
use Rattle.mib_model.specs.Kept.{Memory}
use Rattle.mib_model.specs.Plans.{param_plan}
use Rattle.mib_model.specs.Soundness.{IsSound}
use Rattle.param_plan.specs.Choices.{IsApart}
use Rattle.param_plan.specs.Slices.{as_slice, curve_in, slice_for}

-- the slice of a parameter is that of its plan
abbrev pub SlicesAreOfPlans : Type 0
SlicesAreOfPlans = (db : Database) (row : PcfRow) → as_slice (slice_for db row) ≡ (param_plan db row).slice

-- the curve of a slice is that of the tables
abbrev pub SlicesHaveCurves : Type 0
SlicesHaveCurves = (db : Database) (row : PcfRow) (memory : Memory) → curve_in (slice_for db row) memory ≡ curve_of db row memory

-- in sound tables no two points of a curve stand at one x
abbrev pub SoundCurvesStandApart : Type 0
SoundCurvesStandApart = (db : Database) (categ : ℕ) (name : List ℕ) → IsSound db → IsApart (curve_named db categ name)
