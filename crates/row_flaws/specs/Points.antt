-- Points of curves by their whole numbers. [SCOS-2000 Database Import ICD, cap; this profile.]
use Rattle.std.specs.Prelude.{ℕ, ◌-◌, ℤ, Bool, true, false, not, ◌&&◌, List, Option, Some, None, is_some}
use Rattle.std.specs.List.{find}
use Rattle.std.specs.Ordering.{int_eq}
use Rattle.std.specs.Str.{bytes_eq}
use Rattle.mib_model.specs.declared.rows.CafRow.{CafRow}
use Rattle.mib_model.specs.declared.rows.CapRow.{CapRow}
use Rattle.mib_model.specs.Curves.{is_real_format}
use Rattle.mib_model.specs.WholeNumbers.{whole_number}
use Rattle.row_flaws.specs.declared.points.PointKey.{PointKey}
use Rattle.row_flaws.specs.Indexes.{cut}

-- whether two points are of one curve and at one x
abbrev pub point_eq : PointKey → PointKey → Bool
point_eq p q = bytes_eq p.numbr q.numbr && int_eq p.x q.x

-- the point of a curve at a number, if there is one
abbrev pub point_at : List ℕ → Option ℤ → Option PointKey
point_at numbr None = None
point_at numbr (Some x) = Some (record { numbr = numbr; x = x })

-- the point of a row by its curve, where there is one and its number is whole
abbrev pub point_of : Option CafRow → CapRow → Option PointKey
point_of None r = None
point_of (Some caf) r = point_at r.numbr (whole_number caf.radix r.xvals)

-- the point of a row by the curves
abbrev pub point_in : List CafRow → CapRow → Option PointKey
point_in cafs r = point_of (find (λ caf. bytes_eq caf.numbr r.numbr) cafs) r

-- a number that isn't whole, or that is the point of an earlier row by what is noted
abbrev pub repeats : (PointKey → Option ℕ) → ℕ → List ℕ → Option ℤ → Bool
repeats noted number numbr None = true
repeats noted number numbr (Some x) = is_some (cut (number - 1) (noted (record { numbr = numbr; x = x })))

-- a point of a curve over whole numbers that isn't whole or repeats an earlier one
abbrev pub is_repeated_point : (PointKey → Option ℕ) → ℕ → Option CafRow → CapRow → Bool
is_repeated_point noted number None r = false
is_repeated_point noted number (Some caf) r = not (is_real_format caf.rawfmt) && repeats noted number r.numbr (whole_number caf.radix r.xvals)
