-- The rules of soundness of curves, their points and their texts, each list in the order of the codes.
-- [SCOS-2000 Database Import ICD, integrity of the tables; the rules are this profile's.]
use Rattle.std.specs.Prelude.{ℕ, ℤ, Bool, true, false, List, [], ◌∷◌, length, filter, Option, Some, None, is_none, nat_lt, ◌&&◌, ◌||◌, not}
use Rattle.std.specs.List.{find, list_any}
use Rattle.std.specs.Option.{option_eq}
use Rattle.std.specs.Ordering.{int_eq}
use Rattle.std.specs.Str.{bytes_eq}
use Rattle.mib_model.specs.declared.fault.MibCode.TheVariants.{Points}
use Rattle.mib_model.specs.declared.rows.CafRow.{CafRow}
use Rattle.mib_model.specs.declared.rows.CapRow.{CapRow}
use Rattle.mib_model.specs.declared.rows.CurRow.{CurRow}
use Rattle.mib_model.specs.declared.rows.PcfRow.{PcfRow}
use Rattle.mib_model.specs.declared.rows.TxfRow.{TxfRow}
use Rattle.mib_model.specs.declared.rows.TxpRow.{TxpRow}
use Rattle.mib_model.specs.declared.rows.Row.TheVariants as row
use Rattle.mib_model.specs.Curves.{is_real_format}
use Rattle.mib_model.specs.Database.{Database}
use Rattle.mib_model.specs.Flaws.{Rule, flaw_if, twice, missing}
use Rattle.mib_model.specs.Parameters.{parameter}
use Rattle.mib_model.specs.References.{has_parameter, has_points, has_texts, has_curve}
use Rattle.mib_model.specs.WholeNumbers.{whole_number, decimal_whole}

-- ---- cur

-- whether there is a curve of this name of the category of a parameter; nothing is asked where there is no parameter
abbrev pub has_curve_of : Database → Option PcfRow → List ℕ → Bool
has_curve_of db None name = true
has_curve_of db (Some r) name = has_curve db r.categ name

-- the rules of cur
abbrev pub cur_rules : Database → List (Rule CurRow)
cur_rules db =
    twice row.Cur ∷
    (λ earlier r. missing ((1, has_parameter db r.pname) ∷ (3, has_parameter db r.rlchk) ∷ (5, has_curve_of db (parameter db.pcf r.pname) r.curve) ∷ [])) ∷ []

-- ---- caf and cap: two points at least, each at a whole number of its own

-- the points of a curve
abbrev pub points_in : Database → List ℕ → List CapRow
points_in db name = filter (λ cap. bytes_eq cap.numbr name) db.cap

-- the rules of caf
abbrev pub caf_rules : Database → List (Rule CafRow)
caf_rules db =
    twice row.Caf ∷
    (λ earlier r. flaw_if Points (not (is_real_format r.rawfmt) && nat_lt (length (points_in db r.numbr)) 2)) ∷ []

-- whether another point is of the same curve and at this whole number
abbrev pub is_same_x : ℕ → ℤ → CapRow → CapRow → Bool
is_same_x radix x r other = bytes_eq other.numbr r.numbr && option_eq int_eq (whole_number radix other.xvals) (Some x)

-- whether an x is missing, as of a text that is no whole number, or is that of an earlier point
abbrev pub is_bad_x : ℕ → List CapRow → CapRow → Option ℤ → Bool
is_bad_x radix earlier r None = true
is_bad_x radix earlier r (Some x) = list_any (is_same_x radix x r) earlier

-- whether a point is of a curve over whole numbers, and its x is bad
abbrev pub is_bad_point : Option CafRow → List CapRow → CapRow → Bool
is_bad_point None earlier r = false
is_bad_point (Some caf) earlier r = not (is_real_format caf.rawfmt) && is_bad_x caf.radix earlier r (whole_number caf.radix r.xvals)

-- the rules of cap
abbrev pub cap_rules : Database → List (Rule CapRow)
cap_rules db =
    twice row.Cap ∷
    (λ earlier r. missing ((1, has_points db r.numbr) ∷ [])) ∷
    (λ earlier r. flaw_if Points (is_bad_point (find (λ caf. bytes_eq caf.numbr r.numbr) db.caf) earlier r)) ∷ []

-- ---- txp: bounds that are whole numbers

-- whether a range is of a curve over whole numbers, and one of its bounds is no whole number
abbrev pub is_bad_range : Option TxfRow → TxpRow → Bool
is_bad_range None r = false
is_bad_range (Some txf) r = not (is_real_format txf.rawfmt) && (is_none (decimal_whole r.low) || is_none (decimal_whole r.high))

-- the rules of txp
abbrev pub txp_rules : Database → List (Rule TxpRow)
txp_rules db =
    twice row.Txp ∷
    (λ earlier r. missing ((1, has_texts db r.numbr) ∷ [])) ∷
    (λ earlier r. flaw_if Points (is_bad_range (find (λ txf. bytes_eq txf.numbr r.numbr) db.txf) r)) ∷ []
