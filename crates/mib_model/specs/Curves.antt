-- The curves of a database: which one a value is taken by, and what it makes of a raw number.
-- [SCOS-2000 Database Import ICD, cur, caf, txf, mcf, lgf; the choice is this profile's.]
use Rattle.std.specs.Prelude.{ℕ, ℤ, Bool, List, Option, Some, None, option_map, option_and_then, ◌==◌, if◌then◌else◌, filter}
use Rattle.std.specs.List.{find}
use Rattle.std.specs.Str.{bytes_eq}
use Rattle.std.specs.Option.{option_or}
use Rattle.mib_model.specs.declared.plan.CurveRows.{CurveRows}
use Rattle.mib_model.specs.declared.plan.CurveRows.TheVariants.{Points, Texts, Poly, Log}
use Rattle.mib_model.specs.declared.rows.PcfRow.{PcfRow}
use Rattle.mib_model.specs.declared.rows.CurRow.{CurRow}
use Rattle.mib_model.specs.declared.rows.TxpRow.{TxpRow}
use Rattle.mib_model.specs.Calibrated.{Calibrated, StatusText, NoText, LogCurve, RealCurve, calibrated}
use Rattle.mib_model.specs.Database.{Database}
use Rattle.mib_model.specs.Kept.{Memory, holds}
use Rattle.mib_model.specs.Letters.{letter}
use Rattle.mib_model.specs.Orders.{sorted_by_number}
use Rattle.mib_model.specs.Points.{by_points}
use Rattle.mib_model.specs.Polynomials.{coefficients, polynomial}
use Rattle.mib_model.specs.WholeNumbers.{decimal_whole, lies_from_to}

-- raw numbers that are real: RAWFMT `R`
abbrev pub is_real_format : ℕ → Bool
is_real_format rawfmt = rawfmt == letter "R"

-- whether a raw number lies from the FROM to the TO of a row
abbrev pub spans : ℤ → TxpRow → Bool
spans raw row = lies_from_to (decimal_whole row.low) (decimal_whole row.high) raw

-- the status text of a row, or that none spans the raw number
abbrev pub status_text : Option TxpRow → Calibrated
status_text None = NoText
status_text (Some row) = StatusText row.altxt

-- what a curve makes of a raw number
unfoldable pub calibration : CurveRows → ℤ → Calibrated
calibration (Points caf caps) raw = if is_real_format caf.rawfmt then RealCurve else by_points caf caps raw
calibration (Texts txf txps) raw = if is_real_format txf.rawfmt then RealCurve else status_text (find (spans raw) txps)
calibration (Poly mcf) raw = calibrated (polynomial (coefficients mcf) raw)
calibration (Log lgf) raw = LogCurve

-- the curve by points of a name
abbrev pub points_named : Database → List ℕ → Option CurveRows
points_named db name =
    option_map (λ caf. Points caf (filter (λ cap. bytes_eq cap.numbr name) db.cap)) (find (λ caf. bytes_eq caf.numbr name) db.caf)

-- the curve by texts of a name
abbrev pub texts_named : Database → List ℕ → Option CurveRows
texts_named db name =
    option_map (λ txf. Texts txf (filter (λ txp. bytes_eq txp.numbr name) db.txp)) (find (λ txf. bytes_eq txf.numbr name) db.txf)

-- the polynomial of a name
abbrev pub poly_named : Database → List ℕ → Option CurveRows
poly_named db name = option_map (λ mcf. Poly mcf) (find (λ mcf. bytes_eq mcf.ident name) db.mcf)

-- the logarithmic curve of a name
abbrev pub log_named : Database → List ℕ → Option CurveRows
log_named db name = option_map (λ lgf. Log lgf) (find (λ lgf. bytes_eq lgf.ident name) db.lgf)

-- the curve of a name for a category: texts for `S`, none for `T`, and for `N` the first of points, polynomial and logarithm
unfoldable pub curve_named : Database → ℕ → List ℕ → Option CurveRows
curve_named db categ name =
    if categ == letter "S" then texts_named db name
    else if categ == letter "T" then None
    else option_or (points_named db name) (option_or (poly_named db name) (log_named db name))

-- the selections of a parameter, by POS
unfoldable pub selections : Database → List ℕ → List CurRow
selections db name = sorted_by_number (λ row. row.pos) (filter (λ row. bytes_eq row.pname name) db.cur)

-- the name of a parameter's curve: its own, else that of the first selection whose condition holds
abbrev pub selected : Database → PcfRow → Memory → Option (List ℕ)
selected db row memory =
    option_or row.curtx (option_map (λ cur. cur.curve) (find (λ cur. holds memory cur.rlchk cur.valpar) (selections db row.name)))

-- the curve that a parameter's values are taken by, if there is one
unfoldable pub curve_of : Database → PcfRow → Memory → Option CurveRows
curve_of db row memory = option_and_then (curve_named db row.categ) (selected db row memory)
