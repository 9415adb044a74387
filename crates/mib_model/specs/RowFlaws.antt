-- The rules of soundness of parameters, packets, places and checks, each list in the order of the codes.
-- [SCOS-2000 Database Import ICD, integrity of the tables; the rules are this profile's.]
use Rattle.std.specs.Prelude.{ℕ, Bool, false, List, [], ◌∷◌, Option, Some, None, is_some, is_none, nat_lt, ◌==◌, ◌&&◌, ◌||◌, not}
use Rattle.std.specs.List.{list_any}
use Rattle.std.specs.Str.{bytes_eq}
use Rattle.mib_model.specs.declared.fault.MibCode.TheVariants.{BadType, Width, Both}
use Rattle.mib_model.specs.declared.rows.OcfRow.{OcfRow}
use Rattle.mib_model.specs.declared.rows.OcpRow.{OcpRow}
use Rattle.mib_model.specs.declared.rows.PcfRow.{PcfRow}
use Rattle.mib_model.specs.declared.rows.PidRow.{PidRow}
use Rattle.mib_model.specs.declared.rows.PlfRow.{PlfRow}
use Rattle.mib_model.specs.declared.rows.Row.TheVariants as row
use Rattle.mib_model.specs.Database.{Database}
use Rattle.mib_model.specs.Encodings.{Encoding}
use Rattle.mib_model.specs.Flaws.{Rule, flaw_if, twice, twice_by, missing}
use Rattle.mib_model.specs.Parameters.{parameter, is_measured, parameter_encoding}
use Rattle.mib_model.specs.References.{has_parameter, has_packet, has_structure, has_check, has_curve, if_given}
use Rattle.mib_model.specs.Structures.{is_deduced}
use Rattle.mib_model.specs.Fixed.{has_layout}

-- ---- pcf: references, types, widths, and a curve beside selections, of measured parameters alone

-- the references of a parameter, which are tested where it is measured
abbrev pub pcf_references : Database → PcfRow → List (ℕ × Bool)
pcf_references db r =
    (8, not (is_measured r) || if_given r.valid (has_parameter db)) ∷
    (12, not (is_measured r) || if_given r.curtx (has_curve db r.categ)) ∷ []

-- whether a width is given and below that of the type
abbrev pub is_narrow : ℕ → Option Encoding → Bool
is_narrow width None = false
is_narrow width (Some e) = not (width == 0) && nat_lt width e.width

-- whether a parameter has selections of curves
abbrev pub has_selections : Database → List ℕ → Bool
has_selections db name = list_any (λ cur. bytes_eq cur.pname name) db.cur

-- the rules of pcf
abbrev pub pcf_rules : Database → List (Rule PcfRow)
pcf_rules db =
    twice row.Pcf ∷
    (λ earlier r. missing (pcf_references db r)) ∷
    (λ earlier r. flaw_if BadType (is_measured r && is_none (parameter_encoding r))) ∷
    (λ earlier r. flaw_if Width (is_measured r && not (is_deduced r) && is_narrow r.width (parameter_encoding r))) ∷
    (λ earlier r. flaw_if Both (is_measured r && is_some r.curtx && has_selections db r.name)) ∷ []

-- ---- pid: one row for each SPID and for each kind of packet

-- whether two rows have the same SPID, or the same APID, types and discriminants
abbrev pub same_packet : PidRow → PidRow → Bool
same_packet x y =
    (x.spid == y.spid) ||
    ((x.apid == y.apid) && (x.service == y.service) && (x.subtype == y.subtype) && (x.pi1_val == y.pi1_val) && (x.pi2_val == y.pi2_val))

-- the rules of pid
abbrev pub pid_rules : Database → List (Rule PidRow)
pid_rules db =
    twice_by same_packet ∷
    (λ earlier r. missing ((9, has_layout r || has_structure db r.tpsd) ∷ [])) ∷ []

-- ---- plf: a deduced parameter has no place of its own

-- whether a parameter is there, is measured and is deduced
abbrev pub is_measured_deduced : Option PcfRow → Bool
is_measured_deduced None = false
is_measured_deduced (Some r) = is_measured r && is_deduced r

-- the rules of plf
abbrev pub plf_rules : Database → List (Rule PlfRow)
plf_rules db =
    twice row.Plf ∷
    (λ earlier r. missing ((1, has_parameter db r.name) ∷ (2, has_packet db r.spid) ∷ [])) ∷
    (λ earlier r. flaw_if BadType (is_measured_deduced (parameter db.pcf r.name))) ∷ []

-- ---- ocf and ocp: checks of parameters, and limits of checks

-- the rules of ocf
abbrev pub ocf_rules : Database → List (Rule OcfRow)
ocf_rules db = twice row.Ocf ∷ (λ earlier r. missing ((1, has_parameter db r.name) ∷ [])) ∷ []

-- the rules of ocp
abbrev pub ocp_rules : Database → List (Rule OcpRow)
ocp_rules db =
    twice row.Ocp ∷ (λ earlier r. missing ((1, has_check db r.name) ∷ (6, if_given r.rlchk (has_parameter db)) ∷ [])) ∷ []
