-- Which plans an edit touches: those that are new, and those whose rows differ. [This profile.]
use Rattle.std.specs.Prelude.{Bool, true, false, List, Option, Some, None, map, filter, ◌==◌, ◌&&◌, not}
use Rattle.std.specs.List.{find}
use Rattle.std.specs.Option.{option_eq}
use Rattle.std.specs.Str.{bytes_eq}
use Rattle.std.specs.Cmp.Lexicographic.{pointwise}
use Rattle.mib_model.specs.declared.plan.CurveRows.{CurveRows}
use Rattle.mib_model.specs.declared.plan.CurveRows.TheVariants.{Points, Texts, Poly, Log}
use Rattle.mib_model.specs.declared.plan.Plan.{Plan}
use Rattle.mib_model.specs.declared.plan.PlanName.{PlanName}
use Rattle.mib_model.specs.declared.plan.PlanName.TheVariants as plan
use Rattle.mib_model.specs.declared.plan.Slice.{Slice}
use Rattle.mib_model.specs.declared.plan.Slice.TheVariants as slice
use Rattle.mib_model.specs.declared.plan.TypeItem.{TypeItem}
use Rattle.mib_model.specs.declared.shape.Endian.{Endian}
use Rattle.mib_model.specs.declared.shape.Endian.TheVariants as endian
use Rattle.mib_model.specs.Database.{Database}
use Rattle.mib_model.specs.Plans.{plans}
use Rattle.mib_model.specs.SameRows.{same_pcf, same_pid, same_pic, same_plf, same_vpd, same_cur, same_caf, same_cap, same_txf, same_txp, same_mcf, same_lgf, same_ocf, same_ocp}

-- whether two names of plans are equal
abbrev pub same_plan_name : PlanName → PlanName → Bool
same_plan_name (plan.Param x) (plan.Param y) = bytes_eq x y
same_plan_name (plan.Layout x) (plan.Layout y) = x == y
same_plan_name (plan.Structure x) (plan.Structure y) = x == y
same_plan_name plan.Ident plan.Ident = true
same_plan_name x y = false

-- whether two octet orders are equal
abbrev pub same_endian : Endian → Endian → Bool
same_endian endian.B endian.B = true
same_endian endian.L endian.L = true
same_endian x y = false

-- whether two type items are equal
abbrev pub same_type_item : TypeItem → TypeItem → Bool
same_type_item x y =
    bytes_eq x.name y.name && (x.ptc == y.ptc) && (x.pfc == y.pfc) && (x.width == y.width) && (x.natur == y.natur) &&
    same_endian x.endian y.endian

-- whether two curves are equal: the row and the points or texts, in their order
abbrev pub same_curve : CurveRows → CurveRows → Bool
same_curve (Points caf caps) (Points caf2 caps2) = same_caf caf caf2 && pointwise same_cap caps caps2
same_curve (Texts txf txps) (Texts txf2 txps2) = same_txf txf txf2 && pointwise same_txp txps txps2
same_curve (Poly mcf) (Poly mcf2) = same_mcf mcf mcf2
same_curve (Log lgf) (Log lgf2) = same_lgf lgf lgf2
same_curve x y = false

-- whether two plans depend on the same rows, in the same order
unfoldable pub same_slice : Slice → Slice → Bool
same_slice (slice.Param pcf curs curves ocf ocps) (slice.Param pcf2 curs2 curves2 ocf2 ocps2) =
    same_pcf pcf pcf2 && pointwise same_cur curs curs2 && pointwise (option_eq same_curve) curves curves2 &&
    option_eq same_ocf ocf ocf2 && pointwise same_ocp ocps ocps2
same_slice (slice.Layout pid plfs types) (slice.Layout pid2 plfs2 types2) =
    same_pid pid pid2 && pointwise same_plf plfs plfs2 && pointwise same_type_item types types2
same_slice (slice.Structure vpds types) (slice.Structure vpds2 types2) =
    pointwise same_vpd vpds vpds2 && pointwise same_type_item types types2
same_slice (slice.Ident pids pics) (slice.Ident pids2 pics2) = pointwise same_pid pids pids2 && pointwise same_pic pics pics2
same_slice x y = false

-- the plan of a name among some
abbrev pub plan_named : List Plan → PlanName → Option Plan
plan_named old name = find (λ p. same_plan_name p.name name) old

-- whether an old plan is there, with the rows of the new one
abbrev pub has_same_slice : Plan → Option Plan → Bool
has_same_slice new None = false
has_same_slice new (Some old) = same_slice old.slice new.slice

-- a plan that is new, or whose rows differ
abbrev pub is_touched : List Plan → Plan → Bool
is_touched old new = not (has_same_slice new (plan_named old new.name))

-- the names of the new plans that the old ones lack or have with other rows
unfoldable pub touched : Database → Database → List PlanName
touched old new = map (λ p. p.name) (filter (is_touched (plans old)) (plans new))
