-- Slices and the tables that they are cut out of.
use Rattle.std.proofs.Common.{◌≡◌, ℕ, Bool, true, false, cond, List, [], ◌∷◌, Option, Some, None, option_map, option_and_then, find, zip, map, refl}
use Rattle.std.specs.Option.{option_or}
use Rattle.mib_model.specs.declared.plan.CurveRows.{CurveRows}
use Rattle.mib_model.specs.declared.rows.CurRow.{CurRow}
use Rattle.mib_model.specs.Curves.{curve_named, curve_of, selections}
use Rattle.mib_model.specs.Kept.{Memory, holds}
use Rattle.mib_model.specs.Plans.{curve_names}
use Rattle.param_plan.specs.Laws.{SlicesHaveCurves}
use Rattle.param_plan.specs.Slices.{curve_beside, curve_by}

beside-named : (named : List ℕ → Option CurveRows) (memory : Memory) (curs : List CurRow)
    → curve_beside memory curs (map named (map (λ cur. cur.curve) curs)) ≡ option_and_then named (option_map (λ cur. cur.curve) (find (λ cur. holds memory cur.rlchk cur.valpar) curs))
beside-named named memory [] = refl
beside-named named memory (cur ∷ curs) = go (holds memory cur.rlchk cur.valpar) (beside-named named memory curs) where
  go : (b : Bool) → curve_beside memory curs (map named (map (λ cur. cur.curve) curs)) ≡ option_and_then named (option_map (λ cur. cur.curve) (find (λ cur. holds memory cur.rlchk cur.valpar) curs))
      → option_and_then (λ pair. pair.1) (cond b (Some (cur, named cur.curve)) (find (λ pair. holds memory pair.0.rlchk pair.0.valpar) (zip curs (map named (map (λ cur. cur.curve) curs)))))
      ≡ option_and_then named (option_map (λ cur. cur.curve) (cond b (Some cur) (find (λ cur. holds memory cur.rlchk cur.valpar) curs)))
  go true others = refl
  go false others = others

by-named : (named : List ℕ → Option CurveRows) (memory : Memory) (curtx : Option (List ℕ)) (curs : List CurRow)
    → curve_by memory curtx curs (map named (curve_names curtx curs)) ≡ option_and_then named (option_or curtx (option_map (λ cur. cur.curve) (find (λ cur. holds memory cur.rlchk cur.valpar) curs)))
by-named named memory (Some name) curs = refl
by-named named memory None curs = beside-named named memory curs

pub have-curves : SlicesHaveCurves
unfolding curve_of
have-curves db row memory = by-named (curve_named db row.categ) memory row.curtx (selections db row.name)
