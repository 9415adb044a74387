-- Values along a structure.
use Rattle.std.proofs.Common.{◌≡◌, ◌∙◌, ℕ, zero, suc, ℤ, pos, negsuc, nat_abs, Bor, ◌∷◌, Bool, true, false, cond, List, [], Option, Some, None, unwrap_or, refl, sym, ap, int_lt}
use Rattle.std.specs.Option.{is_some, option_copied}
use Rattle.mib_model.specs.declared.database.Database.{Database}
use Rattle.mib_model.specs.declared.packet.Ended.TheVariants.{Whole}
use Rattle.mib_model.specs.declared.packet.Value.{Value}
use Rattle.mib_model.specs.declared.rows.PidRow.{PidRow}
use Rattle.mib_model.specs.declared.rows.VpdRow.{VpdRow}
use Rattle.mib_model.specs.Fixed.{has_layout, places}
use Rattle.mib_model.specs.Structures.{structure}
use Rattle.mib_model.specs.Walk.{Walking, walk_limit, walk_start}
use Rattle.struct_plan.specs.declared.numbers.WalkEnd.TheVariants.{Ended}
use Rattle.struct_plan.specs.Slices.{some_rows, structure_found}
use Rattle.struct_plan.specs.Sources.{Source, Walked, move, move_from, on_move, walked_by}
use Rattle.build_rules.specs.Laying.{values_by, values_from}

module _ (db : Database) (source : Source) where
  -- a walk over no rows
  no-rows : (n : ℕ) (w : Walking) → w.todo ≡ [] → w.values ≡ [] → unwrap_or (walked_by db source n w) ([], Ended Whole) ≡ ([], Ended Whole)
  unfolding walked_by move
  no-rows zero w none empty = refl
  no-rows (suc n) w none empty =
      ap (λ (rows : List VpdRow). unwrap_or (on_move (λ on. walked_by db source n on) (move_from db source w rows)) ([], Ended Whole)) none
      ∙ ap (λ (vs : List Value). (vs, Ended Whole)) empty

  found-none : (rows : List VpdRow) → some_rows db rows ≡ None → rows ≡ []
  found-none [] is = refl
  found-none (row ∷ rows) is = absurd (cc is)

  -- where there is no structure
  pub without-structure : (row : PidRow) → has_layout row ≡ false → structure_found db row.tpsd ≡ None → ([], Ended Whole) ≡ values_by db row source
  unfolding values_by
  without-structure row walks none =
      sym (ap (λ (b : Bool). cond b (values_from source 0 (places db row.spid)) (unwrap_or (walked_by db source (walk_limit db) (walk_start db row.tpsd row.dfhsize)) ([], Ended Whole))) walks
      ∙ no-rows (walk_limit db) (walk_start db row.tpsd row.dfhsize) (found-none (structure db row.tpsd) none) refl)

  -- where the walk ends so
  pub with-structure : (row : PidRow) (end : Walked) → has_layout row ≡ false → walked_by db source (walk_limit db) (walk_start db row.tpsd row.dfhsize) ≡ Some end → end ≡ values_by db row source
  unfolding values_by
  with-structure row end walks gives =
      sym (ap (λ (b : Bool). cond b (values_from source 0 (places db row.spid)) (unwrap_or (walked_by db source (walk_limit db) (walk_start db row.tpsd row.dfhsize)) ([], Ended Whole))) walks
      ∙ ap (λ (o : Option Walked). unwrap_or o ([], Ended Whole)) gives)

  -- a fixed layout
  pub with-layout : (row : PidRow) → has_layout row ≡ true → values_from source 0 (places db row.spid) ≡ values_by db row source
  unfolding values_by
  with-layout row lays =
      sym (ap (λ (b : Bool). cond b (values_from source 0 (places db row.spid)) (unwrap_or (walked_by db source (walk_limit db) (walk_start db row.tpsd row.dfhsize)) ([], Ended Whole))) lays)

-- the number of a structure is at least 1
pub positive : (z : ℤ) → int_lt z (pos 1) ≡ false → pos (nat_abs z) ≡ z
positive (pos n) h = refl
positive (negsuc n) h = absurd (cc h)

-- where nothing is lent nothing is copied
pub copied-none : {X : Type 0} (o : Option (Bor X)) → is_some o ≡ false → option_copied o ≡ None
copied-none None h = refl
copied-none (Some x) h = absurd (cc h)
