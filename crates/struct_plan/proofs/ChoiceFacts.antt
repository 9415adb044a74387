-- A walk from structure to structure.
use Rattle.std.proofs.Common.{◌≡◌, ◌≢◌, ℕ, ◌+◌, ◌*◌, ℤ, pos, List, [], ◌∷◌, Some, None, refl, sym, subst}
use Rattle.mib_model.specs.declared.database.Database.{Database}
use Rattle.mib_model.specs.declared.packet.Ended.TheVariants as ended
use Rattle.mib_model.specs.declared.packet.Value.{Value}
use Rattle.mib_model.specs.declared.rows.VpdRow.{VpdRow}
use Rattle.mib_model.specs.Soundness.{IsSound}
use Rattle.mib_model.specs.Structures.{structure}
use Rattle.mib_model.specs.Walk.{chosen, walk_start}
use Rattle.struct_plan.specs.declared.numbers.WalkEnd.TheVariants.{Ended}
use Rattle.struct_plan.specs.Sources.{Source, Walked}
use Rattle.struct_plan.specs.declared.course.WalkCourse.{WalkCourse}
use Rattle.struct_plan.specs.Courses.{Gives, Leads, IsStructure, walking}
use Rattle.struct_plan.specs.Slices.{StructureRows, some_rows, structure_found, with_types}

module _ (db : Database) (source : Source) where
  chosen-gives : (end : Walked) (rows : List VpdRow) (course : WalkCourse) (values : List Value) (v : ℤ) → rows ≢ [] → Gives db source end (walking rows course values) → Leads db source end (chosen (walking [] course values) v rows)
  chosen-gives end [] course values v some gives = absurd (some refl)
  chosen-gives end (row ∷ rows) course values v some gives = gives

  -- the start of a walk is as the choice of its structure
  pub starts : (end : Walked) (tpsd start dfhsize : ℕ) (course : WalkCourse) (values : List Value) → structure db (pos tpsd) ≢ [] → start ≡ 8 * (6 + dfhsize) → course ≡ record { cursor = pos start; last = pos 0 } → values ≡ []
      → Gives db source end (walk_start db (pos tpsd) dfhsize) → Leads db source end (chosen (walking [] course values) (pos tpsd) (structure db (pos tpsd)))
  starts end tpsd start dfhsize course values some at is none gives =
      let rows : List VpdRow = structure db (pos tpsd) in
      let moved : Gives db source end (walking rows (record { cursor = pos start; last = pos 0 }) []) = subst (λ n. Gives db source end (walking rows (record { cursor = pos n; last = pos 0 }) [])) (sym at) gives in
      chosen-gives end rows course values (pos tpsd) some
      (subst (λ (c : WalkCourse). Gives db source end (walking rows c values)) (sym is) (subst (λ (vs : List Value). Gives db source end (walking rows (record { cursor = pos start; last = pos 0 }) vs)) (sym none) moved))

  found-rows : (end : Walked) (rows : StructureRows) (xs : List VpdRow) (course : WalkCourse) (values : List Value) (v : ℤ) → Some rows ≡ some_rows db xs → Leads db source end (chosen (walking [] course values) v xs) → Gives db source end (walking rows.vpds course values)
  found-rows end rows [] course values v is leads = absurd (cc is)
  found-rows end rows (row ∷ xs) course values v is leads =
      let same : with_types db (row ∷ xs) ≡ rows = cc is in
      subst (λ (r : StructureRows). Gives db source end (walking r.vpds course values)) same leads

  -- into a structure that is there
  pub found-gives : (end : Walked) (rows : StructureRows) (course : WalkCourse) (values : List Value) (v : ℤ) → Some rows ≡ structure_found db v → Leads db source end (chosen (walking [] course values) v (structure db v)) → Gives db source end (walking rows.vpds course values)
  found-gives end rows course values v is leads = found-rows end rows (structure db v) course values v is leads

  missing-rows : (end : Walked) (xs : List VpdRow) (course : WalkCourse) (values : List Value) (v : ℤ) → None ≡ some_rows db xs → Leads db source end (chosen (walking [] course values) v xs) → (values, Ended (ended.NoStructure v)) ≡ end
  missing-rows end [] course values v is leads = leads
  missing-rows end (row ∷ xs) course values v is leads = absurd (cc is)

  -- where there is none
  pub missing-gives : (end : Walked) (course : WalkCourse) (values : List Value) (v : ℤ) → None ≡ structure_found db v → Leads db source end (chosen (walking [] course values) v (structure db v)) → (values, Ended (ended.NoStructure v)) ≡ end
  missing-gives end course values v is leads = missing-rows end (structure db v) course values v is leads

found-of : (db : Database) (rows : StructureRows) (xs : List VpdRow) → Some rows ≡ some_rows db xs → rows ≡ with_types db xs
found-of db rows [] is = absurd (cc is)
found-of db rows (row ∷ xs) is = cc is

pub found-structure : (db : Database) (rows : StructureRows) (v : ℤ) → IsSound db → Some rows ≡ structure_found db v → IsStructure db rows
found-structure db rows v sound is = record { sound = sound; of_rows = (v, found-of db rows (structure db v) is) }
