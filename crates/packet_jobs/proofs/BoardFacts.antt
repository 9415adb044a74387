-- Boards that were made for tables.
use Rattle.packet_jobs.proofs.Common.{[], ◌∙◌, ◌∷◌, ◌≡◌, ap, Database, is_made_for, List, map, plan_names, planned_names, refl, Slots, sym, true}
use Rattle.edition_plans.specs.Params.{param_slices}
use Rattle.mib_model.specs.declared.rows.PcfRow.{PcfRow}
use Rattle.param_plan.specs.Slices.{slice_for}
use Rattle.std.proofs.lemmas.Slice.Eq.{bytes_eq-Decides, slice_eq-Decides}

names-of : (db : Database) (rows : List PcfRow) → map (λ slice. slice.pcf.name) (map (slice_for db) rows) ≡ map (λ row. row.name) rows
names-of db [] = refl
names-of db (row ∷ rows) = ap (λ names. row.name ∷ names) (names-of db rows)

planned-names : (db : Database) → plan_names (param_slices db) ≡ planned_names db
unfolding param_slices
planned-names db = names-of db _

-- a board that was made for tables has the names of their plans
pub made-names : (db : Database) (board : Slots) → is_made_for db board ≡ true → board.names ≡ plan_names (param_slices db)
made-names db board made = (slice_eq-Decides bytes_eq-Decides board.names (planned_names db) (is_made_for db board) refl).0 made ∙ sym (planned-names db)
