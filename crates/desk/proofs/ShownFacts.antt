-- Moves that a desk makes at the register, and boards for its editions.
use Rattle.std.proofs.Common.{◌≡◌, ◌∙◌, ℕ, true, false, List, [], ◌∷◌, ◌++◌, map, filter, Option, Some, Result, Ok, Err, refl, sym, ap, subst, append_assoc}
use Rattle.std.proofs.lemmas.Slice.Eq.{bytes_eq-Decides}
use Rattle.std.specs.Cmp.Lexicographic.{pointwise}
use Rattle.std.specs.Str.{bytes_eq}
use Rattle.histories.specs.History.{StartsWith, move}
use Rattle.mib_model.specs.declared.database.Database.{Database}
use Rattle.run_model.specs.declared.register.Answer.{Answer}
use Rattle.run_model.specs.declared.register.Answer.TheVariants as answer
use Rattle.run_model.specs.declared.register.Entry.{Entry}
use Rattle.run_model.specs.declared.reply.Reply.{Reply}
use Rattle.mib_model.specs.declared.rows.PcfRow.{PcfRow}
use Rattle.run_model.specs.Desk.{DeskState, Plain, says}
use Rattle.run_model.specs.DeskLines.{Request}
use Rattle.run_model.specs.DeskWays.{way_of, use_way, use_reply}
use Rattle.mib_model.specs.Orders.{sorted_by}
use Rattle.mib_model.specs.Plans.{has_plan, may_precede}
use Rattle.turn_cell.specs.Seats.{own_moves, seen_by}
use Rattle.edition_plans.specs.Params.{param_slices}
use Rattle.edition_register.specs.declared.outcome.UseFault.{UseFault}
use Rattle.edition_register.specs.declared.start.Start.{Start}
use Rattle.edition_register.specs.Seats.{Moves, RegisterSeat, UsesAt, refused_by}
use Rattle.fold_state.specs.Boards.{Slots, is_made_for}
use Rattle.param_state.specs.ParamPlans.{plan_names, planned_names}
use Rattle.param_plan.specs.Slices.{ParamSlice, slice_for}
use Rattle.desk.specs.Handling.{Handles}
use Rattle.desk.specs.Using.{used_reply}
use Rattle.desk.proofs.HandlingFacts.{handled-one}

module _ {P : Type 0} where
  -- what was seen before a move is seen after it
  pub seen-more : (n : ℕ) (first : Database) (old new : RegisterSeat P) (e : Entry) (a : Answer) → Moves n first old new e a → StartsWith (seen_by new) (seen_by old)
  seen-more n first old new e a m =
      (m.later.0 ++ move n e a ∷ [], m.seen ∙ ap (λ h. h ++ move n e a ∷ []) m.later.1 ∙ append_assoc (seen_by old) m.later.0 (move n e a ∷ []))

module _ {E B P : Type 0} where
  pub used-seen : (n : ℕ) (first : Database) (old new : RegisterSeat P) (e : Entry) (start : Option (Start E B)) (given : Result ℕ (UseFault E B)) → UsesAt n first old new e start given → StartsWith (seen_by new) (seen_by old)
  used-seen n first old new e start (Ok from) uses = seen-more n first old new e (answer.Used from) uses
  used-seen n first old new e start (Err refused) uses = seen-more n first old new e (refused_by refused).0 uses.0

  pub used-handled : (request : Request) (s : DeskState) (edition : ℕ) (first : Database) (old new : RegisterSeat P) (e : Entry) (start : Option (Start E B)) (given : Result ℕ (UseFault E B)) (told : Reply)
      → way_of false s request ≡ use_way s edition e → UsesAt 1 first old new e start given → told ≡ used_reply edition given
      → Handles request s (own_moves old) (own_moves new) (Some told) s
  used-handled request s edition first old new e start (Ok from) told is uses same =
      handled-one false 1 request s (own_moves old) (own_moves new) e (answer.Used from) (λ a. says s (use_reply edition a)) (Plain told) s is uses.own (ap (says s) (sym same))
  used-handled request s edition first old new e start (Err refused) told is uses same =
      handled-one false 1 request s (own_moves old) (own_moves new) e (refused_by refused).0 (λ a. says s (use_reply edition a)) (Plain told) s is uses.0.own (ap (says s) (sym same))

-- ---- boards

octets-same : (x : List ℕ) → bytes_eq x x ≡ true
octets-same x = (bytes_eq-Decides x x).1 refl

names-same : (xs : List (List ℕ)) → pointwise bytes_eq xs xs ≡ true
names-same [] = refl
names-same (x ∷ xs) = rw (octets-same x) (names-same xs)

names-of : (db : Database) (rows : List PcfRow) → map (λ (slice : ParamSlice). slice.pcf.name) (map (slice_for db) rows) ≡ map (λ row. row.name) rows
names-of db [] = refl
names-of db (row ∷ rows) = ap (λ names. row.name ∷ names) (names-of db rows)

pub made-for : (db : Database) (board : Slots) → board.names ≡ plan_names (param_slices db) → is_made_for db board ≡ true
unfolding param_slices
made-for db board names =
    let rows = sorted_by (λ (x y : PcfRow). may_precede x.name y.name) (filter has_plan db.pcf) in
    let same : board.names ≡ planned_names db = names ∙ names-of db rows in
    subst (λ ns. pointwise bytes_eq ns (planned_names db) ≡ true) (sym same) (names-same (planned_names db))
