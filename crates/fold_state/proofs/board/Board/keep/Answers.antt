use Rattle.std.proofs.Common.{◌≡◌, ◌∙◌, ◌<◌, ◌≤◌, List, ℕ, Some, ap, arith, length, map, sym}
use Rattle.std.proofs.lemmas.List.{length-map}
use Rattle.std.specs.Arc.{arc_value}
use Rattle.mib_model.specs.Carry.{carry as carried}
use Rattle.mib_model.specs.Kept.{keeping}
use Rattle.param_plan.specs.Slices.{ParamSlice}
use Rattle.fold_state.specs.Boards.{Slots, memory_of, place_of}
use Rattle.param_state.specs.ParamPlans.{plan_names, IsParamsOf}
use Rattle.mib_model.specs.declared.database.Database.{Database}
use Rattle.param_state.proofs.NamedFacts.{plan-there}
use Rattle.fold_state.proofs.CarryFacts.{carried-all, carried-more, carry-alike, kept-more, plan-placed}
use Rattle.fold_state.proofs.FinishFacts.{plan-found}
use Rattle.param_state.proofs.ValueFacts.{slice-found}
use Rattle.fold_state.proofs.board.Board.keep.Goals as goal

pub loop-at-preserved : goal.loop-at-preserved
loop-at-preserved c =
    let old = c.args.self.now in
    let board = c.loop-at.self in
    let next = c.keep_at.new.self in
    let from = c.args.from.now in
    let to = c.args.to.now in
    let n = c.loop-at.at in
    let t = c.deref.result.now in
    let s = c.deref-in-loop-at.result.now in
    let name = s.pcf.name in
    let is_t = plan-there from n (arc_value c.plan.result.now) t c.deref.ensures c.plan.ensures in
    let is_s = plan-there to n (arc_value c.plan-in-loop-at.result.now) s c.deref-in-loop-at.ensures c.plan-in-loop-at.ensures in
    let was_made = c.loop-at.invariant.names ∙ c.requires.old in
    let made = c.loop-at.invariant.names ∙ c.requires.new in
    let within : n < length to = omega (arith, c.loop-at-test.true, c.len-at-end.ensures.count) in
    let at : place_of board name ≡ Some n = plan-placed to board.names n s c.len-at-end.ensures.ascend made within is_s in
    let read = c.read_on.ensures in
    let names = c.keep_at.ensures.names ∙ ap (λ (b : Slots). b.names) read in
    let kept : (before after : Database) → IsParamsOf before from → IsParamsOf after to → memory_of next ≡ keeping (memory_of board) name (carried (memory_of old) before after name) =
    λ before after one two.
    let here = ap (λ (b : Slots). place_of b name) read ∙ at in
    let was = slice-found before from name t one (plan-found from board name n t was_made at is_t) in
    let is = slice-found after to name s two (plan-found to board name n s made at is_s) in
    let alike = carry-alike (memory_of board) (memory_of old) before after name (c.loop-at.invariant.kept before after one two name n at (omega arith)) in
    c.keep_at.ensures.memory before after name here was is
    ∙ ap (λ (b : Slots). keeping (memory_of b) name (carried (memory_of b) before after name)) read
    ∙ ap (keeping (memory_of board) name) alike in
    record {
      names = c.keep_at.ensures.names ∙ (ap (λ (b : Slots). b.names) read ∙ c.loop-at.invariant.names);
      carried = λ before after one two. carried-more board next old before after n name names at (kept before after one two) (c.loop-at.invariant.carried before after one two);
      kept = λ before after one two. kept-more board next old n name (carried (memory_of old) before after name) names at (kept before after one two) (c.loop-at.invariant.kept before after one two);
    }

pub returns-clause-memory : goal.returns-clause-memory
returns-clause-memory c = λ before after one two.
    let named : length (plan_names c.args.to.now) ≡ length c.args.to.now = simp length-map in
    let made = c.loop-at.invariant.names ∙ c.requires.new in
    let long : length c.loop-at.self.names ≤ c.loop-at.at = omega (arith, c.loop-at-test.false, c.len-at-end.ensures.count, named, ap (λ (names : List (List ℕ)). length names) made) in
    carried-all c.args.from.now c.args.to.now c.loop-at.self c.args.self.now before after c.loop-at.at one two c.requires.old made long (c.loop-at.invariant.carried before after one two)
