use Rattle.std.proofs.Common.{◌≡◌, ◌∙◌, ◌<◌, ◌≤◌, List, ℕ, length, ap, arith}
use Rattle.std.proofs.lemmas.List.{length-map}
use Rattle.std.specs.Arc.{arc_value}
use Rattle.fold_state.specs.Boards.{memory_of}
use Rattle.param_state.specs.ParamPlans.{plan_names}
use Rattle.mib_model.specs.Kept.{keeping}
use Rattle.param_state.proofs.NamedFacts.{plan-there}
use Rattle.fold_state.proofs.CarryFacts.{carried-all, carried-more, plan-placed}
use Rattle.fold_state.proofs.FinishFacts.{plan-found}
use Rattle.param_state.proofs.ValueFacts.{slice-found}
use Rattle.fold_state.proofs.board.Board.take.Goals as goal

pub loop-at-preserved : goal.loop-at-preserved
loop-at-preserved c = record {
  names = c.set_slot.ensures.names ∙ c.loop-at.invariant.names;
  memory = λ before after one two.
      let s = c.deref.result.now in
      let name = s.pcf.name in
      let to = c.args.to.now in
      let n = c.loop-at.at in
      let is = plan-there to n (arc_value c.plan.result.now) s c.deref.ensures c.plan.ensures in
      let made = c.loop-at.invariant.names ∙ c.requires.new in
      let within : n < length to = omega (arith, c.loop-at-test.true, c.len-at-end.ensures.count) in
      let at = plan-placed to c.loop-at.self.names n s c.len-at-end.ensures.ascend made within is in
      let was = slice-found after to name s two (plan-found to c.loop-at.self name n s made at is) in
      let kept = c.set_slot.ensures.memory name at ∙ ap (keeping (memory_of c.loop-at.self) name) (c.kept_for.ensures before after one c.requires.old was) in
      carried-more c.loop-at.self c.set_slot.new.self c.args.old.now before after n name c.set_slot.ensures.names at kept (c.loop-at.invariant.memory before after one two);
}

pub returns-clause-memory : goal.returns-clause-memory
returns-clause-memory c = λ before after one two.
    let made = c.loop-at.invariant.names ∙ c.requires.new in
    let named : length (plan_names c.args.to.now) ≡ length c.args.to.now = simp length-map in
    let long : length c.loop-at.self.names ≤ c.loop-at.at = omega (arith, c.loop-at-test.false, c.len-at-end.ensures.count, named, ap (λ (names : List (List ℕ)). length names) made) in
    carried-all c.args.from.now c.args.to.now c.loop-at.self c.args.old.now before after c.loop-at.at one two c.requires.old made long (c.loop-at.invariant.memory before after one two)
