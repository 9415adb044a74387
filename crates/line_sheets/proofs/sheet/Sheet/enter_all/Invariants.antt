use Rattle.std.proofs.Common.{◌≡◌, ◌≤◌, ◌+◌, ℕ, Bool, List, [], length, take}
use Rattle.std.specs.List.{All}
use Rattle.param_state.specs.ParamPlans.{plan_names}
use Rattle.param_state.specs.Demands.{AreAsked}
use Rattle.param_state.specs.FinishedValues.{IsRaw}
use Rattle.mib_model.specs.declared.database.Database.{Database}
use Rattle.mib_model.specs.Kept.{all_entered}
use Rattle.line_sheets.specs.Drawings.{AddsFor, HasPlan}
use Rattle.line_sheets.proofs.sheet.Sheet.enter_all.Given as goal

abbrev pub invariant-loop-k : goal.invariant-loop-k
invariant-loop-k l = record {
  added : (asked : List ℕ → Bool) (db : Database) → AreAsked asked (plan_names l.params) l.demands → All IsRaw l.values → All (λ v. HasPlan l.params v.name) l.values
      → AddsFor asked db (plan_names l.params) l.initial.self l.self (λ memory. (all_entered memory (take l.k l.values), []));
  size : l.self.size ≡ l.initial.self.size;
  events : length l.self.runs ≤ length l.initial.self.runs + l.k;
}
