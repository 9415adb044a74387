use Rattle.std.proofs.Common.{◌≤◌, ◌+◌, ◌*◌, ℕ, Bool, List, length, take}
use Rattle.std.specs.List.{All}
use Rattle.param_state.specs.ParamPlans.{plan_names, IsParamsOf}
use Rattle.param_state.specs.Demands.{AreNoted}
use Rattle.param_state.specs.FinishedValues.{IsRaw}
use Rattle.mib_model.specs.declared.database.Database.{Database}
use Rattle.record_text.specs.declared.lines.TheConstants.{VALUE_ROOM}
use Rattle.line_sheets.specs.Drawings.{Adds, HasPlan, values_played}
use Rattle.line_sheets.proofs.sheet.Sheet.add_all.Given as goal

abbrev pub invariant-loop-k : goal.invariant-loop-k
invariant-loop-k l = record {
  added : (asked : List ℕ → Bool) (db : Database) → IsParamsOf db l.params → AreNoted asked l.params l.demands → All IsRaw l.values → All (λ v. HasPlan l.params v.name) l.values
      → Adds db (plan_names l.params) l.initial.self l.self (values_played db l.packet (take l.k l.values));
  size : l.self.size ≤ l.initial.self.size + l.k * VALUE_ROOM;
  events : length l.self.runs ≤ length l.initial.self.runs + l.k;
}
