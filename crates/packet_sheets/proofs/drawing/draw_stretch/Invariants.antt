use Rattle.std.proofs.Common.{ℕ, Bool, List, take}
use Rattle.edition_plans.specs.Params.{param_slices}
use Rattle.param_state.specs.ParamPlans.{plan_names}
use Rattle.param_state.specs.Demands.{AreDemandsOf}
use Rattle.line_sheets.specs.Drawings.{IsSheetFor}
use Rattle.mib_model.specs.Interpreter.{stamped_from}
use Rattle.packet_sheets.proofs.drawing.draw_stretch.Given as goal

abbrev pub invariant-loop-k : goal.invariant-loop-k
invariant-loop-k g l = record {
  drawn : let db = g.P.Structures.tables l.plans in
      (asked : List ℕ → Bool) → AreDemandsOf asked (param_slices db) l.demands → IsSheetFor asked db (plan_names (param_slices db)) (stamped_from db l.number (take l.k l.stretch.packets)) l.sheet;
}
