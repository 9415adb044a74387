use Rattle.std.proofs.Common.{sym, ap}
use Rattle.mib_model.specs.Walk.{Extracted}
use Rattle.mib_model.specs.Interpreter.{memory_for, record_for, course_after}
use Rattle.mib_model.specs.Texts.{record_body}
use Rattle.fold_state.specs.Laws.{values_finished, body_text}
use Rattle.fold_state.proofs.laws.finish_is_a_step.Goals as goal

pub returns : goal.returns
unfolding record_body record_for course_after
returns c = λ course s values ended are. record {
  text = ap (λ (x : Extracted). body_text s (values_finished s (memory_for course s) x.0).1 x.1) (sym are);
  memory = ap (λ (x : Extracted). (values_finished s (memory_for course s) x.0).0) (sym are);
}
