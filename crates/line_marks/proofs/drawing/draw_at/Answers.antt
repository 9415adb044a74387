use Rattle.std.proofs.Common.{◌≡◌, ◌∙◌, Some, sym}
use Rattle.std.specs.List.{position}
use Rattle.std.specs.Str.{bytes_eq}
use Rattle.std.specs.Arc.{arc_value}
use Rattle.param_state.proofs.NamedFacts.{plan-there}
use Rattle.line_marks.proofs.DrawingFacts.{found-at}
use Rattle.param_state.proofs.ValueFacts.{slice-found}
use Rattle.line_marks.proofs.drawing.draw_at.Goals as goal

pub returns-clause-shown : goal.returns-clause-shown
returns-clause-shown c = λ db plans raw is_place.
    let name = c.args.value.now.name in
    let params = c.args.params.now in
    let s = c.deref.result.now in
    let is = plan-there params c.in-Some.at (arc_value c.plan.result.now) s c.deref.ensures c.plan.ensures in
    let at : position (λ slice. bytes_eq slice.pcf.name name) params ≡ Some c.in-Some.at = sym is_place ∙ c.in-Some.is in
    c.draw_value.ensures.shown db (slice-found db params name s plans (found-at params name c.in-Some.at s at is)) raw
