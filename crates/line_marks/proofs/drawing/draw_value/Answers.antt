use Rattle.std.proofs.Common.{◌∙◌, sym}
use Rattle.line_marks.specs.Marks.{IsSettled, behind}
use Rattle.line_marks.proofs.DrawingFacts.{shown-numberless}
use Rattle.line_marks.proofs.BehindFacts.{behind-is}
use Rattle.line_marks.proofs.drawing.draw_value.Goals as goal

pub returns-clause-shown : goal.returns-clause-shown
returns-clause-shown c = λ db is raw.
    let settled : IsSettled c.args.plan.now = record { valid = c.is_settled.ensures.valid c.if-not-is_settled.false; curve = c.is_settled.ensures.curve c.if-not-is_settled.false } in
    shown-numberless db c.args.packet.now c.args.value.now c.args.plan.now (behind c.args.out.now c.draw_line.new.out) is settled (sym (c.is_raw.ensures.number raw) ∙ c.if-is_raw.false)
    (behind-is c.args.out.now c.draw_line.new.out _ c.draw_line.ensures.text)
