use Rattle.std.proofs.Common.{◌∙◌, Bool, [], ap, cond, sym}
use Rattle.mib_model.specs.Kept.{entered}
use Rattle.line_sheets.proofs.AddFacts.{adds-none, adds-same}
use Rattle.line_sheets.proofs.sheet.Sheet.enter_asked.Goals as goal

pub returns-then-is_asked-clause-added : goal.returns-then-is_asked-clause-added
returns-then-is_asked-clause-added c = λ db names raw named below.
    let v = c.args.value.now in
    let is = sym c.is_asked.ensures ∙ c.if-is_asked.true in
    adds-same db names c.args.self.now c.enter_value.new.self _ _ (c.enter_value.ensures.added db names raw named below)
    (λ memory. ap (λ (b : Bool). (cond b (entered memory v) memory, [])) (sym is))

pub returns-else-is_asked-clause-added : goal.returns-else-is_asked-clause-added
returns-else-is_asked-clause-added c = λ db names raw named below.
    let v = c.args.value.now in
    let is = sym c.is_asked.ensures ∙ c.if-is_asked.false in
    adds-same db names c.args.self.now c.args.self.now _ _ (adds-none db names c.args.self.now)
    (λ memory. ap (λ (b : Bool). (cond b (entered memory v) memory, [])) (sym is))
