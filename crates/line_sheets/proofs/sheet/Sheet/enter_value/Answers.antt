use Rattle.std.proofs.Common.{◌≡◌, ◌∙◌, ℤ, [], ap, arith, sym}
use Rattle.std.proofs.lemmas.Int.{to_z-of_z}
use mir.Syntax.{w128}
use mir.Val.{to_z, of_z}
use Rattle.mib_model.specs.Kept.{Memory, entered}
use Rattle.line_sheets.specs.Sheets.{Entered, with_act}
use Rattle.line_sheets.proofs.AddFacts.{adds-none, adds-same, adds-to}
use Rattle.line_sheets.proofs.LyingFacts.{act_events}
use Rattle.line_sheets.proofs.PacketFacts.{adds-entry, entered-none}
use Rattle.line_sheets.proofs.sheet.Sheet.enter_value.Goals as goal

pub returns-then-is_raw-clause-added : goal.returns-then-is_raw-clause-added
returns-then-is_raw-clause-added c = λ db names raw named below.
    let old = c.args.self.now in
    let v = c.args.value.now in
    let number = sym (c.is_raw.ensures.number raw) ∙ c.if-is_raw.true in
    let back : to_z w128 (of_z w128 v.raw) ≡ v.raw = grind (arith, to_z-of_z, raw.0, raw.1) in
    adds-to db names old (with_act old (Entered c.args.seat v.raw)) c.enter.new.self (λ memory. (entered memory v, []))
    (c.enter.ensures ∙ ap (λ (n : ℤ). with_act old (Entered c.args.seat n)) back)
    (adds-entry db names [] v old c.args.seat named below number)

pub returns-then-is_raw-clause-events : goal.returns-then-is_raw-clause-events
returns-then-is_raw-clause-events c =
    let more = act_events c.args.self.now c.enter.new.self _ c.enter.ensures in
    omega (arith, more)

pub returns-else-is_raw-clause-added : goal.returns-else-is_raw-clause-added
returns-else-is_raw-clause-added c = λ db names raw named below.
    let old = c.args.self.now in
    let v = c.args.value.now in
    let number = sym (c.is_raw.ensures.number raw) ∙ c.if-is_raw.false in
    adds-same db names old old (λ memory. (memory, [])) (λ memory. (entered memory v, [])) (adds-none db names old) (λ memory. ap (λ (m : Memory). (m, [])) (sym (entered-none memory v number)))
