use Rattle.std.proofs.Common.{◌≡◌, ◌∙◌, ℤ, true, false, Some, None, ap, arith, sym}
use Rattle.std.proofs.lemmas.Int.{to_z-of_z}
use mir.Syntax.{w128}
use mir.Val.{to_z, of_z}
use Rattle.line_sheets.specs.Sheets.{Act, Opened, SheetView, with_act, with_text}
use Rattle.line_marks.specs.Marks.{finished_lines}
use Rattle.record_text.specs.ValueParts.{begin_text}
use Rattle.line_sheets.proofs.AddFacts.{adds-to}
use Rattle.line_sheets.proofs.LyingFacts.{act_events, act_size, text_events}
use Rattle.line_sheets.proofs.PacketFacts.{adds-open}
use Rattle.line_sheets.proofs.sheet.Sheet.add_open.Goals as goal

pub open-requires-clause-room : goal.open-requires-clause-room
open-requires-clause-room c =
    let same = text_events c.args.self.now c.add_front.new.self _ c.add_front.ensures.text in
    omega (arith, same, c.requires.events)

pub open-requires-else-is_raw-clause-room : goal.open-requires-else-is_raw-clause-room
open-requires-else-is_raw-clause-room c =
    let same = text_events c.args.self.now c.add_front.new.self _ c.add_front.ensures.text in
    omega (arith, same, c.requires.events)

pub returns-then-is_raw-clause-added : goal.returns-then-is_raw-clause-added
returns-then-is_raw-clause-added c = λ db names raw named below.
    let old = c.args.self.now in
    let v = c.args.value.now in
    let packet = c.args.packet.now in
    let act : Act = Opened c.args.seat (Some v.raw) in
    let number = sym (c.is_raw.ensures.number raw) ∙ c.if-is_raw.true in
    let back : to_z w128 (of_z w128 v.raw) ≡ v.raw = grind (arith, to_z-of_z, raw.0, raw.1) in
    adds-to db names old (with_act (with_text old (begin_text v packet)) act) c.open.new.self (λ memory. finished_lines db packet memory v)
    (c.open.ensures ∙ (ap (λ (n : ℤ). with_act c.add_front.new.self (Opened c.args.seat (Some n))) back ∙ ap (λ (s : SheetView). with_act s act) c.add_front.ensures.text))
    (adds-open db names packet v old c.args.seat named below true number)

pub returns-then-is_raw-clause-size : goal.returns-then-is_raw-clause-size
returns-then-is_raw-clause-size c =
    let size = act_size c.add_front.new.self c.open.new.self _ c.open.ensures in
    omega (arith, size, c.add_front.ensures.room)

pub returns-then-is_raw-clause-events : goal.returns-then-is_raw-clause-events
returns-then-is_raw-clause-events c =
    let same = text_events c.args.self.now c.add_front.new.self _ c.add_front.ensures.text in
    let more = act_events c.add_front.new.self c.open.new.self _ c.open.ensures in
    omega (arith, same, more)

pub returns-else-is_raw-clause-added : goal.returns-else-is_raw-clause-added
returns-else-is_raw-clause-added c = λ db names raw named below.
    let old = c.args.self.now in
    let v = c.args.value.now in
    let packet = c.args.packet.now in
    let act : Act = Opened c.args.seat None in
    let number = sym (c.is_raw.ensures.number raw) ∙ c.if-is_raw.false in
    adds-to db names old (with_act (with_text old (begin_text v packet)) act) c.open-else-is_raw.new.self (λ memory. finished_lines db packet memory v)
    (c.open-else-is_raw.ensures ∙ ap (λ (s : SheetView). with_act s act) c.add_front.ensures.text)
    (adds-open db names packet v old c.args.seat named below false number)

pub returns-else-is_raw-clause-size : goal.returns-else-is_raw-clause-size
returns-else-is_raw-clause-size c =
    let size = act_size c.add_front.new.self c.open-else-is_raw.new.self _ c.open-else-is_raw.ensures in
    omega (arith, size, c.add_front.ensures.room)

pub returns-else-is_raw-clause-events : goal.returns-else-is_raw-clause-events
returns-else-is_raw-clause-events c =
    let same = text_events c.args.self.now c.add_front.new.self _ c.add_front.ensures.text in
    let more = act_events c.add_front.new.self c.open-else-is_raw.new.self _ c.open-else-is_raw.ensures in
    omega (arith, same, more)
