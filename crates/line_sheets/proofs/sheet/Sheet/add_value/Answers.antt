use Rattle.std.proofs.Common.{◌∙◌, ap, arith, length, subst}
use Rattle.line_marks.specs.declared.mark.Mark.{Mark}
use Rattle.param_state.specs.ParamPlans.{plan_names}
use Rattle.line_marks.specs.Marks.{IsShown, behind, finished_lines}
use Rattle.line_sheets.specs.Drawings.{Adds}
use Rattle.line_sheets.specs.Sheets.{Act, Calmed, SheetView, with_act, with_text}
use Rattle.line_sheets.specs.declared.sheet.TheConstants.{SEATS_MOST}
use Rattle.line_sheets.proofs.AddFacts.{adds-to}
use Rattle.line_sheets.proofs.LyingFacts.{act_events, act_size, text_events}
use Rattle.line_sheets.proofs.PacketFacts.{adds-calm, adds-told}
use Rattle.line_sheets.proofs.PlaceFacts.{seat-there}
use Rattle.line_sheets.proofs.sheet.Sheet.add_value.Goals as goal

pub calm-requires : goal.calm-requires
calm-requires c =
    let same = text_events c.args.self.now c.add_line.new.self _ c.add_line.ensures.text in
    omega (arith, same, c.requires.events)

pub add_open-requires-clause-text : goal.add_open-requires-clause-text
add_open-requires-clause-text c =
    let same = ap (λ (s : SheetView). s.size) (c.add_line.ensures.open c.in-Open.is) in
    omega (arith, same, c.requires.text)

pub add_open-requires-clause-events : goal.add_open-requires-clause-events
add_open-requires-clause-events c =
    let same = ap (λ (s : SheetView). length s.runs) (c.add_line.ensures.open c.in-Open.is) in
    omega (arith, same, c.requires.events)

pub returns-in-Told-clause-added : goal.returns-in-Told-clause-added
returns-in-Told-clause-added c = λ asked db plans noted raw has at.
    let old = c.args.self.now in
    let new = c.add_line.new.self in
    let v = c.args.value.now in
    let packet = c.args.packet.now in
    let line = behind old.tail new.tail in
    let shown = subst (λ (m : Mark). IsShown db packet v (m, line)) c.in-Told.is (c.add_line.ensures.shown asked db plans noted raw at) in
    adds-to db (plan_names c.args.params.now) old (with_text old line) new (λ memory. finished_lines db packet memory v) c.add_line.ensures.text
    (adds-told db (plan_names c.args.params.now) packet v old line shown)

pub returns-in-Told-clause-events : goal.returns-in-Told-clause-events
returns-in-Told-clause-events c =
    let same = text_events c.args.self.now c.add_line.new.self _ c.add_line.ensures.text in
    omega (arith, same)

pub returns-in-Nominal-clause-added : goal.returns-in-Nominal-clause-added
returns-in-Nominal-clause-added c = λ asked db plans noted raw has at.
    let old = c.args.self.now in
    let new = c.add_line.new.self in
    let v = c.args.value.now in
    let packet = c.args.packet.now in
    let line = behind old.tail new.tail in
    let number = c.in-Nominal.number in
    let seat = c.seat_of.result in
    let act : Act = Calmed seat number.count in
    let shown = subst (λ (m : Mark). IsShown db packet v (m, line)) c.in-Nominal.is (c.add_line.ensures.shown asked db plans noted raw at) in
    let there = seat-there c.args.params.now v.name c.args.place seat SEATS_MOST has at c.requires.few c.seat_of.ensures in
    adds-to db (plan_names c.args.params.now) old (with_act (with_text old line) act) c.calm.new.self (λ memory. finished_lines db packet memory v)
    (c.calm.ensures ∙ ap (λ (s : SheetView). with_act s act) c.add_line.ensures.text)
    (adds-calm db (plan_names c.args.params.now) packet v old seat there.named there.below line number shown)

pub returns-in-Nominal-clause-size : goal.returns-in-Nominal-clause-size
returns-in-Nominal-clause-size c =
    let size = act_size c.add_line.new.self c.calm.new.self _ c.calm.ensures in
    omega (arith, size, c.add_line.ensures.room)

pub returns-in-Nominal-clause-events : goal.returns-in-Nominal-clause-events
returns-in-Nominal-clause-events c =
    let same = text_events c.args.self.now c.add_line.new.self _ c.add_line.ensures.text in
    let more = act_events c.add_line.new.self c.calm.new.self _ c.calm.ensures in
    omega (arith, same, more)

pub returns-in-Open-clause-added : goal.returns-in-Open-clause-added
returns-in-Open-clause-added c = λ asked db plans noted raw has at.
    let v = c.args.value.now in
    let names = plan_names c.args.params.now in
    let seat = c.seat_of-in-Open.result in
    let there = seat-there c.args.params.now v.name c.args.place seat SEATS_MOST has at c.requires.few c.seat_of-in-Open.ensures in
    subst (λ (s : SheetView). Adds db names s c.add_open.new.self (λ memory. finished_lines db c.args.packet.now memory v)) (c.add_line.ensures.open c.in-Open.is)
    (c.add_open.ensures.added db names raw there.named there.below)

pub returns-in-Open-clause-size : goal.returns-in-Open-clause-size
returns-in-Open-clause-size c =
    let same = ap (λ (s : SheetView). s.size) (c.add_line.ensures.open c.in-Open.is) in
    omega (arith, same, c.add_open.ensures.size)

pub returns-in-Open-clause-events : goal.returns-in-Open-clause-events
returns-in-Open-clause-events c =
    let same = ap (λ (s : SheetView). length s.runs) (c.add_line.ensures.open c.in-Open.is) in
    omega (arith, same, c.add_open.ensures.events)
