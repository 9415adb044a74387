use Rattle.std.proofs.Common.{◌≤◌, arith, subst}
use Rattle.line_sheets.specs.Readings.{held_size}
use Rattle.line_sheets.specs.Sheets.{SheetView}
use Rattle.line_sheets.specs.declared.sheet.TheConstants.{SHEET_ROOM}
use Rattle.line_sheets.proofs.LyingFacts.{events_many, size-held}
use Rattle.line_sheets.proofs.sheet.Sheet.read.Goals as goal

pub returns-clause-size : goal.returns-clause-size
returns-clause-size c =
    let sheet = c.self.inside in
    let size = size-held sheet.text sheet.events.items sheet.raws.items sheet.counts.items c.self.invariant.0 in
    subst (λ (s : SheetView). held_size s ≤ SHEET_ROOM) c.self.view_is (omega (arith, size, c.self.invariant.1))

pub returns-clause-events : goal.returns-clause-events
returns-clause-events c =
    let sheet = c.self.inside in
    let many = events_many sheet.text sheet.events.items sheet.raws.items sheet.counts.items c.args.self.now c.self.view_is in
    omega (arith, many, c.self.invariant.2, c.self.invariant.3)
