use Rattle.std.proofs.Common.{ap, arith}
use Rattle.line_sheets.specs.Sheets.{SheetView}
use Rattle.line_sheets.proofs.LyingFacts.{write-held, write-view}
use Rattle.line_sheets.proofs.sheet.Sheet.add_front.Goals as goal

pub invariant_of-self : goal.invariant_of-self
invariant_of-self c =
    let sheet = c.self.inside in
    let inv = c.self.invariant in
    let size = ap (λ (s : SheetView). s.size) c.self.view_is in (
      write-held sheet.text _ c.begin_value.new.out sheet.events.items sheet.raws.items sheet.counts.items inv.0 c.begin_value.ensures.text,
      omega (arith, size, c.requires.room, c.begin_value.ensures.room),
      inv.2,
      inv.3,
      inv.4,
      inv.5,
      inv.6,
      inv.7,
      inv.8,
    )

pub returns-clause-text : goal.returns-clause-text
returns-clause-text c =
    let sheet = c.self.inside in
    write-view sheet.text _ c.begin_value.new.out sheet.events.items sheet.raws.items sheet.counts.items c.self.invariant.0 c.begin_value.ensures.text c.args.self.now c.self.view_is
