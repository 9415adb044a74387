use Rattle.std.proofs.Common.{◌≡◌, ◌∙◌, ◌==◌, List, length, true, ap, refl, sym}
use Rattle.line_sheets.specs.declared.sheet.SheetEvent.{SheetEvent}
use Rattle.line_sheets.specs.Readings.{LeftView}
use Rattle.line_sheets.proofs.LyingFacts.{no-events, rest-view}
use Rattle.line_sheets.proofs.reading.Reading.rest.Goals as goal

pub returns-then-is_empty : goal.returns-then-is_empty
returns-then-is_empty c none =
    let left = c.self.inside in
    c.part.ensures ∙ rest-view left.text.now left.written left.from left.events.now left.raws.now left.counts.now c.self.invariant.0 c.self.invariant.1 c.args.self.now c.self.view_is
    (length left.text.now) refl (sym c.is_empty.ensures ∙ c.if-is_empty.true)

pub returns-else-is_empty : goal.returns-else-is_empty
returns-else-is_empty c none =
    let left = c.self.inside in
    let is = no-events left.text.now left.from left.events.now left.raws.now left.counts.now (ap (λ (v : LeftView). v.left.runs) c.self.view_is ∙ none) in
    let empty : (length left.events.now == 0) ≡ true = ap (λ (es : List SheetEvent). length es == 0) is in
    absurd (cc (empty, c.is_empty.ensures, c.if-is_empty.false))
