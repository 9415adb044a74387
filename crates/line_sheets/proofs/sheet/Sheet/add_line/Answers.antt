use Rattle.std.proofs.Common.{◌∙◌, List, ℕ, ap, arith, subst}
use Rattle.line_marks.specs.Marks.{IsShown, behind}
use Rattle.line_sheets.specs.Lying.{sheet_in}
use Rattle.line_sheets.specs.Sheets.{SheetView, with_text}
use Rattle.line_sheets.proofs.LyingFacts.{write-behind, write-held, write-view}
use Rattle.line_sheets.proofs.sheet.Sheet.add_line.Goals as goal

pub invariant_of-self : goal.invariant_of-self
invariant_of-self c =
    let sheet = c.self.inside in
    let inv = c.self.invariant in
    let size = ap (λ (s : SheetView). s.size) c.self.view_is in (
      write-held sheet.text _ c.draw_noted.new.out sheet.events.items sheet.raws.items sheet.counts.items inv.0 c.draw_noted.ensures.added,
      omega (arith, size, c.requires.room, c.draw_noted.ensures.room),
      inv.2,
      inv.3,
      inv.4,
      inv.5,
      inv.6,
      inv.7,
      inv.8,
    )

pub returns-clause-shown : goal.returns-clause-shown
returns-clause-shown c = λ asked db plans noted raw at.
    let sheet = c.self.inside in
    let line = behind sheet.text c.draw_noted.new.out in
    let old = c.args.self.now in
    let new = sheet_in c.draw_noted.new.out sheet.events.items sheet.raws.items sheet.counts.items in
    let wrote = write-view sheet.text line c.draw_noted.new.out sheet.events.items sheet.raws.items sheet.counts.items c.self.invariant.0 c.draw_noted.ensures.added old c.self.view_is in
    subst (λ (l : List ℕ). IsShown db c.args.packet.now c.args.value.now (c.draw_noted.result, l)) (write-behind line old new wrote) (c.draw_noted.ensures.shown asked db plans noted raw at)

pub returns-clause-text : goal.returns-clause-text
returns-clause-text c =
    let sheet = c.self.inside in
    let line = behind sheet.text c.draw_noted.new.out in
    let old = c.args.self.now in
    let new = sheet_in c.draw_noted.new.out sheet.events.items sheet.raws.items sheet.counts.items in
    let wrote = write-view sheet.text line c.draw_noted.new.out sheet.events.items sheet.raws.items sheet.counts.items c.self.invariant.0 c.draw_noted.ensures.added old c.self.view_is in
    wrote ∙ ap (λ (l : List ℕ). with_text old l) (write-behind line old new wrote)

pub returns-clause-open : goal.returns-clause-open
returns-clause-open c = λ left.
    let sheet = c.self.inside in
    ap (λ (t : List ℕ). sheet_in t sheet.events.items sheet.raws.items sheet.counts.items) (c.draw_noted.ensures.open left) ∙ c.self.view_is
