use Rattle.std.proofs.Common.{◌∙◌, refl, sym}
use Rattle.line_marks.specs.Marks.{behind}
use Rattle.line_marks.proofs.BehindFacts.{behind-added, behind-is, behind-none}
use Rattle.line_sheets.proofs.PlaceFacts.{shown-plain}
use Rattle.line_sheets.proofs.noted.draw_noted.Goals as goal

pub returns-in_default-clause-shown : goal.returns-in_default-clause-shown
returns-in_default-clause-shown c = λ asked db plans noted raw place memory. refl

pub returns-in_default-clause-added : goal.returns-in_default-clause-added
returns-in_default-clause-added c = behind-none c.args.out.now

pub returns-then-is_plain-clause-shown : goal.returns-then-is_plain-clause-shown
returns-then-is_plain-clause-shown c = λ asked db plans noted raw place.
    shown-plain db c.args.packet.now c.args.params.now c.args.value.now c.in-Some.at (behind c.args.out.now c.add_plain_value.new.out) plans (sym place ∙ c.in-Some.is)
    (noted.plain c.in-Some.at (c.is_plain.ensures c.if-is_plain.true)) (behind-is c.args.out.now c.add_plain_value.new.out _ c.add_plain_value.ensures.text)

pub returns-then-is_plain-clause-added : goal.returns-then-is_plain-clause-added
returns-then-is_plain-clause-added c = behind-added c.args.out.now c.add_plain_value.new.out _ c.add_plain_value.ensures.text

pub returns-clause-shown : goal.returns-clause-shown
returns-clause-shown c = λ asked db plans noted raw place. c.draw_at.ensures.shown db plans raw (sym c.in-Some.is ∙ place)
