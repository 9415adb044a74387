use Rattle.std.proofs.Common.{◌∙◌, true, false, None, ap, sym}
use Rattle.build_rules.specs.Asks.{asked_of, items_in}
use Rattle.run_model.specs.DeskLines.{words_of}
use Rattle.build_asks.proofs.AskFacts.{all-items, by-words, too-long}
use Rattle.build_asks.proofs.ask.ask_in.Goals as goal

pub returns-then-line-gt-LINE_MOST-clause-value : goal.returns-then-line-gt-LINE_MOST-clause-value
returns-then-line-gt-LINE_MOST-clause-value c = too-long c.args.line.now c.if-line-gt-LINE_MOST.true

pub returns-in_default-clause-value : goal.returns-in_default-clause-value
returns-in_default-clause-value c =
    by-words c.args.line.now c.if-line-gt-LINE_MOST.false None (ap asked_of (sym (c.of-words.ensures ∙ ap words_of c.without_return.ensures)) ∙ c.in_default.ensures.value)

pub returns-in-true-clause-value : goal.returns-in-true-clause-value
returns-in-true-clause-value c =
    by-words c.args.line.now c.if-line-gt-LINE_MOST.false _
    (ap asked_of (sym (c.of-words.ensures ∙ ap words_of c.without_return.ensures)) ∙ (c.in-Some.ensures.value
    ∙ all-items c.in-Some.ask (items_in c.take_ask.new.words) c.clear.new.self.items c.add_items.new.items.items true c.clear.ensures.items (rw c.in-true.is at c.in_ok-add_items.ensures)))

pub returns-in-false-clause-value : goal.returns-in-false-clause-value
returns-in-false-clause-value c =
    by-words c.args.line.now c.if-line-gt-LINE_MOST.false None
    (ap asked_of (sym (c.of-words.ensures ∙ ap words_of c.without_return.ensures)) ∙ (c.in-Some.ensures.value
    ∙ all-items c.in-Some.ask (items_in c.take_ask.new.words) c.clear.new.self.items c.add_items.new.items.items false c.clear.ensures.items (rw c.in-false.is at c.in_ok-add_items.ensures)))
