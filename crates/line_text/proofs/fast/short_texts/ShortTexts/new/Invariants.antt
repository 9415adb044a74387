use Rattle.std.proofs.Common.{◌≡◌, ◌≤◌, length, map}
use Rattle.std.specs.Prelude.{vec_capacity}
use Rattle.line_text.specs.ShortTexts.{texts_of, number_texts_below}
use Rattle.line_text.specs.declared.fast.short_texts.TheConstants.{SHORT_BOUND}
use Rattle.line_text.proofs.fast.short_texts.ShortTexts.new.Given as goal

abbrev pub invariant-loop-n : goal.invariant-loop-n
invariant-loop-n l = record {
  told : map texts_of l.texts.items ≡ number_texts_below l.n;
  count : length l.texts.items ≡ l.n;
  room : SHORT_BOUND ≤ vec_capacity l.texts;
}
