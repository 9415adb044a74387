use Rattle.std.proofs.Common.{sym, arith}
use Rattle.std.proofs.lemmas.List.{map-append}
use Rattle.line_text.proofs.ShortFacts.{texts_more}
use Rattle.line_text.proofs.fast.short_texts.ShortTexts.new.Goals as goal

pub loop-n-preserved : goal.loop-n-preserved
loop-n-preserved c = record {
  told = rw (c.push_reserved.ensures.items, map-append, c.loop-n.invariant.told, c.short_of.ensures) (sym (texts_more c.loop-n.n));
  count = omega (arith, c.push_reserved.ensures.len);
  room = omega (arith, c.push_reserved.ensures.capacity);
}
