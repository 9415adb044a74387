use Rattle.std.proofs.Common.{sym, arith}
use Rattle.std.proofs.lemmas.List.{length-take-le}
use Rattle.line_text.specs.declared.fast.short_texts.TheConstants.{SHORT_BOUND}
use Rattle.line_text.proofs.ShortFacts.{texts_length, texts_whole}
use Rattle.line_text.proofs.fast.short_texts.ShortTexts.all.Goals as goal

pub slice_bounds-result-end : goal.slice_bounds-result-end
slice_bounds-result-end c =
    let count = texts_length c.args.self.now.texts.items SHORT_BOUND c.args.self.now.told in
    sym (length-take-le 10000 c.deref.result.now (rw c.deref.ensures.value (omega (arith, count))))

pub invariant_of-result : goal.invariant_of-result
invariant_of-result c = record {
  told = rw (c.deref.ensures.value, texts_whole c.args.self.now.texts.items SHORT_BOUND c.args.self.now.told) c.args.self.now.told;
}
