use Rattle.std.proofs.Common.{◌++◌, List, ℕ, take, sym, ap, append_assoc, arith}
use Rattle.line_text.proofs.ShortFacts.{decimal_more}
use Rattle.line_text.proofs.fast.number.add_eight.Goals as goal

pub returns-clause-text : goal.returns-clause-text
returns-clause-text c =
    rw (c.add_word.ensures.text, c.add_short-behind.ensures.text, c.at-high.ensures.digits, c.at-low.ensures.four, append_assoc)
    (ap (λ (text : List ℕ). take c.args.used c.args.line.now ++ text) (sym (decimal_more c.args.n (omega arith) (omega arith))))
