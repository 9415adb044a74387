use Rattle.std.proofs.Common.{◌++◌, ◌/◌, ◌%◌, ◌∙◌, List, ℕ, take, sym, ap, append_assoc, arith}
use Rattle.std.specs.Prelude.{decimal}
use Rattle.line_text.specs.ShortTexts.{four_digits}
use Rattle.line_text.proofs.ShortFacts.{decimal_eight}
use Rattle.line_text.proofs.fast.number.add_twelve.Goals as goal

pub returns-clause-text : goal.returns-clause-text
returns-clause-text c =
    let old = take c.args.used c.args.line.now in
    let high = four_digits (c.args.n / 10000 % 10000) in
    let low = four_digits (c.args.n % 10000) in
    c.add_last.ensures.text
    ∙ (append_assoc (take c.add_short-behind.result c.add_short-behind.new.line) high low
    ∙ (ap (λ (text : List ℕ). text ++ (high ++ low)) (c.add_short-behind.ensures.text ∙ ap (λ (text : List ℕ). old ++ text) c.at-first.ensures.digits)
    ∙ (append_assoc old (decimal (c.args.n / 100000000)) (high ++ low)
    ∙ ap (λ (text : List ℕ). old ++ text) (sym (decimal_eight c.args.n (omega arith) (omega arith))))))
