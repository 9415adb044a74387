use Rattle.std.proofs.Common.{◌≡◌, ◌+◌, ◌-◌, ◌++◌, ◌/◌, ◌%◌, ◌∙◌, List, ℕ, take, sym, ap, append_assoc, arith}
use Rattle.std.specs.Prelude.{decimal}
use Rattle.line_text.specs.ShortTexts.{four_digits}
use Rattle.line_text.proofs.ShortFacts.{decimal_eight}
use Rattle.line_text.proofs.fast.number.put_longer.Goals as goal

pub returns-clause-text : goal.returns-clause-text
returns-clause-text c =
    let old = take c.args.used c.args.line.now in
    let high = four_digits (c.args.n / 10000 % 10000) in
    let low = four_digits (c.args.n % 10000) in
    let end : c.args.used + (c.add_last-end.result - c.args.used) ≡ c.add_last-end.result = omega (arith, c.add_last-end.ensures.room, c.add_twelve-behind.ensures.from) in
    ap (λ (at : ℕ). take at c.add_last-end.new.line) end
    ∙ (c.add_last-end.ensures.text
    ∙ (append_assoc (take c.add_twelve-behind.result c.add_twelve-behind.new.line) high low
    ∙ (ap (λ (text : List ℕ). text ++ (high ++ low)) c.add_twelve-behind.ensures.text
    ∙ (append_assoc old (decimal (c.args.n / 100000000)) (high ++ low)
    ∙ ap (λ (text : List ℕ). old ++ text) (sym (decimal_eight c.args.n (omega arith) (omega arith)))))))
