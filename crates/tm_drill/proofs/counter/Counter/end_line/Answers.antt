use Rattle.std.proofs.Common.{arith, ap, ◌≡◌, ◌∙◌, ◌++◌, ◌∷◌, []}
use Rattle.std.proofs.lemmas.Grind.{common_steps}
use Rattle.std.proofs.lemmas.List.{length-map}
use Rattle.tm_drill.specs.Counts.{counts_in}
use Rattle.tm_drill.specs.Told.{shown}
use Rattle.tm_drill.proofs.TextFacts.{counts-below, kept-more, shown-more}
use Rattle.tm_drill.proofs.counter.Counter.end_line.Goals as goal

pub add-requires-2 : goal.add-requires-2
add-requires-2 c =
    counts-below 18446744073709551615 (shown c.self.inside.lines.items) c.self.inside.counts c.self.invariant.counted (grind (arith, common_steps, length-map))

pub invariant_of-self-2 : goal.invariant_of-self-2
invariant_of-self-2 c =
    let before = c.self.inside.lines.items in
    let line = c.self.inside.line ++ c.args.part.now in
    let told : c.bytes-2.result.now ≡ line = c.bytes-2.ensures.bytes ∙ c.add.ensures.text in
    let pushed = shown-more before c.push_reserved.new.self.items c.of.result line (c.push_reserved.ensures.items ∙ ap (λ items. items ++ c.of.result ∷ []) c.reserve.ensures.items) (c.of.ensures ∙ c.add.ensures.text) in
    let counted = c.add-2.ensures (shown before) c.self.invariant.counted ∙ ap (λ l. counts_in (shown before ++ l ∷ [])) told in
    rw (pushed, c.clear.ensures) (kept-more c.self.inside.counts c.add-2.new.self (shown before) c.self.inside.line c.args.part.now c.self.inside.handed c.self.invariant c.requires counted)
