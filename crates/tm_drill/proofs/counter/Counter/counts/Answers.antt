use Rattle.std.proofs.Common.{◌∙◌, ap, sym}
use Rattle.tm_drill.specs.Counts.{counts_in, counts_of}
use Rattle.tm_drill.specs.Told.{Told, shown}
use Rattle.tm_drill.proofs.TextFacts.{whole-lines}
use Rattle.tm_drill.proofs.counter.Counter.counts.Goals as goal

pub returns : goal.returns
returns c =
    let kept = c.self.invariant in
    kept.counted ∙ (ap counts_in (sym (whole-lines (shown c.self.inside.lines.items) c.self.inside.line kept.each kept.next)) ∙ ap (λ (told : Told). counts_of told.text) c.self.view_is)
