use Rattle.std.proofs.Common.{◌≡◌, ◌∙◌, ◌-◌, ◌*◌, ◌/◌, ◌%◌, ◌^◌, ◌<◌, arith}
use Rattle.bit_writer.proofs.PartFacts.{turned-bit}
use Rattle.bit_writer.proofs.write.Write.turned_octet.Goals as goal
use Rattle.bit_writer.proofs.write.Write.turned_octet.Goals.{then-others-eq0, else-others-eq0}

pub returns : goal.returns
returns c i low from =
    let w = c.args.self.now in
    let before : 0 < c.args.octet - w.at / 8 → c.if-others-eq0.before ≡ w.number / 2 ^ (8 * (c.args.octet - w.at / 8 - 1)) % 256 = λ some. elim c.if-others-eq0.branch [
      | then-others-eq0 s ↦ absurd (omega (arith, some, s.if-others-eq0.true))
      | else-others-eq0 s ↦ s.before-is ∙ (s.from-before.ensures ∙ s.octet_of-else-others-eq0.ensures)
    ] in
    turned-bit w.number w.at c.args.octet c.if-others-eq0.before c.from-last.result i c.requires low from (c.from-last.ensures ∙ c.octet_of.ensures) before
