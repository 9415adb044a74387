use Rattle.std.proofs.Common.{◌∙◌, ◌/◌, ◌%◌, ◌^◌, ◌-◌, ℕ, cond, max, ap, arith}
use Rattle.std.specs.Prelude.{◌==◌}
use Rattle.mib_model.specs.Bits.{bit}
use Rattle.bit_writer.proofs.SetFacts.{one-octet-more}
use Rattle.bit_writer.proofs.set.mark_each.Goals as goal

pub loop-octet-preserved : goal.loop-octet-preserved
loop-octet-preserved c =
    let w = c.args.write.now in
    let o : ℕ = c.loop-octet.octet in (
      (λ j. c.add_ones.ensures j
          ∙ (ap (λ (x : ℕ). cond (j / 8 == o) (max x (c.part-part.result.ones / 2 ^ (7 - j % 8) % 2)) x) (c.loop-octet.invariant.0 j)
          ∙ one-octet-more 1 j (bit c.args.ones.now j) w o c.part-part.result.ones (omega arith) c.part-part.ensures.ones)),
      (λ j. c.add_ones-in-loop-octet.ensures j
          ∙ (ap (λ (x : ℕ). cond (j / 8 == o) (max x (c.part-part.result.zeros / 2 ^ (7 - j % 8) % 2)) x) (c.loop-octet.invariant.1 j)
          ∙ one-octet-more 0 j (bit c.args.zeros.now j) w o c.part-part.result.zeros (omega arith) c.part-part.ensures.zeros)),
    )
