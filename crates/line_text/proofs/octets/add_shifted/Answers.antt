use Rattle.std.proofs.Common.{◌∙◌, take, arith}
use Rattle.line_text.proofs.OctetFacts.{spelled-more}
use Rattle.line_text.proofs.octets.add_shifted.Goals as goal

pub loop-k-preserved : goal.loop-k-preserved
loop-k-preserved g c = record {
  text = c.add-end.ensures.text ∙ (rw c.loop-k.invariant.text (spelled-more g.S.Spelling.spelled (take c.args.used c.args.line.now) c.args.packet.now c.args.at c.loop-k.k c.field.result c.field.ensures.value));
  room = omega arith;
  kept = c.add-end.ensures.kept ∙ c.loop-k.invariant.kept;
}
