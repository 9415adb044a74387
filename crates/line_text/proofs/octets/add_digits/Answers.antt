use Rattle.std.proofs.Common.{◌++◌, List, ℕ, sym, ap, ◌∙◌, append_assoc, take, arith}
use Rattle.line_text.proofs.OctetFacts.{hex-more}
use Rattle.line_text.proofs.octets.add_digits.Goals as goal

pub loop-i-preserved : goal.loop-i-preserved
loop-i-preserved c = record {
  text = c.add_octet-end.ensures.text ∙ (rw (c.loop-i.invariant.text, c.hex_digit-digit.ensures, append_assoc) (ap (λ (text : List ℕ). take c.args.used c.args.line.now ++ text) (sym (hex-more c.args.number c.loop-i.i c.args.digits c.loop-i-test.true))));
  room = omega arith;
  kept = c.add_octet-end.ensures.kept ∙ c.loop-i.invariant.kept;
}
