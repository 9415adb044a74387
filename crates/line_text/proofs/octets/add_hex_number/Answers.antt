use Rattle.std.proofs.Common.{◌++◌, List, ℕ, sym, ap, append_assoc, take}
use Rattle.line_text.proofs.OctetFacts.{hex-sixteen}
use Rattle.line_text.proofs.octets.add_hex_number.Goals as goal

pub returns-in-16-clause-text : goal.returns-in-16-clause-text
returns-in-16-clause-text c =
    rw (c.add_word-in-16.ensures.text, c.add_word-end.ensures.text, c.eight_digits-in-16.ensures, c.eight_digits-in-16-2.ensures, append_assoc, c.in-16.is)
    (ap (λ (text : List ℕ). take c.args.used c.args.line.now ++ text) (sym (hex-sixteen c.args.number)))
