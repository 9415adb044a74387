use Rattle.line_text.proofs.OctetFacts.{hex-eight}
use Rattle.line_text.proofs.octets.eight_digits.Goals as goal

pub returns : goal.returns
returns c =
    rw (c.hex_digit.ensures, c.hex_digit-2.ensures, c.hex_digit-3.ensures, c.hex_digit-4.ensures, c.hex_digit-5.ensures, c.hex_digit-6.ensures, c.hex_digit-7.ensures, c.hex_digit-8.ensures)
    (hex-eight c.args.number)
