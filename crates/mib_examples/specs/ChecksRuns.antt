-- Validity, limits and what is told. [This profile.]
use Rattle.std.specs.Prelude.{◌≡◌, [], ◌∷◌, ◌++◌, codes, Ok}
use Rattle.mib_model.specs.declared.kind.Kind.TheVariants as kind
use Rattle.mib_examples.specs.Given.{decoded, given, packet_a, packet_with, shared, table}

-- runs whose values are checked
pub record ChecksRuns : Type 0 where
  -- a parameter that is valid while another is 1: the whole packet is entered first, and what was kept stays
  pub validity :
      decoded (given kind.Plf (table (codes "T1|4001|10|0\nM|4001|12|0\n")) (given kind.Pcf (table (codes "T1||||3|12||M||N|R\nM||||3|4||||N|R\n")) shared))
      ((0x08 ∷ 0x64 ∷ 0xC0 ∷ 0x00 ∷ 0x00 ∷ 0x06 ∷ 0x10 ∷ 0x03 ∷ 0x19 ∷ 0x00 ∷ 0x07 ∷ 0xD0 ∷ 0x01 ∷ []) ∷
      (0x08 ∷ 0x64 ∷ 0xC0 ∷ 0x00 ∷ 0x00 ∷ 0x06 ∷ 0x10 ∷ 0x03 ∷ 0x19 ∷ 0x00 ∷ 0x07 ∷ 0xD0 ∷ 0x00 ∷ []) ∷
      packet_a ∷ [])
      ≡ Ok (codes "PKT 1 APID 100 COUNT 0 TYPE 3/25 SPID 4001\n" ++
      codes "  T1 2000\n" ++
      codes "  M 1\n" ++
      codes "PKT 2 APID 100 COUNT 0 TYPE 3/25 SPID 4001\n" ++
      codes "  T1 2000 ? INVALID\n" ++
      codes "  M 0\n" ++
      codes "PKT 3 APID 100 COUNT 0 TYPE 3/25 SPID 4001\n" ++
      codes "  T1 2000 ? INVALID\n" ++
      codes "  SHORT M\n")
  -- an alarm after three samples in a row, and its end
  pub repeats :
      decoded (given kind.Ocp (table (codes "T1|1|S|0|1000\n")) (given kind.Ocf (table (codes "T1|3||U\n")) shared))
      (packet_a ∷ packet_a ∷ packet_with 0x01 0xF4 ∷ packet_a ∷ packet_a ∷ packet_a ∷ packet_with 0x01 0xF4 ∷ [])
      ≡ Ok (codes "PKT 1 APID 100 COUNT 0 TYPE 3/25 SPID 4001\n" ++
      codes "  T1 2000\n" ++
      codes "PKT 2 APID 100 COUNT 0 TYPE 3/25 SPID 4001\n" ++
      codes "  T1 2000\n" ++
      codes "PKT 3 APID 100 COUNT 0 TYPE 3/25 SPID 4001\n" ++
      codes "  T1 500\n" ++
      codes "PKT 4 APID 100 COUNT 0 TYPE 3/25 SPID 4001\n" ++
      codes "  T1 2000\n" ++
      codes "PKT 5 APID 100 COUNT 0 TYPE 3/25 SPID 4001\n" ++
      codes "  T1 2000\n" ++
      codes "PKT 6 APID 100 COUNT 0 TYPE 3/25 SPID 4001\n" ++
      codes "  T1 2000\n" ++
      codes "  ALARM T1 SOFT\n" ++
      codes "PKT 7 APID 100 COUNT 0 TYPE 3/25 SPID 4001\n" ++
      codes "  T1 500\n" ++
      codes "  CLEAR T1 SOFT\n")
  -- a status text that isn't the expected one
  pub states :
      decoded
      (given kind.Ocp (table (codes "T1|1|C|EXACT\n"))
      (given kind.Ocf (table (codes "T1|1||C\n"))
      (given kind.Txp (table (codes "X1|0|1999|LOW\nX1|2000|2000|EXACT\n"))
      (given kind.Txf (table (codes "X1||U\n"))
      (given kind.Pcf (table (codes "T1||||3|12||||S|R|X1\n")) shared)))))
      (packet_with 0x00 0x05 ∷ packet_a ∷ [])
      ≡ Ok (codes "PKT 1 APID 100 COUNT 0 TYPE 3/25 SPID 4001\n" ++
      codes "  T1 5 = \"LOW\"\n" ++
      codes "  ALARM T1 STATUS\n" ++
      codes "PKT 2 APID 100 COUNT 0 TYPE 3/25 SPID 4001\n" ++
      codes "  T1 2000 = \"EXACT\"\n" ++
      codes "  CLEAR T1 STATUS\n")
  -- a step from the last sample that is too wide
  pub deltas :
      decoded (given kind.Ocp (table (codes "T1|1|D|-100|100\n")) (given kind.Ocf (table (codes "T1|1||U\n")) shared))
      (packet_a ∷ packet_with 0x08 0x02 ∷ packet_with 0x08 0x67 ∷ packet_with 0x08 0x67 ∷ [])
      ≡ Ok (codes "PKT 1 APID 100 COUNT 0 TYPE 3/25 SPID 4001\n" ++
      codes "  T1 2000\n" ++
      codes "PKT 2 APID 100 COUNT 0 TYPE 3/25 SPID 4001\n" ++
      codes "  T1 2050\n" ++
      codes "PKT 3 APID 100 COUNT 0 TYPE 3/25 SPID 4001\n" ++
      codes "  T1 2151\n" ++
      codes "  ALARM T1 DELTA\n" ++
      codes "PKT 4 APID 100 COUNT 0 TYPE 3/25 SPID 4001\n" ++
      codes "  T1 2151\n" ++
      codes "  CLEAR T1 DELTA\n")
