-- Conditions and limits: which selection and which checks count, and what is checked. [This profile.]
use Rattle.std.specs.Prelude.{◌≡◌, [], ◌∷◌, ◌++◌, codes, Ok}
use Rattle.mib_model.specs.declared.kind.Kind.TheVariants as kind
use Rattle.mib_examples.specs.Given.{decoded, given, packet_with, shared, table}

-- runs with conditions and checks
pub record LimitsRuns : Type 0 where
  -- the selection with the lowest POS whose condition holds
  pub selection :
      decoded
      (given kind.Mcf (table (codes "CA||1\nCB||2\n"))
      (given kind.Cur (table (codes "T1|2|T1|5|CA\nT1|1|T1|5|CB\n")) shared))
      (packet_with 0x00 0x05 ∷ [])
      ≡ Ok (codes "PKT 1 APID 100 COUNT 0 TYPE 3/25 SPID 4001\n" ++
      codes "  T1 5 = 2\n")
  -- the classes in their order
  pub classes :
      decoded
      (given kind.Ocp (table (codes "T1|1|S|10|20\nT1|2|H|5|\nT1|3|C|15.0||M|1\nT1|4|D|-100|100\n"))
      (given kind.Ocf (table (codes "T1|1||U\n"))
      (given kind.Plf (table (codes "T1|4001|10|0\nM|4001|12|0\n"))
      (given kind.Pcf (table (codes "T1||||3|12||||N|R\nM||||3|4||||N|R\n")) shared))))
      ((0x08 ∷ 0x64 ∷ 0xC0 ∷ 0x00 ∷ 0x00 ∷ 0x06 ∷ 0x10 ∷ 0x03 ∷ 0x19 ∷ 0x00 ∷ 0x00 ∷ 0x0F ∷ 0x00 ∷ []) ∷
      (0x08 ∷ 0x64 ∷ 0xC0 ∷ 0x00 ∷ 0x00 ∷ 0x06 ∷ 0x10 ∷ 0x03 ∷ 0x19 ∷ 0x00 ∷ 0x00 ∷ 0x09 ∷ 0x00 ∷ []) ∷
      (0x08 ∷ 0x64 ∷ 0xC0 ∷ 0x00 ∷ 0x00 ∷ 0x06 ∷ 0x10 ∷ 0x03 ∷ 0x19 ∷ 0x00 ∷ 0x00 ∷ 0x08 ∷ 0x00 ∷ []) ∷
      (0x08 ∷ 0x64 ∷ 0xC0 ∷ 0x00 ∷ 0x00 ∷ 0x06 ∷ 0x10 ∷ 0x03 ∷ 0x19 ∷ 0x00 ∷ 0x00 ∷ 0x04 ∷ 0x00 ∷ []) ∷
      (0x08 ∷ 0x64 ∷ 0xC0 ∷ 0x00 ∷ 0x00 ∷ 0x06 ∷ 0x10 ∷ 0x03 ∷ 0x19 ∷ 0x00 ∷ 0x00 ∷ 0x0F ∷ 0x01 ∷ []) ∷
      (0x08 ∷ 0x64 ∷ 0xC0 ∷ 0x00 ∷ 0x00 ∷ 0x06 ∷ 0x10 ∷ 0x03 ∷ 0x19 ∷ 0x00 ∷ 0x00 ∷ 0x10 ∷ 0x01 ∷ []) ∷
      (0x08 ∷ 0x64 ∷ 0xC0 ∷ 0x00 ∷ 0x00 ∷ 0x06 ∷ 0x10 ∷ 0x03 ∷ 0x19 ∷ 0x00 ∷ 0x00 ∷ 0x0F ∷ 0x00 ∷ []) ∷
      (0x08 ∷ 0x64 ∷ 0xC0 ∷ 0x00 ∷ 0x00 ∷ 0x06 ∷ 0x10 ∷ 0x03 ∷ 0x19 ∷ 0x00 ∷ 0x00 ∷ 0xFF ∷ 0x00 ∷ []) ∷ [])
      ≡ Ok (codes "PKT 1 APID 100 COUNT 0 TYPE 3/25 SPID 4001\n" ++
      codes "  T1 15\n" ++
      codes "  M 0\n" ++
      codes "PKT 2 APID 100 COUNT 0 TYPE 3/25 SPID 4001\n" ++
      codes "  T1 9\n" ++
      codes "  ALARM T1 SOFT\n" ++
      codes "  M 0\n" ++
      codes "PKT 3 APID 100 COUNT 0 TYPE 3/25 SPID 4001\n" ++
      codes "  T1 8\n" ++
      codes "  M 0\n" ++
      codes "PKT 4 APID 100 COUNT 0 TYPE 3/25 SPID 4001\n" ++
      codes "  T1 4\n" ++
      codes "  ALARM T1 HARD\n" ++
      codes "  M 0\n" ++
      codes "PKT 5 APID 100 COUNT 0 TYPE 3/25 SPID 4001\n" ++
      codes "  T1 15\n" ++
      codes "  CLEAR T1 HARD\n" ++
      codes "  M 1\n" ++
      codes "PKT 6 APID 100 COUNT 0 TYPE 3/25 SPID 4001\n" ++
      codes "  T1 16\n" ++
      codes "  ALARM T1 STATUS\n" ++
      codes "  M 1\n" ++
      codes "PKT 7 APID 100 COUNT 0 TYPE 3/25 SPID 4001\n" ++
      codes "  T1 15\n" ++
      codes "  CLEAR T1 STATUS\n" ++
      codes "  M 0\n" ++
      codes "PKT 8 APID 100 COUNT 0 TYPE 3/25 SPID 4001\n" ++
      codes "  T1 255\n" ++
      codes "  ALARM T1 DELTA\n" ++
      codes "  M 0\n")
  -- INTER `C` checks the calibrated number, and nothing where there is none
  pub calibrated :
      decoded
      (given kind.Ocp (table (codes "T1|1|H|0|1\n"))
      (given kind.Ocf (table (codes "T1|1||C\n"))
      (given kind.Cap (table (codes "C1|0|0\nC1|10|100\n"))
      (given kind.Caf (table (codes "C1||R|U|D|||F\n"))
      (given kind.Pcf (table (codes "T1||||3|12||||N|R|C1\n")) shared)))))
      (packet_with 0x00 0x0B ∷
      packet_with 0x00 0x05 ∷
      packet_with 0x00 0x00 ∷ [])
      ≡ Ok (codes "PKT 1 APID 100 COUNT 0 TYPE 3/25 SPID 4001\n" ++
      codes "  T1 11 ! OUTSIDE\n" ++
      codes "PKT 2 APID 100 COUNT 0 TYPE 3/25 SPID 4001\n" ++
      codes "  T1 5 = 50\n" ++
      codes "  ALARM T1 HARD\n" ++
      codes "PKT 3 APID 100 COUNT 0 TYPE 3/25 SPID 4001\n" ++
      codes "  T1 0 = 0\n" ++
      codes "  CLEAR T1 HARD\n")
  -- INTER `U` checks the raw number
  pub raw :
      decoded
      (given kind.Ocp (table (codes "T1|1|H|0|7\n"))
      (given kind.Ocf (table (codes "T1|1||U\n"))
      (given kind.Cap (table (codes "C1|0|0\nC1|10|100\n"))
      (given kind.Caf (table (codes "C1||R|U|D|||F\n"))
      (given kind.Pcf (table (codes "T1||||3|12||||N|R|C1\n")) shared)))))
      (packet_with 0x00 0x05 ∷ [])
      ≡ Ok (codes "PKT 1 APID 100 COUNT 0 TYPE 3/25 SPID 4001\n" ++
      codes "  T1 5 = 50\n")
  -- an invalid value is entered and not checked
  pub invalid :
      decoded
      (given kind.Ocp (table (codes "T1|1|H|0|7\n"))
      (given kind.Ocf (table (codes "T1|1||U\n"))
      (given kind.Plf (table (codes "T1|4001|10|0\nM|4001|12|0\n"))
      (given kind.Pcf (table (codes "T1||||3|12||M||N|R\nM||||3|4||T1||N|R|||||||2000\n")) shared))))
      ((0x08 ∷ 0x64 ∷ 0xC0 ∷ 0x00 ∷ 0x00 ∷ 0x06 ∷ 0x10 ∷ 0x03 ∷ 0x19 ∷ 0x00 ∷ 0x07 ∷ 0xD0 ∷ 0x00 ∷ []) ∷ [])
      ≡ Ok (codes "PKT 1 APID 100 COUNT 0 TYPE 3/25 SPID 4001\n" ++
      codes "  T1 2000 ? INVALID\n" ++
      codes "  M 0\n")
