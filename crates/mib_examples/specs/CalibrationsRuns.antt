-- Calibrated values. [This profile.]
use Rattle.std.specs.Prelude.{◌≡◌, [], ◌∷◌, ◌++◌, codes, Ok}
use Rattle.mib_model.specs.declared.kind.Kind.TheVariants as kind
use Rattle.mib_examples.specs.Given.{decoded, given, packet_a, packet_with, shared, table}

-- runs whose values are calibrated
pub record CalibrationsRuns : Type 0 where
  -- between two points
  pub between_points :
      decoded
      (given kind.Cap (table (codes "C1|0|-50\nC1|4000|150\n"))
      (given kind.Caf (table (codes "C1||R|U|D|||F\n"))
      (given kind.Pcf (table (codes "T1||||3|12||||N|R|C1\n")) shared)))
      (packet_a ∷ [])
      ≡ Ok (codes "PKT 1 APID 100 COUNT 0 TYPE 3/25 SPID 4001\n" ++
      codes "  T1 2000 = 50\n")
  -- above the last point
  pub beyond_points :
      decoded
      (given kind.Cap (table (codes "C1|0|-50\nC1|4000|150\n"))
      (given kind.Caf (table (codes "C1||R|U|D|||F\n"))
      (given kind.Pcf (table (codes "T1||||3|12||||N|R|C1\n")) shared)))
      (packet_with 0x0F 0xA1 ∷ [])
      ≡ Ok (codes "PKT 1 APID 100 COUNT 0 TYPE 3/25 SPID 4001\n" ++
      codes "  T1 4001 ! OUTSIDE\n")
  -- a third, with two decimals
  pub rounded :
      decoded
      (given kind.Cap (table (codes "C1|0|0\nC1|3|1\n"))
      (given kind.Caf (table (codes "C1||R|U|D|||F\n"))
      (given kind.Pcf (table (codes "T1||||3|12||||N|R|C1|||2\n")) shared)))
      (packet_with 0x00 0x01 ∷ [])
      ≡ Ok (codes "PKT 1 APID 100 COUNT 0 TYPE 3/25 SPID 4001\n" ++
      codes "  T1 1 = 0.33\n")
  -- a polynomial at one scale
  pub polynomial :
      decoded (given kind.Mcf (table (codes "M1||1.5|0.25|1E-3\n")) (given kind.Pcf (table (codes "T1||||3|12||||N|R|M1|||1\n")) shared))
      (packet_with 0x00 0x0A ∷ [])
      ≡ Ok (codes "PKT 1 APID 100 COUNT 0 TYPE 3/25 SPID 4001\n" ++
      codes "  T1 10 = 4.1\n")
  -- a polynomial that leaves its bounds
  pub too_large :
      decoded (given kind.Mcf (table (codes "M1||0|1E30\n")) (given kind.Pcf (table (codes "T1||||3|16||||N|R|M1\n")) shared))
      ((0x08 ∷ 0x64 ∷ 0xC0 ∷ 0x00 ∷ 0x00 ∷ 0x0B ∷ 0x10 ∷ 0x03 ∷ 0x19 ∷ 0x00 ∷ 0xFF ∷ 0xFF ∷ 0xFF ∷ 0xFF ∷ 0xFF ∷ 0xFF ∷ 0xFF ∷ 0xFF ∷ []) ∷ [])
      ≡ Ok (codes "PKT 1 APID 100 COUNT 0 TYPE 3/25 SPID 4001\n" ++
      codes "  T1 18446744073709551615 ! OVER\n")
  -- half of a count of 10^-12
  pub rounded_up :
      decoded
      (given kind.Cap (table (codes "C1|0|0\nC1|2|1E-12\n"))
      (given kind.Caf (table (codes "C1||R|U|D|||F\n"))
      (given kind.Pcf (table (codes "T1||||3|12||||N|R|C1|||12\n")) shared)))
      (packet_with 0x00 0x01 ∷ [])
      ≡ Ok (codes "PKT 1 APID 100 COUNT 0 TYPE 3/25 SPID 4001\n" ++
      codes "  T1 1 = 0.000000000001\n")
  -- half of a count below zero goes away from zero
  pub rounded_down :
      decoded
      (given kind.Cap (table (codes "C1|0|0\nC1|2|-1E-12\n"))
      (given kind.Caf (table (codes "C1||R|U|D|||F\n"))
      (given kind.Pcf (table (codes "T1||||3|12||||N|R|C1|||12\n")) shared)))
      (packet_with 0x00 0x01 ∷ [])
      ≡ Ok (codes "PKT 1 APID 100 COUNT 0 TYPE 3/25 SPID 4001\n" ++
      codes "  T1 1 = -0.000000000001\n")
  -- the first text whose range has the number
  pub status_text :
      decoded
      (given kind.Txp (table (codes "X1|0|1999|LOW\nX1|2000|2000|EXACT\n"))
      (given kind.Txf (table (codes "X1||U\n"))
      (given kind.Pcf (table (codes "T1||||3|12||||S|R|X1\n")) shared)))
      (packet_a ∷ [])
      ≡ Ok (codes "PKT 1 APID 100 COUNT 0 TYPE 3/25 SPID 4001\n" ++
      codes "  T1 2000 = \"EXACT\"\n")
  -- no text has it
  pub no_text :
      decoded
      (given kind.Txp (table (codes "X1|0|1999|LOW\nX1|2000|2000|EXACT\n"))
      (given kind.Txf (table (codes "X1||U\n"))
      (given kind.Pcf (table (codes "T1||||3|12||||S|R|X1\n")) shared)))
      (packet_with 0x07 0xD1 ∷ [])
      ≡ Ok (codes "PKT 1 APID 100 COUNT 0 TYPE 3/25 SPID 4001\n" ++
      codes "  T1 2001 ! NOTEXT\n")
  -- a logarithmic curve
  pub logarithm :
      decoded (given kind.Lgf (table (codes "L1\n")) (given kind.Pcf (table (codes "T1||||3|12||||N|R|L1\n")) shared))
      (packet_a ∷ [])
      ≡ Ok (codes "PKT 1 APID 100 COUNT 0 TYPE 3/25 SPID 4001\n" ++
      codes "  T1 2000 ! LOGCURVE\n")
  -- a curve over real numbers
  pub real_curve :
      decoded (given kind.Caf (table (codes "L1||R|R\n")) (given kind.Pcf (table (codes "T1||||3|12||||N|R|L1\n")) shared))
      (packet_a ∷ [])
      ≡ Ok (codes "PKT 1 APID 100 COUNT 0 TYPE 3/25 SPID 4001\n" ++
      codes "  T1 2000 ! REALCURVE\n")
  -- a curve chosen by the latest value of another parameter
  pub selected :
      decoded
      (given kind.Mcf (table (codes "CA||0|2\nCB||0|3\n"))
      (given kind.Cur (table (codes "T1|1|M|1|CA\nT1|2|M|2|CB\n"))
      (given kind.Plf (table (codes "T1|4001|10|0\nM|4001|12|0\n"))
      (given kind.Pcf (table (codes "T1||||3|12||||N|R\nM||||3|4||||N|R\n")) shared))))
      ((0x08 ∷ 0x64 ∷ 0xC0 ∷ 0x00 ∷ 0x00 ∷ 0x06 ∷ 0x10 ∷ 0x03 ∷ 0x19 ∷ 0x00 ∷ 0x07 ∷ 0xD0 ∷ 0x01 ∷ []) ∷
      (0x08 ∷ 0x64 ∷ 0xC0 ∷ 0x00 ∷ 0x00 ∷ 0x06 ∷ 0x10 ∷ 0x03 ∷ 0x19 ∷ 0x00 ∷ 0x07 ∷ 0xD0 ∷ 0x02 ∷ []) ∷
      (0x08 ∷ 0x64 ∷ 0xC0 ∷ 0x00 ∷ 0x00 ∷ 0x06 ∷ 0x10 ∷ 0x03 ∷ 0x19 ∷ 0x00 ∷ 0x07 ∷ 0xD0 ∷ 0x03 ∷ []) ∷ [])
      ≡ Ok (codes "PKT 1 APID 100 COUNT 0 TYPE 3/25 SPID 4001\n" ++
      codes "  T1 2000 = 4000\n" ++
      codes "  M 1\n" ++
      codes "PKT 2 APID 100 COUNT 0 TYPE 3/25 SPID 4001\n" ++
      codes "  T1 2000 = 6000\n" ++
      codes "  M 2\n" ++
      codes "PKT 3 APID 100 COUNT 0 TYPE 3/25 SPID 4001\n" ++
      codes "  T1 2000\n" ++
      codes "  M 3\n")
