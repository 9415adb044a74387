-- Curves: what counts at, between and beyond points and texts. [This profile.]
use Rattle.std.specs.Prelude.{◌≡◌, [], ◌∷◌, ◌++◌, codes, Ok}
use Rattle.mib_model.specs.declared.kind.Kind.TheVariants as kind
use Rattle.mib_examples.specs.Given.{decoded, given, packet_with, shared, table}

-- runs whose curves are at, between and beyond their points and texts
pub record CurvesRuns : Type 0 where
  -- at a point the line behind it counts
  pub right_line :
      decoded
      (given kind.Cap (table (codes "C1|0|1E25\nC1|10|0\nC1|20|0\n"))
      (given kind.Caf (table (codes "C1||R|U|D|||F\n"))
      (given kind.Pcf (table (codes "T1||||3|12||||N|R|C1\n")) shared)))
      (packet_with 0x00 0x0A ∷ [])
      ≡ Ok (codes "PKT 1 APID 100 COUNT 0 TYPE 3/25 SPID 4001\n" ++
      codes "  T1 10 = 0\n")
  -- below the least point a curve of INTER `F` gives nothing
  pub below_least :
      decoded
      (given kind.Cap (table (codes "C1|10|2\nC1|20|7\n"))
      (given kind.Caf (table (codes "C1||R|U|D|||F\n"))
      (given kind.Pcf (table (codes "T1||||3|12||||N|R|C1\n")) shared)))
      (packet_with 0x00 0x09 ∷ [])
      ≡ Ok (codes "PKT 1 APID 100 COUNT 0 TYPE 3/25 SPID 4001\n" ++
      codes "  T1 9 ! OUTSIDE\n")
  -- a curve of INTER `P` goes on in its outer lines
  pub outer_lines :
      decoded
      (given kind.Cap (table (codes "C1|20|7\nC1|10|2\nC1|30|8\n"))
      (given kind.Caf (table (codes "C1||R|U|D|||P\n"))
      (given kind.Pcf (table (codes "T1||||3|12||||N|R|C1|||1\n")) shared)))
      (packet_with 0x00 0x09 ∷
      packet_with 0x00 0x1F ∷
      packet_with 0x00 0x14 ∷ [])
      ≡ Ok (codes "PKT 1 APID 100 COUNT 0 TYPE 3/25 SPID 4001\n" ++
      codes "  T1 9 = 1.5\n" ++
      codes "PKT 2 APID 100 COUNT 0 TYPE 3/25 SPID 4001\n" ++
      codes "  T1 31 = 8.1\n" ++
      codes "PKT 3 APID 100 COUNT 0 TYPE 3/25 SPID 4001\n" ++
      codes "  T1 20 = 7.0\n")
  -- a line through points that leaves its bounds
  pub points_over :
      decoded
      (given kind.Cap (table (codes "C1|0|-9E24\nC1|10|9E24\n"))
      (given kind.Caf (table (codes "C1||R|U|D|||F\n"))
      (given kind.Pcf (table (codes "T1||||3|12||||N|R|C1\n")) shared)))
      (packet_with 0x00 0x05 ∷ [])
      ≡ Ok (codes "PKT 1 APID 100 COUNT 0 TYPE 3/25 SPID 4001\n" ++
      codes "  T1 5 ! OVER\n")
  -- points whose numbers are hexadecimal
  pub radix :
      decoded
      (given kind.Cap (table (codes "C1|a|2\nC1|1F|7\n"))
      (given kind.Caf (table (codes "C1||R|U|H|||F\n"))
      (given kind.Pcf (table (codes "T1||||3|12||||N|R|C1\n")) shared)))
      (packet_with 0x00 0x0A ∷ [])
      ≡ Ok (codes "PKT 1 APID 100 COUNT 0 TYPE 3/25 SPID 4001\n" ++
      codes "  T1 10 = 2\n")
  -- coefficients of different scales
  pub scales :
      decoded
      (given kind.Mcf (table (codes "C1||5E-13\n"))
      (given kind.Pcf (table (codes "T1||||3|12||||N|R|C1|||12\n")) shared))
      (packet_with 0x00 0x01 ∷ [])
      ≡ Ok (codes "PKT 1 APID 100 COUNT 0 TYPE 3/25 SPID 4001\n" ++
      codes "  T1 1 = 0.000000000001\n")
  -- category `T` takes no curve
  pub category_t :
      decoded
      (given kind.Mcf (table (codes "C1||1\n"))
      (given kind.Pcf (table (codes "T1||||3|12||||T|R|C1\n")) shared))
      (packet_with 0x00 0x05 ∷ [])
      ≡ Ok (codes "PKT 1 APID 100 COUNT 0 TYPE 3/25 SPID 4001\n" ++
      codes "  T1 5\n")
  -- of two texts that have the number the first counts
  pub first_text :
      decoded
      (given kind.Txp (table (codes "X1|0|9|A\nX1|5|5|B\n"))
      (given kind.Txf (table (codes "X1||U\n"))
      (given kind.Pcf (table (codes "T1||||3|12||||S|R|X1\n")) shared)))
      (packet_with 0x00 0x05 ∷ [])
      ≡ Ok (codes "PKT 1 APID 100 COUNT 0 TYPE 3/25 SPID 4001\n" ++
      codes "  T1 5 = \"A\"\n")
  -- a text from one number to another
  pub text_between :
      decoded
      (given kind.Ocp (table (codes "T1|1|D|-9|9\n"))
      (given kind.Ocf (table (codes "T1|1||C\n"))
      (given kind.Txp (table (codes "X1|0|9999|A\n"))
      (given kind.Txf (table (codes "X1||U\n"))
      (given kind.Cur (table (codes "T1|1|M|1|X1\n"))
      (given kind.Plf (table (codes "T1|4001|10|0\nM|4001|12|0\n"))
      (given kind.Pcf (table (codes "T1||||3|12||||S|R\nM||||3|4||||N|R\n")) shared)))))))
      ((0x08 ∷ 0x64 ∷ 0xC0 ∷ 0x00 ∷ 0x00 ∷ 0x06 ∷ 0x10 ∷ 0x03 ∷ 0x19 ∷ 0x00 ∷ 0x00 ∷ 0x05 ∷ 0x00 ∷ []) ∷
      (0x08 ∷ 0x64 ∷ 0xC0 ∷ 0x00 ∷ 0x00 ∷ 0x06 ∷ 0x10 ∷ 0x03 ∷ 0x19 ∷ 0x00 ∷ 0x00 ∷ 0x50 ∷ 0x01 ∷ []) ∷
      (0x08 ∷ 0x64 ∷ 0xC0 ∷ 0x00 ∷ 0x00 ∷ 0x06 ∷ 0x10 ∷ 0x03 ∷ 0x19 ∷ 0x00 ∷ 0x00 ∷ 0x50 ∷ 0x00 ∷ []) ∷ [])
      ≡ Ok (codes "PKT 1 APID 100 COUNT 0 TYPE 3/25 SPID 4001\n" ++
      codes "  T1 5\n" ++
      codes "  M 0\n" ++
      codes "PKT 2 APID 100 COUNT 0 TYPE 3/25 SPID 4001\n" ++
      codes "  T1 80 = \"A\"\n" ++
      codes "  M 1\n" ++
      codes "PKT 3 APID 100 COUNT 0 TYPE 3/25 SPID 4001\n" ++
      codes "  T1 80\n" ++
      codes "  ALARM T1 DELTA\n" ++
      codes "  M 0\n")
  -- texts over real numbers
  pub real_texts :
      decoded
      (given kind.Txf (table (codes "X1||R\n"))
      (given kind.Pcf (table (codes "T1||||3|12||||S|R|X1\n")) shared))
      (packet_with 0x00 0x05 ∷ [])
      ≡ Ok (codes "PKT 1 APID 100 COUNT 0 TYPE 3/25 SPID 4001\n" ++
      codes "  T1 5 ! REALCURVE\n")
