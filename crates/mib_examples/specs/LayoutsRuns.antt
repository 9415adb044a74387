-- Packets of fixed layout: identification, places and raw texts. [This profile.]
use Rattle.std.specs.Prelude.{◌≡◌, [], ◌∷◌, ◌++◌, codes, Ok}
use Rattle.mib_model.specs.declared.kind.Kind.TheVariants as kind
use Rattle.mib_examples.specs.Given.{decoded, given, packet_a, packet_with, shared, table}

-- runs of packets of fixed layout
pub record LayoutsRuns : Type 0 where
  -- one unsigned parameter
  pub one_packet :
      decoded (shared)
      (packet_a ∷ [])
      ≡ Ok (codes "PKT 1 APID 100 COUNT 0 TYPE 3/25 SPID 4001\n" ++
      codes "  T1 2000\n")
  -- a subtype that no row has
  pub unknown :
      decoded (shared)
      ((0x08 ∷ 0x64 ∷ 0xC0 ∷ 0x00 ∷ 0x00 ∷ 0x05 ∷ 0x10 ∷ 0x03 ∷ 0x1A ∷ 0x00 ∷ 0x07 ∷ 0xD0 ∷ []) ∷ [])
      ≡ Ok (codes "PKT 1 APID 100 COUNT 0 TYPE 3/26 UNKNOWN\n")
  -- an idle packet and one of another version are numbered like the others
  pub idle_and_bad :
      decoded (shared)
      ((0x07 ∷ 0xFF ∷ 0xC0 ∷ 0x00 ∷ 0x00 ∷ 0x00 ∷ 0x00 ∷ []) ∷ (0x28 ∷ 0x64 ∷ 0xC0 ∷ 0x01 ∷ 0x00 ∷ 0x00 ∷ 0x00 ∷ []) ∷ packet_a ∷ [])
      ≡ Ok (codes "PKT 1 APID 2047 COUNT 0 IDLE\n" ++
      codes "PKT 2 APID 100 COUNT 1 BAD VERSION\n" ++
      codes "PKT 3 APID 100 COUNT 0 TYPE 3/25 SPID 4001\n" ++
      codes "  T1 2000\n")
  -- the criterion with the APID goes before the one with none, and its discriminant tells two packets apart
  pub discriminants :
      decoded
      (given kind.Pic (table (codes "3|25|9|8|-1|0|\n3|25|10|8|-1|0|100\n"))
      (given kind.Pid (table (codes "3|25|100|0|0|4001\n3|25|100|7|0|4002\n")) shared))
      (packet_a ∷ [])
      ≡ Ok (codes "PKT 1 APID 100 COUNT 0 TYPE 3/25 SPID 4002\n")
  -- a discriminant that passes the end
  pub lacks_discriminant :
      decoded (given kind.Pic (table (codes "3|25|11|16|-1|0|\n")) shared)
      (packet_a ∷ [])
      ≡ Ok (codes "PKT 1 APID 100 COUNT 0 BAD SHORT\n")
  -- a discriminant of 64 bits
  pub wide_discriminant :
      decoded
      (given kind.Pic (table (codes "3|25|10|64|-1|0|\n"))
      (given kind.Pid (table (codes "3|25|100|18446744073709551615|0|4001\n"))
      (given kind.Pcf (table (codes "T1||||3|16||||N|R\n")) shared)))
      ((0x08 ∷ 0x64 ∷ 0xC0 ∷ 0x00 ∷ 0x00 ∷ 0x0B ∷ 0x10 ∷ 0x03 ∷ 0x19 ∷ 0x00 ∷ 0xFF ∷ 0xFF ∷ 0xFF ∷ 0xFF ∷ 0xFF ∷ 0xFF ∷ 0xFF ∷ 0xFF ∷ []) ∷ [])
      ≡ Ok (codes "PKT 1 APID 100 COUNT 0 TYPE 3/25 SPID 4001\n" ++
      codes "  T1 18446744073709551615\n")
  -- two signed values, of 16 and of 4 bits
  pub signed_values :
      decoded (given kind.Plf (table (codes "S1|4001|10|0\nS2|4001|12|0\n")) (given kind.Pcf (table (codes "S1||||4|12||||N|R\nS2||||4|0||||N|R\n")) shared))
      ((0x08 ∷ 0x64 ∷ 0xC0 ∷ 0x00 ∷ 0x00 ∷ 0x06 ∷ 0x10 ∷ 0x03 ∷ 0x19 ∷ 0x00 ∷ 0xFF ∷ 0xFF ∷ 0x80 ∷ []) ∷ [])
      ≡ Ok (codes "PKT 1 APID 100 COUNT 0 TYPE 3/25 SPID 4001\n" ++
      codes "  S1 -1\n" ++
      codes "  S2 -8\n")
  -- three occurrences, 12 bits apart
  pub occurrences :
      decoded (given kind.Plf (table (codes "K|4001|10|0|3|12\n")) (given kind.Pcf (table (codes "K||||3|4||||N|R\n")) shared))
      ((0x08 ∷ 0x64 ∷ 0xC0 ∷ 0x00 ∷ 0x00 ∷ 0x07 ∷ 0x10 ∷ 0x03 ∷ 0x19 ∷ 0x00 ∷ 0x12 ∷ 0x34 ∷ 0x56 ∷ 0x78 ∷ []) ∷ [])
      ≡ Ok (codes "PKT 1 APID 100 COUNT 0 TYPE 3/25 SPID 4001\n" ++
      codes "  K 18\n" ++
      codes "  K 69\n" ++
      codes "  K 120\n")
  -- a real, characters, octets and two times
  pub all_sorts :
      decoded
      (given kind.Plf (table (codes "R1|4001|10|0\nCH|4001|14|0\nOC|4001|17|0\nTD|4001|19|0\nTR|4001|25|0\n"))
      (given kind.Pcf (table (codes "R1||||5|1||||N|R\nCH||||8|3||||N|R\nOC||||7|2||||N|R\nTD||||9|1||||N|R\nTR||||10|4||||N|R\n")) shared))
      ((0x08 ∷ 0x64 ∷ 0xC0 ∷ 0x00 ∷ 0x00 ∷ 0x14 ∷ 0x10 ∷ 0x03 ∷ 0x19 ∷ 0x00 ∷ 0x3F ∷ 0x80 ∷ 0x00 ∷ 0x00 ∷ 0x41 ∷ 0x22 ∷ 0x0A ∷ 0xBE ∷
      0xEF ∷ 0x00 ∷ 0x02 ∷ 0x00 ∷ 0x00 ∷ 0x03 ∷ 0xE8 ∷ 0x05 ∷ 0x80 ∷ []) ∷
      [])
      ≡ Ok (codes "PKT 1 APID 100 COUNT 0 TYPE 3/25 SPID 4001\n" ++
      codes "  R1 REAL:3F800000\n" ++
      codes "  CH \"A\\x22\\x0A\"\n" ++
      codes "  OC HEX:BEEF\n" ++
      codes "  TD TIME:2:1000\n" ++
      codes "  TR TIME:5:128\n")
  -- the octets the other way round
  pub little_unsigned :
      decoded (given kind.Pcf (table (codes "T1||||3|12||||N|R||||||||||||L\n")) shared)
      (packet_a ∷ [])
      ≡ Ok (codes "PKT 1 APID 100 COUNT 0 TYPE 3/25 SPID 4001\n" ++
      codes "  T1 53255\n")
  -- a signed value with its octets the other way round
  pub little_signed :
      decoded (given kind.Pcf (table (codes "T1||||4|12||||N|R||||||||||||L\n")) shared)
      (packet_with 0xFE 0xFF ∷ [])
      ≡ Ok (codes "PKT 1 APID 100 COUNT 0 TYPE 3/25 SPID 4001\n" ++
      codes "  T1 -2\n")
  -- rows as a usual database has them: a name of the packet, a polynomial, two decimals and a check
  pub usual :
      decoded
      (given kind.Ocp (table (codes "NTSA0010|1|S|-10.0|40.0||\n"))
      (given kind.Ocf (table (codes "NTSA0010|2|1|C|R\n"))
      (given kind.Mcf (table (codes "10051|Tank cal|-2.5000000E+01|1.0000000E-02|0.0000000E+00|0.0000000E+00|0.0000000E+00\n"))
      (given kind.Plf (table (codes "NTSA0010|4001|10|0|1|0|0|1\n"))
      (given kind.Tpcf (table (codes "4001|HK_1|64\n"))
      (given kind.Pid (table (codes "3|25|100|0|0|4001|HK Report 1||-1|10|Y|1|Y|0|N|\n"))
      (given kind.Pcf (table (codes "NTSA0010|Tank temp 1|123|degC|3|12|16|||N|R|10051|F||2||PROP|||Y||0|B\n")) shared)))))))
      (packet_a ∷ [])
      ≡ Ok (codes "PKT 1 APID 100 COUNT 0 TYPE 3/25 SPID 4001 NAME \"HK_1\"\n" ++
      codes "  NTSA0010 2000 = -5.00\n")
