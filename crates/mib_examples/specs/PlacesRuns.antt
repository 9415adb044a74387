-- Places: identification, occurrences, structures and sorts. [This profile.]
use Rattle.std.specs.Prelude.{◌≡◌, [], ◌∷◌, ◌++◌, codes, Ok}
use Rattle.mib_model.specs.declared.kind.Kind.TheVariants as kind
use Rattle.mib_examples.specs.Given.{decoded, given, packet_with, shared, table}

-- runs by the place and the sort of values
pub record PlacesRuns : Type 0 where
  -- criteria and discriminants
  pub identified :
      decoded
      (given kind.Plf []
      (given kind.Pic (table (codes "3|25|10|8|11|8|\n0|0|-1|0|-1|0|\n"))
      (given kind.Pid (table (codes "3|25|100|1|2|4001\n0|0|100|||4002\n3|25|100|1|0|4003\n")) shared)))
      (packet_with 0x01 0x02 ∷
      (0x18 ∷ 0x64 ∷ 0xC0 ∷ 0x00 ∷ 0x00 ∷ 0x05 ∷ 0x10 ∷ 0x03 ∷ 0x19 ∷ 0x00 ∷ 0x01 ∷ 0x02 ∷ []) ∷
      (0x08 ∷ 0x64 ∷ 0xC0 ∷ 0x00 ∷ 0x00 ∷ 0x01 ∷ 0x10 ∷ 0x03 ∷ []) ∷
      (0x00 ∷ 0x64 ∷ 0xC0 ∷ 0x00 ∷ 0x00 ∷ 0x00 ∷ 0x07 ∷ []) ∷
      (0x00 ∷ 0x64 ∷ 0xC0 ∷ 0x00 ∷ 0x00 ∷ 0x02 ∷ 0x10 ∷ 0x03 ∷ 0x19 ∷ []) ∷ [])
      ≡ Ok (codes "PKT 1 APID 100 COUNT 0 TYPE 3/25 SPID 4001\n" ++
      codes "PKT 2 APID 100 COUNT 0 BAD TELECOMMAND\n" ++
      codes "PKT 3 APID 100 COUNT 0 BAD SHORT\n" ++
      codes "PKT 4 APID 100 COUNT 0 TYPE 0/0 SPID 4002\n" ++
      codes "PKT 5 APID 100 COUNT 0 TYPE 0/0 SPID 4002\n")
  -- the latest number is that of the last occurrence
  pub last_occurrence :
      decoded
      (given kind.Plf (table (codes "T1|4001|10|0|2|8\n"))
      (given kind.Pcf (table (codes "T1||||3|4||T1||N|R|||||||2\n")) shared))
      (packet_with 0x01 0x02 ∷ [])
      ≡ Ok (codes "PKT 1 APID 100 COUNT 0 TYPE 3/25 SPID 4001\n" ++
      codes "  T1 1\n" ++
      codes "  T1 2\n")
  -- an OFFSET that leads before the packet
  pub before_bit_0 :
      decoded
      (given kind.Vpd (table (codes "10|1|C|||||||||||-88\n"))
      (given kind.Plf []
      (given kind.Pid (table (codes "3|25|100|||4001|||10|4\n"))
      (given kind.Pcf (table (codes "C||||3|4||||N|R\nV||||3|4|16|||N|R\nS||||4|4||||N|R\nX||||11|0||||N|R\nD||0||3|4||||N|R\n")) shared))))
      ((0x08 ∷ 0x64 ∷ 0xC0 ∷ 0x00 ∷ 0x00 ∷ 0x04 ∷ 0x10 ∷ 0x03 ∷ 0x19 ∷ 0x00 ∷ 0x0B ∷ []) ∷ [])
      ≡ Ok (codes "PKT 1 APID 100 COUNT 0 TYPE 3/25 SPID 4001\n" ++
      codes "  SHORT C\n")
  -- a choice leaves the rows behind it
  pub choice :
      decoded
      (given kind.Vpd (table (codes "10|1|C|||Y\n10|2|V\n11|1|V\n"))
      (given kind.Plf []
      (given kind.Pid (table (codes "3|25|100|||4001|||10|4\n"))
      (given kind.Pcf (table (codes "C||||3|4||||N|R\nV||||3|4|16|||N|R\nS||||4|4||||N|R\nX||||11|0||||N|R\nD||0||3|4||||N|R\n")) shared))))
      ((0x08 ∷ 0x64 ∷ 0xC0 ∷ 0x00 ∷ 0x00 ∷ 0x06 ∷ 0x10 ∷ 0x03 ∷ 0x19 ∷ 0x00 ∷ 0x0B ∷ 0x05 ∷ 0x07 ∷ []) ∷ [])
      ≡ Ok (codes "PKT 1 APID 100 COUNT 0 TYPE 3/25 SPID 4001\n" ++
      codes "  C 11\n" ++
      codes "  V 5\n")
  -- offsets, widths and a deduced parameter
  pub offsets :
      decoded
      (given kind.Vpd (table (codes "10|1|C|||Y\n10|2|V\n11|5|V\n11|2|X\n11|4|S|1\n11|6|V|||||||||||8\n11|7|V\n"))
      (given kind.Plf []
      (given kind.Pid (table (codes "3|25|100|||4001|||10|4\n"))
      (given kind.Pcf (table (codes "C||||3|4||||N|R\nV||||3|4|16|||N|R\nS||||4|4||||N|R\nX||||11|0||||N|R\nD||0||3|4||||N|R\n")) shared))))
      ((0x08 ∷ 0x64 ∷ 0xC0 ∷ 0x00 ∷ 0x00 ∷ 0x09 ∷ 0x10 ∷ 0x03 ∷ 0x19 ∷ 0x00 ∷ 0x0B ∷ 0x07 ∷ 0xFF ∷ 0xEE ∷ 0x05 ∷ 0xEE ∷ []) ∷ [])
      ≡ Ok (codes "PKT 1 APID 100 COUNT 0 TYPE 3/25 SPID 4001\n" ++
      codes "  C 11\n" ++
      codes "  D 7\n" ++
      codes "  S -1\n" ++
      codes "  V 5\n" ++
      codes "  SHORT V\n")
  -- values of each sort
  pub sorts :
      decoded
      (given kind.Plf (table (codes "H1|4001|10|0\nTC|4001|10|0\nTN|4001|10|0\nRL|4001|10|0\nCH|4001|11|0\n" ++
      codes "B1|4001|11|1\nB5|4001|11|0\nB6|4001|10|7\nR6|4001|10|4\n"))
      (given kind.Tpcf (table (codes "4001|\n"))
      (given kind.Pcf (table (codes "H1||||3|4||||N|H\nTC||||9|2||||N|R\nTN||||10|3||||N|R\nRL||||5|1||||N|R||||||||||||L\n" ++
      codes "CH||||8|1||||N|R\nB1||||1|0||||N|R\nB5||||2|5||||N|R\nB6||||6|10||||N|R\nR6||||5|4||||N|R\n")) shared)))
      ((0x08 ∷ 0x64 ∷ 0xC0 ∷ 0x00 ∷ 0x00 ∷ 0x0B ∷ 0x10 ∷ 0x03 ∷ 0x19 ∷ 0x00 ∷ 0x01 ∷ 0x5C ∷ 0x03 ∷ 0x04 ∷ 0x05 ∷ 0x06 ∷ 0x07 ∷ 0x08 ∷ []) ∷ [])
      ≡ Ok (codes "PKT 1 APID 100 COUNT 0 TYPE 3/25 SPID 4001\n" ++
      codes "  TC TIME:348:50595078:1800\n" ++
      codes "  TN TIME:1\n" ++
      codes "  RL REAL:04035C01\n" ++
      codes "  CH \"\\x5C\"\n" ++
      codes "  B1 1\n" ++
      codes "  B5 11\n" ++
      codes "  B6 696\n" ++
      codes "  R6 REAL:15C030405060\n")
