-- Packets of variable structure. [This profile.]
use Rattle.std.specs.Prelude.{◌≡◌, [], ◌∷◌, ◌++◌, codes, Ok}
use Rattle.mib_model.specs.declared.kind.Kind.TheVariants as kind
use Rattle.mib_examples.specs.Given.{decoded, given, shared, table}

-- runs of packets of variable structure
pub record StructuresRuns : Type 0 where
  -- a group that is walked no time
  pub no_repetition :
      decoded
      (given kind.Vpd (table (codes "10|1|N|2\n10|2|N|1|3\n10|3|V\n"))
      (given kind.Plf ([])
      (given kind.Pid (table (codes "3|25|100|||4001|||10|4\n"))
      (given kind.Pcf (table (codes "N||||3|4||||N|R\nV||||3|4||||N|R\nC||||3|4||||N|R\n")) shared))))
      ((0x08 ∷ 0x64 ∷ 0xC0 ∷ 0x00 ∷ 0x00 ∷ 0x04 ∷ 0x10 ∷ 0x03 ∷ 0x19 ∷ 0x00 ∷ 0x00 ∷ []) ∷ [])
      ≡ Ok (codes "PKT 1 APID 100 COUNT 0 TYPE 3/25 SPID 4001\n" ++
      codes "  N 0\n")
  -- a counted group of two rows, the second of which is repeated three times
  pub nested_groups :
      decoded
      (given kind.Vpd (table (codes "10|1|N|2\n10|2|N|1|3\n10|3|V\n"))
      (given kind.Plf ([])
      (given kind.Pid (table (codes "3|25|100|||4001|||10|4\n"))
      (given kind.Pcf (table (codes "N||||3|4||||N|R\nV||||3|4||||N|R\nC||||3|4||||N|R\n")) shared))))
      ((0x08 ∷ 0x64 ∷ 0xC0 ∷ 0x00 ∷ 0x00 ∷ 0x0A ∷ 0x10 ∷ 0x03 ∷ 0x19 ∷ 0x00 ∷ 0x02 ∷ 0x01 ∷ 0x02 ∷ 0x03 ∷ 0x04 ∷ 0x05 ∷ 0x06 ∷ []) ∷ [])
      ≡ Ok (codes "PKT 1 APID 100 COUNT 0 TYPE 3/25 SPID 4001\n" ++
      codes "  N 2\n" ++
      codes "  V 1\n" ++
      codes "  V 2\n" ++
      codes "  V 3\n" ++
      codes "  V 4\n" ++
      codes "  V 5\n" ++
      codes "  V 6\n")
  -- a choice of a structure that isn't there
  pub missing_structure :
      decoded
      (given kind.Vpd (table (codes "10|1|C|||Y\n"))
      (given kind.Plf ([])
      (given kind.Pid (table (codes "3|25|100|||4001|||10|4\n"))
      (given kind.Pcf (table (codes "N||||3|4||||N|R\nV||||3|4||||N|R\nC||||3|4||||N|R\n")) shared))))
      ((0x08 ∷ 0x64 ∷ 0xC0 ∷ 0x00 ∷ 0x00 ∷ 0x04 ∷ 0x10 ∷ 0x03 ∷ 0x19 ∷ 0x00 ∷ 0x63 ∷ []) ∷ [])
      ≡ Ok (codes "PKT 1 APID 100 COUNT 0 TYPE 3/25 SPID 4001\n" ++
      codes "  C 99\n" ++
      codes "  NOSTRUCTURE 99\n")
  -- the packet names the parameter of the next value
  pub deduced :
      decoded
      (given kind.Vpd (table (codes "10|1|P|0|0|N|Y\n10|2|X\n"))
      (given kind.Plf ([])
      (given kind.Pid (table (codes "3|25|100|||4001|||10|4\n"))
      (given kind.Pcf (table (codes "P||||3|4||||N|R\nX||||11|0||||N|R\nV||7||3|12||||N|R\n")) shared))))
      ((0x08 ∷ 0x64 ∷ 0xC0 ∷ 0x00 ∷ 0x00 ∷ 0x06 ∷ 0x10 ∷ 0x03 ∷ 0x19 ∷ 0x00 ∷ 0x07 ∷ 0x01 ∷ 0x02 ∷ []) ∷ [])
      ≡ Ok (codes "PKT 1 APID 100 COUNT 0 TYPE 3/25 SPID 4001\n" ++
      codes "  P 7\n" ++
      codes "  V 258\n")
  -- it names one that isn't there
  pub missing_parameter :
      decoded
      (given kind.Vpd (table (codes "10|1|P|0|0|N|Y\n10|2|X\n"))
      (given kind.Plf ([])
      (given kind.Pid (table (codes "3|25|100|||4001|||10|4\n"))
      (given kind.Pcf (table (codes "P||||3|4||||N|R\nX||||11|0||||N|R\nV||7||3|12||||N|R\n")) shared))))
      ((0x08 ∷ 0x64 ∷ 0xC0 ∷ 0x00 ∷ 0x00 ∷ 0x06 ∷ 0x10 ∷ 0x03 ∷ 0x19 ∷ 0x00 ∷ 0x08 ∷ 0x01 ∷ 0x02 ∷ []) ∷ [])
      ≡ Ok (codes "PKT 1 APID 100 COUNT 0 TYPE 3/25 SPID 4001\n" ++
      codes "  P 8\n" ++
      codes "  NOPARAMETER 8\n")
