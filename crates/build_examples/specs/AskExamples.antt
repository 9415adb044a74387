-- Packets that are asked for. [This profile.]
use Rattle.std.specs.Prelude.{◌≡◌, ℕ, pos, List, [], ◌∷◌, codes, Some, None}
use Rattle.mib_model.specs.declared.database.Database.{Database}
use Rattle.mib_model.specs.declared.kind.Kind.{Kind}
use Rattle.mib_model.specs.declared.kind.Kind.TheVariants as kind
use Rattle.mib_model.specs.declared.packet.Ended.TheVariants as ended
use Rattle.build_rules.specs.declared.fault.BuildFault.{BuildFault}
use Rattle.build_rules.specs.declared.fault.BuildFault.TheVariants.{NoSpid, Apid, Discriminant, Items, Range, Ends, Long, Clash, Ask}
use Rattle.build_rules.specs.Asks.{Answered, answered, refused_line}
use Rattle.mib_examples.specs.Given.{database, given, nothing, packet_a, shared, table}

-- one parameter of 16 bits in one packet
unfoldable pub plain : Database
plain = database shared

-- one parameter of 16 bits in one packet, but with another text for a table
abbrev pub plain_but : Kind → List ℕ → Database
plain_but k text = database (given k (table text) shared)

-- what one line comes to
abbrev pub asked : Database → List ℕ → Answered
asked db line = answered db 1 (line ∷ [])

-- a refusal at the first line
abbrev pub refused : BuildFault → Answered
refused fault = ([], Some (1, fault))

-- a structure of this packet, whose parameters have 8 bits
abbrev pub of_structure : List ℕ → Database
of_structure rows =
    database (given kind.Pcf (table (codes "N||||3|4||||N|R\nV||||3|4||||N|R\nC||||3|4||||N|R\nD||||11|0||||N|R\n"))
    (given kind.Pid (table (codes "3|25|100|||4001|||10|4\n")) (given kind.Vpd (table rows) nothing)))

-- a number of values, and three for each
unfoldable pub counted : Database
counted = of_structure (codes "10|1|N|2\n10|2|N|1|3\n10|3|V\n")

-- packets that are built
pub record PacketExamples : Type 0 where
  pub plain : asked plain (codes "4001 0 T1 2000") ≡ (packet_a, None)
  pub little : asked (plain_but kind.Pcf (codes "T1||||3|12||||N|R||||||||||||L\n")) (codes "4001 0 T1 2000") ≡
      (0x08 ∷ 0x64 ∷ 0xC0 ∷ 0x00 ∷ 0x00 ∷ 0x05 ∷ 0x10 ∷ 0x03 ∷ 0x19 ∷ 0x00 ∷ 0xD0 ∷ 0x07 ∷ [], None)
  pub signed : asked (plain_but kind.Pcf (codes "T1||||4|12||||N|R\n")) (codes "4001 16383 T1 -2") ≡
      (0x08 ∷ 0x64 ∷ 0xFF ∷ 0xFF ∷ 0x00 ∷ 0x05 ∷ 0x10 ∷ 0x03 ∷ 0x19 ∷ 0x00 ∷ 0xFF ∷ 0xFE ∷ [], None)
  pub structure : asked counted (codes "4001 0 N 2 V 1 V 2 V 3 V 4 V 5 V 6") ≡
      (0x08 ∷ 0x64 ∷ 0xC0 ∷ 0x00 ∷ 0x00 ∷ 0x0A ∷ 0x10 ∷ 0x03 ∷ 0x19 ∷ 0x00 ∷ 0x02 ∷ 0x01 ∷ 0x02 ∷ 0x03 ∷ 0x04 ∷ 0x05 ∷ 0x06 ∷ [], None)
  pub discriminant :
      asked (database (given kind.Pid (table (codes "3|25|100|7|0|4001\n")) (given kind.Pic (table (codes "3|25|9|8|-1|0|\n")) shared))) (codes "4001 5 T1 2000") ≡
      (0x08 ∷ 0x64 ∷ 0xC0 ∷ 0x05 ∷ 0x00 ∷ 0x05 ∷ 0x10 ∷ 0x03 ∷ 0x19 ∷ 0x07 ∷ 0x07 ∷ 0xD0 ∷ [], None)

-- places at which items lie
pub record PlaceExamples : Type 0 where
  -- no places: the packet has its least size
  pub none : asked (plain_but kind.Plf []) (codes "4001 0") ≡ (0x08 ∷ 0x64 ∷ 0xC0 ∷ 0x00 ∷ 0x00 ∷ 0x02 ∷ 0x10 ∷ 0x03 ∷ 0x19 ∷ [], None)
  -- the same bits twice, alike
  pub agreeing : asked (plain_but kind.Plf (codes "T1|4001|10|0|2|0\n")) (codes "4001 0 T1 2000 T1 2000") ≡ (packet_a, None)
  -- a value on the length of the packet, which is 6
  pub on_the_header : asked (plain_but kind.Plf (codes "T1|4001|4|0\n")) (codes "4001 0 T1 2") ≡
      (0x08 ∷ 0x64 ∷ 0xC0 ∷ 0x00 ∷ 0x00 ∷ 0x02 ∷ 0x10 ∷ 0x03 ∷ 0x19 ∷ [], None)
  -- a deduced value
  pub deduced :
      asked
      (database (given kind.Pcf (table (codes "N||||3|4||||N|R\nV||7||3|12||||N|R\nD||||11|0||||N|R\n"))
      (given kind.Pid (table (codes "3|25|100|||4001|||10|4\n")) (given kind.Vpd (table (codes "10|1|N||||Y\n10|2|D\n")) nothing))))
      (codes "4001 0 N 7 V 2000") ≡
      (0x08 ∷ 0x64 ∷ 0xC0 ∷ 0x00 ∷ 0x00 ∷ 0x06 ∷ 0x10 ∷ 0x03 ∷ 0x19 ∷ 0x00 ∷ 0x07 ∷ 0x07 ∷ 0xD0 ∷ [], None)
  -- a choice
  pub chosen : asked (of_structure (codes "10|1|C|||Y\n11|1|V\n")) (codes "4001 0 C 11 V 9") ≡
      (0x08 ∷ 0x64 ∷ 0xC0 ∷ 0x00 ∷ 0x00 ∷ 0x05 ∷ 0x10 ∷ 0x03 ∷ 0x19 ∷ 0x00 ∷ 0x0B ∷ 0x09 ∷ [], None)

-- each fault
pub record FaultExamples : Type 0 where
  pub no_spid : asked plain (codes "4002 0") ≡ refused NoSpid
  pub idle : asked (plain_but kind.Pid (codes "3|25|2047|||4001\n")) (codes "4001 0 T1 2000") ≡ refused (Apid 2047)
  pub no_criterion : asked (plain_but kind.Pid (codes "3|25|100|7|0|4001\n")) (codes "4001 0 T1 2000") ≡ refused (Discriminant 1)
  pub wide : asked (database (given kind.Pid (table (codes "3|25|100|0|16|4001\n")) (given kind.Pic (table (codes "3|25|9|8|10|4|\n")) shared))) (codes "4001 0 T1 2000") ≡
      refused (Discriminant 2)
  pub missing : asked plain (codes "4001 0") ≡ refused (Items 1)
  pub named_otherwise : asked plain (codes "4001 0 T2 2000") ≡ refused (Items 1)
  pub left_over : asked plain (codes "4001 0 T1 1 T1 1") ≡ refused (Items 2)
  pub range : asked plain (codes "4001 0 T1 65536") ≡ refused (Range 1)
  pub below : asked plain (codes "4001 0 T1 -1") ≡ refused (Range 1)
  pub no_number : asked (plain_but kind.Pcf (codes "T1||||7|2||||N|R\n")) (codes "4001 0 T1 1") ≡ refused (Range 1)
  pub no_structure : asked (of_structure (codes "10|1|C|||Y\n")) (codes "4001 0 C 99") ≡ refused (Ends (ended.NoStructure (pos 99)))
  pub no_parameter : asked (of_structure (codes "10|1|D\n")) (codes "4001 0 V 1") ≡ refused (Ends (ended.NoParameter (pos 0)))
  pub before : asked (of_structure (codes "10|1|V|||||||||||-88\n")) (codes "4001 0 V 1") ≡ refused (Ends (ended.Short (codes "V")))
  pub long : asked (plain_but kind.Plf (codes "T1|4001|65541|0\n")) (codes "4001 0 T1 1") ≡ refused Long
  pub clash : asked (database (given kind.Pcf (table (codes "T1||||3|12||||N|R\nM||||3|4||||N|R\n")) (given kind.Plf (table (codes "T1|4001|10|0\nM|4001|10|0\n")) shared)))
      (codes "4001 0 T1 256 M 0") ≡ refused (Clash 87)

-- the forms of a line
pub record AskExamples : Type 0 where
  pub passed_over : answered plain 1 (codes "# one" ∷ [] ∷ codes "4001 0 T1 2000\r" ∷ codes "4001 0" ∷ []) ≡ (packet_a, Some (4, Items 1))
  pub no_count : asked plain (codes "4001") ≡ refused Ask
  pub count : asked plain (codes "4001 16384 T1 1") ≡ refused Ask
  pub no_word : asked plain (codes "4001  0") ≡ refused Ask
  pub no_item : asked plain (codes "4001 0 T1") ≡ refused Ask
  pub no_name : asked plain (codes "4001 0 T\t1 1") ≡ refused Ask
  pub digits : asked plain (codes "4001 0 T1 123456789012345678901") ≡ refused Ask
  pub many_digits : asked plain (codes "4001 0 T1 99999999999999999999") ≡ refused (Range 1)
  pub zero : asked plain (codes "4001 0 T1 -0") ≡ asked plain (codes "4001 0 T1 0")
  pub far_spid : asked plain (codes "4294967296 0 T1 1") ≡ refused NoSpid
  pub told : refused_line 12 (Range 3) ≡ codes "REFUSED 12 RANGE 3"
