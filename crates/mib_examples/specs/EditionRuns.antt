-- Runs over a change of edition: what is kept and what is dropped. [This profile.]
use Rattle.std.specs.Prelude.{◌≡◌, ℕ, List, [], ◌∷◌, ◌++◌, codes, map}
use Rattle.histories.specs.History.{move}
use Rattle.mib_model.specs.declared.database.Database.{Database}
use Rattle.mib_model.specs.declared.kind.Kind.{Kind}
use Rattle.mib_model.specs.declared.kind.Kind.TheVariants as kind
use Rattle.run_model.specs.declared.register.Entry.{Entry}
use Rattle.run_model.specs.declared.register.Entry.TheVariants as entry
use Rattle.run_model.specs.declared.register.Register.{Register}
use Rattle.run_model.specs.Output.{output}
use Rattle.mib_model.specs.Plans.{plans}
use Rattle.run_model.specs.Register.{opening, answer_to, after}
use Rattle.run_model.specs.RegisterHistories.{RegisterHistory}
use Rattle.mib_examples.specs.Given.{database, given, packet_a, packet_with, shared, table}

-- the history of entries from a state on: each reply is the register's
abbrev pub history_of : Register → List (ℕ × Entry) → RegisterHistory
history_of s [] = []
history_of s (one ∷ entries) = move one.0 one.1 (answer_to s one.1) ∷ history_of (after s one.1) entries

-- the text of packets over tables, of which the second are added and used by some entries before the first packet
unfoldable pub printed : Database → Database → List Entry → List (List ℕ) → List ℕ
printed first second uses packets =
    output first packets
    (history_of (opening first) (map (λ e. (1, e)) (entry.Add second (plans second) ∷ uses) ++ map (λ p. (0, entry.Stamp)) packets)) []

-- two parameters in one packet, the first of which is valid by the second in the second tables
abbrev pub two : List ℕ → Kind → List ℕ
two pcf = given kind.Pcf (table pcf) (given kind.Plf (table (codes "T1|4001|10|0\nM|4001|12|0\n")) shared)

-- limits and a check of the parameter
abbrev pub limited : List ℕ → List ℕ → Database
limited ocf ocp = database (given kind.Ocf (table ocf) (given kind.Ocp (table ocp) shared))

-- runs over a change of edition
pub record EditionRuns : Type 0 where
  -- the latest number of an unchanged parameter is carried over
  pub latest :
      printed (database (two (codes "T1||||3|12||||N|R\nM||||3|4||||N|R\n"))) (database (two (codes "T1||||3|12||M||N|R\nM||||3|4||||N|R\n")))
      (entry.UseFrom 2 2 ∷ [])
      ((0x08 ∷ 0x64 ∷ 0xC0 ∷ 0x00 ∷ 0x00 ∷ 0x06 ∷ 0x10 ∷ 0x03 ∷ 0x19 ∷ 0x00 ∷ 0x07 ∷ 0xD0 ∷ 0x01 ∷ []) ∷ packet_a ∷ [])
      ≡ codes "PKT 1 APID 100 COUNT 0 TYPE 3/25 SPID 4001\n" ++
      codes "  T1 2000\n" ++
      codes "  M 1\n" ++
      codes "EDITION 2\n" ++
      codes "PKT 2 APID 100 COUNT 0 TYPE 3/25 SPID 4001\n" ++
      codes "  T1 2000\n" ++
      codes "  SHORT M\n"
  -- the last checked number is carried over a new number of checks
  pub previous :
      printed (limited (codes "T1|1||U\n") (codes "T1|1|D|-9|9\n")) (limited (codes "T1|2||U\n") (codes "T1|1|D|-9|9\n"))
      (entry.UseFrom 2 2 ∷ [])
      (packet_with 0x00 0x00 ∷ packet_a ∷ packet_with 0x00 0x00 ∷ [])
      ≡ codes "PKT 1 APID 100 COUNT 0 TYPE 3/25 SPID 4001\n" ++
      codes "  T1 0\n" ++
      codes "EDITION 2\n" ++
      codes "PKT 2 APID 100 COUNT 0 TYPE 3/25 SPID 4001\n" ++
      codes "  T1 2000\n" ++
      codes "PKT 3 APID 100 COUNT 0 TYPE 3/25 SPID 4001\n" ++
      codes "  T1 0\n" ++
      codes "  ALARM T1 DELTA\n"
  -- a run is held to a lower number of checks, and stays so where the edition changes back
  pub lessened :
      printed (limited (codes "T1|3||U\n") (codes "T1|1|S|0|1000\nT1|2|D|-9|9\n")) (limited (codes "T1|1||U\n") (codes "T1|1|S|0|1000\nT1|2|D|-9|9\n"))
      (entry.UseFrom 2 3 ∷ entry.UseFrom 1 4 ∷ [])
      (packet_a ∷ packet_a ∷ (0x00 ∷ 0x64 ∷ 0xC0 ∷ 0x00 ∷ 0x00 ∷ 0x00 ∷ 0x00 ∷ []) ∷ packet_a ∷ packet_a ∷ [])
      ≡ codes "PKT 1 APID 100 COUNT 0 TYPE 3/25 SPID 4001\n" ++
      codes "  T1 2000\n" ++
      codes "PKT 2 APID 100 COUNT 0 TYPE 3/25 SPID 4001\n" ++
      codes "  T1 2000\n" ++
      codes "EDITION 2\n" ++
      codes "PKT 3 APID 100 COUNT 0 TYPE 0/0 UNKNOWN\n" ++
      codes "EDITION 1\n" ++
      codes "PKT 4 APID 100 COUNT 0 TYPE 3/25 SPID 4001\n" ++
      codes "  T1 2000\n" ++
      codes "PKT 5 APID 100 COUNT 0 TYPE 3/25 SPID 4001\n" ++
      codes "  T1 2000\n" ++
      codes "  ALARM T1 SOFT\n"
  -- a new limit drops what was kept
  pub dropped :
      printed (limited (codes "T1|3||U\n") (codes "T1|1|S|0|1000\nT1|2|D|-9|9\n")) (limited (codes "T1|3||U\n") (codes "T1|1|S|0|1001\nT1|2|D|-9|9\n"))
      (entry.UseFrom 2 3 ∷ [])
      (packet_a ∷ packet_a ∷ packet_a ∷ [])
      ≡ codes "PKT 1 APID 100 COUNT 0 TYPE 3/25 SPID 4001\n" ++
      codes "  T1 2000\n" ++
      codes "PKT 2 APID 100 COUNT 0 TYPE 3/25 SPID 4001\n" ++
      codes "  T1 2000\n" ++
      codes "EDITION 2\n" ++
      codes "PKT 3 APID 100 COUNT 0 TYPE 3/25 SPID 4001\n" ++
      codes "  T1 2000\n"
