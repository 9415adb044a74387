-- A run that is kept over a new number of checks. [This profile.]
use Rattle.std.specs.Prelude.{◌≡◌, [], ◌∷◌, ◌++◌, codes}
use Rattle.mib_model.specs.declared.database.Database.{Database}
use Rattle.mib_model.specs.declared.kind.Kind.TheVariants as kind
use Rattle.run_model.specs.declared.register.Answer.TheVariants as answer
use Rattle.run_model.specs.declared.register.Entry.TheVariants as entry
use Rattle.run_model.specs.Output.{output}
use Rattle.mib_model.specs.Plans.{plans}
use Rattle.run_model.specs.RegisterHistories.{RegisterHistory, IsRegisterHistory}
use Rattle.mib_examples.specs.Given.{database, given, packet_a, shared, table}

-- a soft limit with an alarm after three samples
abbrev pub patient : Database
patient = database (given kind.Ocp (table (codes "T1|1|S|0|1000\n")) (given kind.Ocf (table (codes "T1|3||U\n")) shared))

-- a soft limit with an alarm after two samples
abbrev pub hasty : Database
hasty = database (given kind.Ocp (table (codes "T1|1|S|0|1000\n")) (given kind.Ocf (table (codes "T1|2||U\n")) shared))

-- the history of a run whose desk lowers the number of checks before the second packet
abbrev pub hastening : RegisterHistory
hastening =
    record { seat = 1; entry = entry.Add hasty (plans hasty); reply = answer.Added 2 } ∷
    record { seat = 1; entry = entry.UseFrom 2 2; reply = answer.Used 2 } ∷
    record { seat = 0; entry = entry.Stamp; reply = answer.Stamped 1 1 patient } ∷
    record { seat = 0; entry = entry.Stamp; reply = answer.Stamped 2 2 hasty } ∷ []

-- a run that is kept over a new number of checks
pub record CarryExamples : Type 0 where
  pub legal : IsRegisterHistory patient hastening
  pub printed :
      output patient (packet_a ∷ packet_a ∷ []) hastening [] ≡
      codes "PKT 1 APID 100 COUNT 0 TYPE 3/25 SPID 4001\n" ++
      codes "  T1 2000\n" ++
      codes "EDITION 2\n" ++
      codes "PKT 2 APID 100 COUNT 0 TYPE 3/25 SPID 4001\n" ++
      codes "  T1 2000\n" ++
      codes "  ALARM T1 SOFT\n"
