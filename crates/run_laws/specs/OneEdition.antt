-- Laws of a run with one edition.
use Rattle.std.specs.Prelude.{◌≡◌, ℕ, List, ◌++◌}
use Rattle.mib_model.specs.declared.database.Database.{Database}
use Rattle.mib_model.specs.Interpreter.{start, interpret, records_text, stamped_from}
use Rattle.run_model.specs.Output.{stamps_of_one, output_of_one}
use Rattle.run_model.specs.RegisterHistories.{IsRegisterHistory}

-- what a run with one edition prints: the records of its packets with numbers from 1 on, all of edition 1
abbrev pub OneEditionPrints : Type 0
OneEditionPrints =
    (first : Database) (packets : List (List ℕ)) (tail : List ℕ) →
    output_of_one first packets tail ≡ records_text (interpret (start first) (stamped_from first 1 packets)) ++ tail

-- the stamps of a run with one edition are a history of the register
abbrev pub OneEditionIsLegal : Type 0
OneEditionIsLegal = (first : Database) (packets : List (List ℕ)) → IsRegisterHistory first (stamps_of_one first packets)
