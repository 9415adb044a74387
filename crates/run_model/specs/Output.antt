-- What a run prints: the interpreter's records over its stamped packets, and the rest of the feed. [This profile.]
use Rattle.std.specs.Prelude.{ℕ, List, ◌++◌, map, length}
use Rattle.std.specs.List.{zip, range_with_len}
use Rattle.histories.specs.History.{move}
use Rattle.histories.specs.declared.history.Move.{Move}
use Rattle.run_model.specs.declared.register.Answer.{Answer}
use Rattle.run_model.specs.declared.register.Answer.TheVariants.{Stamped}
use Rattle.run_model.specs.declared.register.Entry.{Entry}
use Rattle.run_model.specs.declared.register.Entry.TheVariants.{Stamp}
use Rattle.run_model.specs.declared.register.Register.{Register}
use Rattle.mib_model.specs.declared.database.Database.{Database}
use Rattle.mib_model.specs.Interpreter.{StampedPacket, start, interpret, records_text}
use Rattle.run_model.specs.Register.{tables_of}
use Rattle.run_model.specs.RegisterHistories.{RegisterHistory, register_after, stamps}

-- a packet beside its stamp, with the tables of its edition
abbrev pub stamped_in : Register → (ℕ × ℕ) × List ℕ → StampedPacket
stamped_in register pair = record { number = pair.0.0; packet = pair.1; edition = pair.0.1; tables = tables_of register pair.0.1 }

-- the i-th packet with the i-th stamp of a history
unfoldable pub stamped_by : Database → RegisterHistory → List (List ℕ) → List StampedPacket
stamped_by first history packets = map (stamped_in (register_after first history)) (zip (stamps history) packets)

-- the text of a live run
unfoldable pub output : Database → List (List ℕ) → RegisterHistory → List ℕ → List ℕ
output first packets history tail = records_text (interpret (start first) (stamped_by first history packets)) ++ tail

-- the stamp of a packet in a run with one edition
abbrev pub stamp_of_one : Database → ℕ → Move Entry Answer
stamp_of_one first number = move 0 Stamp (Stamped number 1 first)

-- the history of a run with one edition: as many stamps as packets
abbrev pub stamps_of_one : Database → List (List ℕ) → RegisterHistory
stamps_of_one first packets = map (stamp_of_one first) (range_with_len 1 (length packets))

-- the text of a run with one edition
unfoldable pub output_of_one : Database → List (List ℕ) → List ℕ → List ℕ
output_of_one first packets tail = output first packets (stamps_of_one first packets) tail
