-- Packets that are read, decoded and finished in turn, in a run of one edition. [This project's own.]
use Rattle.std.specs.Prelude.{◌≡◌, ℕ, ◌+◌, List, [], ◌∷◌, ◌++◌, length, Option}
use Rattle.std.specs.List.{All, concat}
use Rattle.std.specs.Io.KnownBytes.{Appends, Consumes}
use Rattle.tm_io.specs.Octets.{AppendsPrefix}
use Rattle.decode_session.specs.declared.batch.Filled.{Filled}
use Rattle.decode_session.specs.Batches.{EndsFeed, EndsBatch, Reads}
use Rattle.decode_session.specs.Finishing.{batch_text, LeavesAfter}
use Rattle.mib_model.specs.declared.database.Database.{Database}
use Rattle.mib_model.specs.Kept.{Memory}
use Rattle.mib_model.specs.Interpreter.{stamped_from}
use Rattle.mib_model.specs.Packets.{IsPacket}

-- packets, numbered from a number on, were read, their records stand behind a text, and this is kept after them
pub record Adds (db : Database) (number : ℕ) (packets : List (List ℕ)) (old new : Option (List ℕ)) (memory after : Memory) (text longer : List ℕ) : Type 0 where
  pub are_packets : All IsPacket packets
  pub taken : Consumes old new (concat packets)
  pub leaves : LeavesAfter 1 db memory (stamped_from db number packets) after
  pub appended : longer ≡ text ++ batch_text 1 db memory (stamped_from db number packets)

-- one packet was read and its record appended
abbrev pub AddsOne : Database → ℕ → Option (List ℕ) → Option (List ℕ) → Memory → Memory → List ℕ → List ℕ → Type 0
AddsOne db number old new memory after text longer = (packet : List ℕ) × Adds db number (packet ∷ []) old new memory after text longer

-- nothing was appended, since the feed ended so
abbrev pub AddsNothing : Filled → Option (List ℕ) → Option (List ℕ) → Memory → Memory → List ℕ → List ℕ → Type 0
AddsNothing f old new memory after text longer = EndsFeed f old new × (after ≡ memory) × (longer ≡ text)

-- packets were read up to the one of the next number, and their records are the text; then the batch ended so
abbrev pub AddsBatch : Filled → Database → ℕ → ℕ → Option (List ℕ) → Option (List ℕ) → Memory → Memory → List ℕ → Type 0
AddsBatch f db number next old new memory after text =
    (packets : List (List ℕ)) × (middle : Option (List ℕ))
    × Adds db number packets old middle memory after [] text × (next ≡ number + length packets) × EndsBatch f packets middle new

-- packets, numbered from a number on, were finished: this is kept after them, and their records were written
pub record Prints (db : Database) (number : ℕ) (packets : List (List ℕ)) (memory after : Memory) (before now : Option (List ℕ)) : Type 0 where
  pub leaves : LeavesAfter 1 db memory (stamped_from db number packets) after
  pub wrote : Appends before now (batch_text 1 db memory (stamped_from db number packets))

-- a first part of their records was written
abbrev pub PrintsPart : Database → ℕ → List (List ℕ) → Memory → Option (List ℕ) → Option (List ℕ) → Type 0
PrintsPart db number packets memory before now = AppendsPrefix before now (batch_text 1 db memory (stamped_from db number packets))

-- packets were read up to the one of the next number, so that it ended so, and printed
abbrev pub PrintsNext : Filled → Database → Option (List ℕ) → ℕ → ℕ → Option (List ℕ) → Option (List ℕ) → Memory → Memory → Option (List ℕ)
    → Option (List ℕ) → Type 0
PrintsNext f db start number next old new memory after before now =
    (packets : List (List ℕ)) × Reads f start number next packets old new × Prints db number packets memory after before now

-- writing stopped in the records of packets that were read so
abbrev pub StopsNext : Filled → Database → Option (List ℕ) → ℕ → ℕ → Option (List ℕ) → Option (List ℕ) → Memory → Option (List ℕ) → Option (List ℕ) → Type 0
StopsNext f db start number next old new memory before now =
    (packets : List (List ℕ)) × Reads f start number next packets old new × PrintsPart db number packets memory before now
