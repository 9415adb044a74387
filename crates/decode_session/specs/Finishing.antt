-- Packets of one edition on the way to their records. [This project's own.]
use Rattle.std.specs.Prelude.{◌≡◌, ℕ, ◌+◌, List, [], ◌++◌, length, Option}
use Rattle.std.specs.List.{All, concat}
use Rattle.std.specs.Io.KnownBytes.{Consumes}
use Rattle.decode_session.specs.Run.{Writes}
use Rattle.edition_plans.specs.Params.{param_slices}
use Rattle.param_state.specs.declared.demands.Demand.{Demand}
use Rattle.param_state.specs.Demands.{AreDemandsOf, asked_in}
use Rattle.memory_laws.specs.Alike.{AreAlike}
use Rattle.mib_model.specs.declared.database.Database.{Database}
use Rattle.mib_model.specs.Interpreter.{Course, StampedPacket, record_for, course_after, interpret, course_after_all, records_text, stamped_from}
use Rattle.mib_model.specs.Kept.{Memory, empty_memory}
use Rattle.mib_model.specs.Packets.{IsPacket}
use Rattle.mib_model.specs.Texts.{record_text}

-- where the interpreter stands with this edition, its tables and this kept
abbrev pub standing : ℕ → Database → Memory → Course
standing edition db memory = record { memory = memory; edition = edition; tables = db }

-- the text of a packet that comes there
abbrev pub next_text : ℕ → Database → Memory → StampedPacket → List ℕ
next_text edition db memory s = record_text (record_for (standing edition db memory) s)

-- the text of packets that come there
abbrev pub batch_text : ℕ → Database → Memory → List StampedPacket → List ℕ
batch_text edition db memory stamped = records_text (interpret (standing edition db memory) stamped)

-- this is kept after a packet that comes there
abbrev pub Leaves : ℕ → Database → Memory → StampedPacket → Memory → Type 0
Leaves edition db memory s after = standing edition db after ≡ course_after (standing edition db memory) s

-- this is kept after packets that come there
abbrev pub LeavesAfter : ℕ → Database → Memory → List StampedPacket → Memory → Type 0
LeavesAfter edition db memory stamped after = standing edition db after ≡ course_after_all (standing edition db memory) stamped

-- what is demanded of values is what the plans of a database ask
abbrev pub AreDemandsIn : Database → List Demand → Type 0
AreDemandsIn db demands = AreDemandsOf (asked_in (param_slices db)) (param_slices db) demands

-- a memory tells the same as what is kept: it differs at most in raw numbers that no plan of a database asks
abbrev pub Serves : Database → Memory → Memory → Type 0
Serves db memory kept = AreAlike (asked_in (param_slices db)) memory kept

-- what is kept, before and after, serves for memories of which something is said
abbrev pub Leads : Database → Memory → Memory → (Memory → Memory → Type 0) → Type 0
Leads db kept left Says = (memory : Memory) → Serves db memory kept → (after : Memory) × Serves db after left × Says memory after

-- a packet that comes there was finished: what is kept after it, and its record behind a text
pub record Finishes (edition : ℕ) (db : Database) (s : StampedPacket) (old new : List ℕ) (memory after : Memory) : Type 0 where
  pub leaves : Leaves edition db memory s after
  pub text : new ≡ old ++ next_text edition db memory s

-- in a run of edition 1 the packets before the one of this number were read and printed, and this is kept after them
abbrev pub Going : Database → ℕ → Memory → Option (List ℕ) → Option (List ℕ) → Option (List ℕ) → Option (List ℕ) → Type 0
Going db number memory start left old new =
    (packets : List (List ℕ))
    × Consumes start left (concat packets) × All IsPacket packets × (length packets + 1 ≡ number) × Writes db packets [] old new
    × LeavesAfter 1 db empty_memory (stamped_from db 1 packets) memory
