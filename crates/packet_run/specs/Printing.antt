-- A packet that is printed. [This profile.]
use Rattle.std.specs.Prelude.{◌≡◌, ℕ, List, [], ◌∷◌, ◌++◌, Option}
use Rattle.std.specs.Arc.{arc_value}
use Rattle.std.specs.Io.KnownBytes.{Appends}
use Rattle.fold_state.specs.Boards.{memory_of}
use Rattle.mib_model.specs.declared.database.Database.{Database}
use Rattle.mib_model.specs.Interpreter.{Course, StampedPacket, record_for, course_after}
use Rattle.mib_model.specs.Texts.{record_text}
use Rattle.struct_plan.specs.declared.structure.Structures as Structures
use Rattle.packet_jobs.specs.declared.in_use.InUse.{InUse}
use Rattle.packet_jobs.specs.declared.job.Task.{Task}
use Rattle.packet_jobs.specs.declared.job.Task.TheVariants as task
use Rattle.packet_jobs.specs.Tasks.{IsOfStamp}
use Rattle.packet_run.specs.Told.{Member, member}

module _ {P : Type 0} {plans : Structures.Ghosts P} (tables : P → Database) where
  -- a result is the job of a stamped packet
  abbrev pub IsResultOf : StampedPacket → Task P plans → Type 0
  IsResultOf s task.End = ⊥
  IsResultOf s (task.Packet job) = IsOfStamp tables s job

  module _ {W : Type 0} (stands : W → List Member → Type 0) where
    -- the record of a packet to which the interpreter comes was written, its edition is in use, this is kept after it, and the watch was told
    pub record HasPrinted (c : Course) (s : StampedPacket) (in_use : InUse P plans) (old new : Option (List ℕ)) (watch watch' : W) : Type 0 where
      pub printed : Appends old new (record_text (record_for c s))
      pub edition : in_use.edition ≡ s.edition
      pub shown : tables (arc_value in_use.handle) ≡ s.tables
      pub memory : (course_after c s).memory ≡ memory_of in_use.board
      pub told : (told : List Member) → stands watch told → stands watch' (told ++ member s.number s.edition (course_after c s).memory ∷ [])
