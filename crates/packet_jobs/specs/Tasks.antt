-- Jobs of stamped packets, and what becomes of them. [This project's own.]
use Rattle.std.specs.Prelude.{◌≡◌, ℕ, List}
use Rattle.std.specs.Arc.{arc_value}
use Rattle.std.specs.List.{Contains}
use Rattle.decode_session.specs.Cells.{packet_in}
use Rattle.mib_model.specs.declared.database.Database.{Database}
use Rattle.mib_model.specs.Interpreter.{StampedPacket}
use Rattle.struct_plan.specs.declared.structure.Structures as Structures
use Rattle.packet_jobs.specs.declared.job.Job.{Job}
use Rattle.packet_jobs.specs.declared.job.Task.{Task}
use Rattle.packet_jobs.specs.declared.job.Task.TheVariants as task

module _ {P : Type 0} {plans : Structures.Ghosts P} where
  -- the number of a task: that of its packet, and 0 for the end of a worker
  abbrev pub number_in : Task P plans → ℕ
  number_in task.End = 0
  number_in (task.Packet job) = job.cell.number

module _ {P : Type 0} {plans : Structures.Ghosts P} (tables : P → Database) where
  -- two jobs are of one packet: with the same number and octets, and the same tables of their handles
  pub record IsSame (before after : Job P plans) : Type 0 where
    pub number : after.cell.number ≡ before.cell.number
    pub packet : packet_in after.cell ≡ packet_in before.cell
    pub edition : tables (arc_value after.handle) ≡ tables (arc_value before.handle)

  -- what a worker makes of a task
  abbrev pub IsWorked : Task P plans → Task P plans → Type 0
  IsWorked task.End after = after ≡ task.End
  IsWorked (task.Packet before) task.End = ⊥
  IsWorked (task.Packet before) (task.Packet after) = IsSame before after

  -- a job is that of a stamped packet, with a handle of the packet's tables
  pub record IsOfStamp (s : StampedPacket) (job : Job P plans) : Type 0 where
    pub number : job.cell.number ≡ s.number
    pub packet : packet_in job.cell ≡ s.packet
    pub edition : tables (arc_value job.handle) ≡ s.tables

  -- a task is the job of one of these packets
  abbrev pub IsJob : List StampedPacket → Task P plans → Type 0
  IsJob stamped task.End = ⊥
  IsJob stamped (task.Packet job) = (s : StampedPacket) × Contains stamped s × IsOfStamp s job

  -- each of these results is the job of one of these packets
  abbrev pub AllRight : List StampedPacket → List (Task P plans) → Type 0
  AllRight stamped results = (result : Task P plans) → Contains results result → IsJob stamped result
