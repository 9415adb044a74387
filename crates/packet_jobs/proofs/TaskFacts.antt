-- Tasks that nobody worked.
use Rattle.packet_jobs.proofs.Common.{Database, refl}
use Rattle.packet_jobs.specs.declared.job.Task.{Task}
use Rattle.packet_jobs.specs.declared.job.Task.TheVariants as task
use Rattle.packet_jobs.specs.Tasks.{IsWorked}
use Rattle.struct_plan.specs.declared.structure.Structures as Structures

-- a task that is left as it is
pub worked_same : {P : Type 0} {plans : Structures.Ghosts P} (tables : P → Database) (t : Task P plans) → IsWorked tables t t
worked_same tables task.End = refl
worked_same tables (task.Packet job) = record { number = refl; packet = refl; edition = refl }
