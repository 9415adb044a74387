-- Packets that are drawn ahead. [This project's own.]
use Rattle.std.specs.Prelude.{◌≡◌, ℕ, ◌<◌, ◌≤◌, ◌+◌, ◌-◌, List, [], ◌∷◌, ◌++◌, length, take, drop, Option, Some, None}
use Rattle.std.specs.List.{All, concat, flat_map}
use Rattle.decode_session.specs.declared.job.DrawingJob.{DrawingJob}
use Rattle.edition_plans.specs.Params.{param_slices}
use Rattle.param_state.specs.ParamPlans.{plan_names}
use Rattle.param_state.specs.Demands.{asked_in}
use Rattle.line_sheets.specs.Drawings.{IsSheetFor}
use Rattle.mib_model.specs.declared.database.Database.{Database}
use Rattle.mib_model.specs.Interpreter.{stamped_from}
use Rattle.mib_model.specs.Packets.{IsPacket}
use Rattle.packet_sheets.specs.Stretches.{no_stretch}

-- a job has packets, and, where it draws any, the sheet of the first of them, so many, numbered from its number on
pub record IsJob (db : Database) (job : DrawingJob) : Type 0 where
  pub are_packets : All IsPacket job.stretch.packets
  pub few : job.drawn ≤ length job.stretch.packets
  pub sheet : 0 < job.drawn → IsSheetFor (asked_in (param_slices db)) db (plan_names (param_slices db)) (stamped_from db job.number
      (take job.drawn job.stretch.packets)) job.sheet

-- a job has no packets yet
pub record IsUnused (job : DrawingJob) : Type 0 where
  pub number : job.number ≡ 0
  pub stretch : job.stretch ≡ no_stretch
  pub drawn : job.drawn ≡ 0

-- a worker draws a job
pub record IsDrawn (db : Database) (before after : DrawingJob) : Type 0 where
  pub number : after.number ≡ before.number
  pub stretch : after.stretch ≡ before.stretch
  pub job : IsJob db before → IsJob db after

-- jobs follow one another, numbered from a number on
abbrev pub AreJobs : Database → ℕ → List DrawingJob → Type 0
AreJobs db number [] = Unit {0}
AreJobs db number (job ∷ jobs) = (job.number ≡ number) × IsJob db job × AreJobs db (number + length job.stretch.packets) jobs

-- the packets of jobs
abbrev pub packets_of : List DrawingJob → List (List ℕ)
packets_of jobs = flat_map (λ (job : DrawingJob). job.stretch.packets) jobs

-- the number of the first job
abbrev pub first_of : List DrawingJob → ℕ
first_of [] = 0
first_of (job ∷ jobs) = job.number

-- jobs were dealt from a packet on that isn't behind the one of this number
abbrev pub AreDealt : Database → ℕ → List DrawingJob → Type 0
AreDealt db number jobs = AreJobs db (first_of jobs) jobs × (first_of jobs ≤ number)

-- their packets from the one of this number on
abbrev pub packets_from : ℕ → List DrawingJob → List (List ℕ)
packets_from number jobs = drop (number - first_of jobs) (packets_of jobs)

-- octets begin with packets
abbrev pub BeginsWith : List (List ℕ) → List ℕ → Type 0
BeginsWith packets octets = (rest : List ℕ) × (octets ≡ concat packets ++ rest)

-- it is told that the octets that are left begin with packets
abbrev pub Come : List (List ℕ) → Option (List ℕ) → Type 0
Come packets None = ⊥
Come packets (Some octets) = BeginsWith packets octets
