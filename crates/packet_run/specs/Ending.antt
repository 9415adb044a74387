-- How a run ends. [This profile.]
use Rattle.std.specs.Prelude.{◌≡◌, ◌⊎◌, ℕ, List, ◌++◌, Option, Result, Ok, Err, ⊤}
use Rattle.std.specs.List.{All}
use Rattle.std.specs.Io.KnownBytes.{Appends}
use Rattle.decode_session.specs.declared.batch.Filled.TheVariants as filled
use Rattle.decode_session.specs.declared.ending.RunEnd.{RunEnd}
use Rattle.decode_session.specs.declared.ending.RunEnd.TheVariants as end
use Rattle.decode_session.specs.declared.ending.RunFault.{RunFault}
use Rattle.decode_session.specs.declared.ending.RunFault.TheVariants as fault
use Rattle.decode_session.specs.declared.ending.Stop.TheVariants as stop
use Rattle.mib_model.specs.Texts.{cut_text}
use Rattle.struct_plan.specs.declared.structure.Structures as Structures
use Rattle.tm_io.specs.Octets.{AppendsPrefix}
use Rattle.packet_jobs.specs.declared.job.Task.{Task}
use Rattle.packet_run.specs.declared.parts.Pipeline.{Pipeline}
use Rattle.packet_run.specs.declared.until.Until.{Until}
use Rattle.packet_run.specs.declared.until.Until.TheVariants as until
use Rattle.packet_run.specs.Piping.{SharesStay, got_by, put_by}
use Rattle.packet_jobs.specs.Tasks.{number_in}

-- the end of a run by the end of its feed, and what was written of it
abbrev pub EndsAs : Until → Result RunEnd RunFault → Option (List ℕ) → Option (List ℕ) → Type 0
EndsAs (until.FeedEnds filled.Paused) result old new = ⊤
EndsAs (until.FeedEnds filled.End) result old new = (result ≡ Ok end.Whole) × (new ≡ old)
EndsAs (until.FeedEnds (filled.Cut count)) result old new =
    ((result ≡ Ok (end.Cut count)) × Appends old new (cut_text count)) ⊎ ((result ≡ Err (fault.Print stop.Out)) × AppendsPrefix old new (cut_text count))
EndsAs (until.FeedEnds filled.Failed) result old new = (result ≡ Err fault.Feed) × (new ≡ old)
EndsAs until.Limit result old new = (result ≡ Ok end.Limit) × (new ≡ old)
EndsAs until.OutFault result old new = ⊤

module _ {P : Type 0} {plans : Structures.Ghosts P} where
  -- ends of workers were put, and nothing else was done
  pub record PutsEnds (old new : Pipeline P plans) : Type 0 where
    pub ends : List (Task P plans)
    pub ended : All (λ task. number_in task ≡ 0) ends
    pub put : put_by new ≡ put_by old ++ ends
    pub got : got_by new ≡ got_by old
    pub second : new.second ≡ old.second
    pub window : new.window ≡ old.window
    pub rooms : new.rooms ≡ old.rooms
    pub shares : SharesStay old new
