-- What a run reads, writes and tells. [This profile.]
use Rattle.std.specs.Prelude.{◌≡◌, ℕ, ◌+◌, ◌<◌, ◌≤◌, Bool, true, false, List, [], ◌++◌, length, take, Option, IfSome, Result, Ok, Err, ⊤}
use Rattle.std.specs.Io.KnownBytes.{Appends, Consumes, IsAtEnd}
use Rattle.decode_pool.specs.Joins.{PutsJobs}
use Rattle.decode_session.specs.declared.ending.RunEnd.{RunEnd}
use Rattle.decode_session.specs.declared.ending.RunEnd.TheVariants as end
use Rattle.decode_session.specs.declared.ending.RunFault.{RunFault}
use Rattle.decode_session.specs.declared.ending.RunFault.TheVariants as fault
use Rattle.decode_session.specs.declared.ending.Stop.TheVariants as stop
use Rattle.decode_session.specs.Run.{most_in_flight, most_packets}
use Rattle.mib_model.specs.declared.database.Database.{Database}
use Rattle.mib_model.specs.Interpreter.{StampedPacket, start}
use Rattle.mib_model.specs.Packets.{IsCut}
use Rattle.run_model.specs.RegisterHistories.{RegisterHistory}
use Rattle.mib_model.specs.Texts.{rest_unless}
use Rattle.struct_plan.specs.declared.structure.Structures as Structures
use Rattle.tm_io.specs.Causes.{RisesWhere}
use Rattle.tm_io.specs.Octets.{WritesUnless}
use Rattle.packet_jobs.specs.declared.job.Task.{Task}
use Rattle.packet_run.specs.declared.parts.Pipeline.{Pipeline}
use Rattle.packet_run.specs.Piping.{Holds, put_by, results_of}
use Rattle.packet_run.specs.Stamped.{EndsInNext, stamped_by_moves, text_of}
use Rattle.packet_jobs.specs.Tasks.{AllRight, IsJob, number_in}
use Rattle.packet_run.specs.Told.{From, Member, members_from}

-- whether the output failed
abbrev pub is_out_failed : Result RunEnd RunFault → Bool
is_out_failed (Err (fault.Print stop.Out)) = true
is_out_failed other = false

-- whether the feed failed: the end of a run tells it, but for one whose output failed
abbrev pub IsFeedFailed : Result RunEnd RunFault → Bool → Type 0
IsFeedFailed (Ok end) failed = failed ≡ false
IsFeedFailed (Err fault.Feed) failed = failed ≡ true
IsFeedFailed (Err (fault.Print stop)) failed = ⊤

-- how a run ended: at the end of a feed that tells its octets, where there is a rest or none; at the limit; or hindered
abbrev pub EndsRun : Result RunEnd RunFault → List (List ℕ) → List ℕ → Option (List ℕ) → Option (List ℕ) → Type 0
EndsRun (Ok end.Whole) packets rest start_left left = (rest ≡ []) × IfSome start_left (λ octets. IsAtEnd left) × (length packets < most_packets)
EndsRun (Ok (end.Cut count)) packets rest start_left left = (length rest ≡ count) × (0 < count) × IfSome start_left (λ octets. IsAtEnd left)
    × (length packets < most_packets)
EndsRun (Ok end.Limit) packets rest start_left left = length packets ≡ most_packets
EndsRun (Err fault.Feed) packets rest start_left left = length packets < most_packets
EndsRun (Err (fault.Print stop.Out)) packets rest start_left left = length packets ≤ most_packets
EndsRun (Err (fault.Print stop.Memory)) packets rest start_left left = ⊥

module _ {W : Type 0} (stands : W → List Member → Type 0) where
  -- of these packets the records of so many were written whole and no other, and the watch was told of those: of all, unless the output failed; then
  -- no more packets were read behind them than may be in flight
  pub record Commits (result : Result RunEnd RunFault) (from : From W) (stamped : List StampedPacket) (watch : W) (written : Option (List ℕ)) : Type 0 where
    pub count : ℕ
    pub within : count ≤ length stamped
    pub all : is_out_failed result ≡ false → count ≡ length stamped
    pub few : length stamped ≤ count + most_in_flight
    pub more : List ℕ
    pub least : Appends from.written written (text_of from.first (take count stamped) ++ more)
    pub in_next : EndsInNext from.first stamped count more
    pub told : (told : List Member) → stands from.watch told → stands watch (told ++ members_from (start from.first) (take count stamped))

  -- what was read is cut into packets and a rest, each packet was stamped by one of these moves, and the text of all was written, with these
  -- counts of faults of the feed
  pub record Runs (result : Result RunEnd RunFault) (from : From W) (own : RegisterHistory) (before now : ℕ)
      (start_left left : Option (List ℕ)) (watch : W) (written : Option (List ℕ)) : Type 0 where
    pub read : List ℕ
    pub packets : List (List ℕ)
    pub rest : List ℕ
    pub taken : Consumes start_left left read
    pub cut : IsCut read packets rest
    pub many : length packets ≡ length own
    pub limit : length packets ≡ most_packets → rest ≡ []
    pub feed_failed : Bool
    pub is_failed : IsFeedFailed result feed_failed
    pub feed_count : RisesWhere feed_failed before now
    pub ends : EndsRun result packets rest start_left left
    pub text : WritesUnless (is_out_failed result) from.written written (text_of from.first (stamped_by_moves own packets) ++ rest_unless feed_failed rest)
    pub commits : Commits result from (stamped_by_moves own packets) watch written

module _ {P : Type 0} {plans : Structures.Ghosts P} (tables : P → Database) {W : Type 0} (stands : W → List Member → Type 0) where
  -- the caller's side of a run is done: if its results are right, so is the run
  pub record Drove (result : Result RunEnd RunFault) (from : From W) (own : RegisterHistory) (before now : ℕ)
      (start_left left : Option (List ℕ)) (pipeline : Pipeline P plans) (watch : W) (written : Option (List ℕ)) : Type 0 where
    pub stamped : List StampedPacket
    pub made : List (Task P plans)
    pub holds : Holds tables made pipeline
    pub limit : ℕ
    pub puts : PutsJobs number_in (IsJob tables stamped) (put_by pipeline) limit
    pub runs : AllRight tables stamped (results_of pipeline ++ made) → Runs stands result from own before now start_left left watch written
