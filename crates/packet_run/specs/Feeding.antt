-- How the packets of a feed are read in a run. [This profile.]
use Rattle.std.specs.Prelude.{◌≡◌, ℕ, ◌+◌, ◌≤◌, ◌<◌, List, length, Option}
use Rattle.decode_session.specs.Batches.{EndsFeed}
use Rattle.decode_session.specs.Causes.{HasFillCause}
use Rattle.decode_session.specs.Run.{most_packets}
use Rattle.mib_model.specs.declared.database.Database.{Database}
use Rattle.mib_model.specs.Interpreter.{StampedPacket}
use Rattle.run_model.specs.RegisterHistories.{RegisterHistory}
use Rattle.struct_plan.specs.declared.structure.Structures as Structures
use Rattle.tm_io.specs.Causes.{HasRisen}
use Rattle.packet_jobs.specs.declared.in_use.InUse.{InUse}
use Rattle.packet_run.specs.declared.parts.Pipeline.{Pipeline}
use Rattle.packet_run.specs.declared.stock.TheConstants.{MOST_AHEAD}
use Rattle.packet_run.specs.declared.until.Until.{Until}
use Rattle.packet_run.specs.declared.until.Until.TheVariants as until
use Rattle.packet_run.specs.Piping.{Piping, Stopped}
use Rattle.packet_run.specs.Reading.{Reads}
use Rattle.packet_run.specs.Told.{From, Member}

-- why no packet more was read behind so many: the feed ended before the limit; none may be read behind the limit; or the output failed
abbrev pub EndsUntil : Until → ℕ → Option (List ℕ) → Option (List ℕ) → Type 0
EndsUntil (until.FeedEnds why) count left new = EndsFeed why left new × (count < most_packets)
EndsUntil until.Limit count left new = (new ≡ left) × (count ≡ most_packets)
EndsUntil until.OutFault count left new = (new ≡ left) × (count ≤ most_packets)

-- the count of the feed rose where it failed
abbrev pub HasUntilCause : Until → ℕ → ℕ → Type 0
HasUntilCause (until.FeedEnds why) before now = HasFillCause why before now
HasUntilCause other before now = now ≡ before

-- the count of the output rose where it failed
abbrev pub HasWriteCause : Until → ℕ → ℕ → Type 0
HasWriteCause until.OutFault before now = HasRisen before now
HasWriteCause other before now = now ≡ before

module _ {P : Type 0} {plans : Structures.Ghosts P} (tables : P → Database) {W : Type 0} (stands : W → List Member → Type 0) where
  -- where packets stand that were read: in work, or stopped where the output failed
  abbrev pub PipesUntil : Until → From W → List StampedPacket → Pipeline P plans → InUse P plans → W → Option (List ℕ) → Type 0
  PipesUntil until.OutFault from stamped pipeline in_use watch written = Stopped tables stands from stamped pipeline watch written
  PipesUntil other from stamped pipeline in_use watch written = Piping tables stands from stamped pipeline in_use watch written

  -- the packets that were read, each stamped by one of these moves, as many as these counts tell; where they stand; and why no more were read
  pub record Fed (until : Until) (from : From W) (own : RegisterHistory) (pipeline : Pipeline P plans) (in_use : InUse P plans) (watch : W)
      (old new written : Option (List ℕ)) : Type 0 where
    pub stamped : List StampedPacket
    pub packets : List (List ℕ)
    pub left : Option (List ℕ)
    pub reads : Reads own stamped packets old left
    pub ends : EndsUntil until (length own) left new
    pub ahead : pipeline.read ≤ pipeline.done + MOST_AHEAD
    pub pipes : PipesUntil until from stamped pipeline in_use watch written
