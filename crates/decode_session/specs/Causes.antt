-- Which answer comes with which count of faults.
use Rattle.std.specs.Prelude.{◌≡◌, ℕ, ◌≤◌, Result, Ok, Err}
use Rattle.tm_io.specs.Causes.{HasRisen}
use Rattle.decode_session.specs.declared.batch.Filled.{Filled}
use Rattle.decode_session.specs.declared.batch.Filled.TheVariants as filled
use Rattle.decode_session.specs.declared.ending.RunEnd.{RunEnd}
use Rattle.decode_session.specs.declared.ending.RunFault.{RunFault}
use Rattle.decode_session.specs.declared.ending.RunFault.TheVariants as fault
use Rattle.decode_session.specs.declared.ending.Stop.{Stop}
use Rattle.decode_session.specs.declared.ending.Stop.TheVariants as stop

-- the count of the feed rose where a batch ended by its fault
abbrev pub HasFillCause : Filled → ℕ → ℕ → Type 0
HasFillCause filled.Paused before now = now ≡ before
HasFillCause filled.End before now = now ≡ before
HasFillCause (filled.Cut count) before now = now ≡ before
HasFillCause filled.Failed before now = HasRisen before now

-- the count of the output rose where writing failed
abbrev pub HasStopCause : Stop → ℕ → ℕ → Type 0
HasStopCause stop.Memory before now = now ≡ before
HasStopCause stop.Out before now = HasRisen before now

-- the count of the output rose where a run ended by its fault, and is as it was with every other answer
abbrev pub HasOutCause : Result RunEnd RunFault → ℕ → ℕ → Type 0
HasOutCause (Ok end) before now = now ≡ before
HasOutCause (Err fault.Feed) before now = now ≡ before
HasOutCause (Err (fault.Print stop)) before now = HasStopCause stop before now

-- the count of the feed rose where a run ended by its fault, and is as it was with every other answer but a fault of the output,
-- behind which one of the feed may lie
abbrev pub HasFeedCause : Result RunEnd RunFault → ℕ → ℕ → Type 0
HasFeedCause (Ok end) before now = now ≡ before
HasFeedCause (Err fault.Feed) before now = HasRisen before now
HasFeedCause (Err (fault.Print stop.Out)) before now = before ≤ now
HasFeedCause (Err (fault.Print stop.Memory)) before now = now ≡ before
