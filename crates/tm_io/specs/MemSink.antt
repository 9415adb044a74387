-- What a sink in memory shows beyond the meanings of every sink.
use Rattle.std.specs.Prelude.{◌≡◌, ℕ, ◌≤◌, ◌+◌, Bool, true, List, Result, MatchResult, IfOk, vec_len}
use Rattle.tm_io.specs.Stops.{StopsBefore, without}
use Rattle.tm_io.specs.declared.mem_sink.MemSink.{MemSink}

-- how many octets it holds
abbrev pub position : MemSink → ℕ
position sink = vec_len sink.bytes

-- the positions at which writes to it still fail
abbrev pub stops : MemSink → List ℕ
stops sink = sink.fails.items

-- how many octets a write takes at most
abbrev pub most_of : MemSink → ℕ
most_of sink = sink.most

-- whether the next flush fails
abbrev pub fails_flush : MemSink → Bool
fails_flush sink = sink.fails_flush

-- the sink with a flush that is to fail
abbrev pub failing_flush : MemSink → MemSink
failing_flush sink = record sink { fails_flush = true }

-- a write goes on by what it took, and one that failed at a stop has used it up
pub record Writes {E : Type 0} (old new : MemSink) (result : Result ℕ E) : Type 0 where
  pub most : IfOk result (λ count. count ≤ most_of old)
  pub moves : MatchResult result (λ count. position new ≡ position old + count) (λ _. position new ≡ position old)
  pub before_stops : IfOk result (λ count. StopsBefore (stops old) (position old) count)
  pub spent : MatchResult result (λ _. stops new ≡ stops old) (λ _. stops new ≡ without (stops old) (position old))
  pub settings : (most_of new ≡ most_of old) × (fails_flush new ≡ fails_flush old)
