use Rattle.std.proofs.Common.{◌≤◌, ◌<◌, ◌+◌, ℕ, get_or}
use Rattle.tm_io.proofs.stops.count_to_stop.Given as goal

abbrev pub invariant-loop-stop : goal.invariant-loop-stop
invariant-loop-stop l = record {
  bound : l.fitting ≤ l.count;
  before : (k : ℕ) → k < l.stop-index → l.at < get_or l.stops k 0 → l.at + l.fitting ≤ get_or l.stops k 0;
  some : 0 < l.count → 0 < l.fitting;
}
