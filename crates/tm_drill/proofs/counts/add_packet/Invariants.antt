use Rattle.std.proofs.Common.{◌≡◌, ℕ, ◌+◌, ◌<◌, ◌≤◌, slice_index}
use Rattle.std.specs.Prelude.{if◌then◌else◌}
use Rattle.tm_drill.specs.Counts.{is_packet}
use Rattle.tm_drill.proofs.counts.add_packet.Given as goal

abbrev pub invariant-loop-place : goal.invariant-loop-place
invariant-loop-place l = record {
  counted : (k : ℕ) → k < l.place → slice_index l.packets k ≡ slice_index l.initial.packets k + (if is_packet (k + 1) l.line then 1 else 0);
  left : (k : ℕ) → l.place ≤ k → slice_index l.packets k ≡ slice_index l.initial.packets k;
}
