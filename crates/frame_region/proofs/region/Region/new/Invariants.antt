use Rattle.std.proofs.Common.{◌≡◌, ◌≤◌, length}
use Rattle.std.specs.Prelude.{All, vec_len, vec_capacity}
use Rattle.frame_region.proofs.region.Region.new.Given as goal

abbrev pub invariant-loop : goal.invariant-loop
invariant-loop g l = record {
  count : vec_len l.home ≡ l.counter;
  room : l.pieces ≤ vec_capacity l.home;
  sizes : All (λ piece. length piece ≡ l.size) l.home.items;
}
