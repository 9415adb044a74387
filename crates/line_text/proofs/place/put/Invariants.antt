use Rattle.std.proofs.Common.{◌≡◌, ◌+◌, ◌++◌, take, length}
use Rattle.line_text.proofs.place.put.Given as goal

abbrev pub invariant-loop-i : goal.invariant-loop-i
invariant-loop-i g l = record {
  text : take (l.at + l.i) l.octets ≡ take l.at l.initial.octets ++ take l.i l.word;
  kept : length l.octets ≡ length l.initial.octets;
}
