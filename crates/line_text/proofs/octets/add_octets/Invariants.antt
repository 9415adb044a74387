use Rattle.std.proofs.Common.{◌≡◌, ◌≤◌, ◌+◌, ◌*◌, ◌++◌, take, length}
use Rattle.std.specs.List.{flat_map}
use Rattle.line_text.proofs.octets.add_octets.Given as goal

abbrev pub invariant-loop-octet : goal.invariant-loop-octet
invariant-loop-octet g l = record {
  text : take l.end l.line ≡ take l.used l.initial.line ++ flat_map g.S.Spelling.spelled (take l.octet-index l.octets);
  room : l.end ≤ l.used + 4 * l.octet-index;
  kept : length l.line ≡ length l.initial.line;
}
