use Rattle.std.proofs.Common.{◌≡◌, ◌≤◌, ◌+◌, ◌*◌, ◌++◌, take, length}
use Rattle.std.specs.List.{flat_map}
use Rattle.mib_model.specs.RawTexts.{octets_at}
use Rattle.line_text.proofs.octets.add_shifted.Given as goal

abbrev pub invariant-loop-k : goal.invariant-loop-k
invariant-loop-k g l = record {
  text : take l.end l.line ≡ take l.used l.initial.line ++ flat_map g.S.Spelling.spelled (octets_at l.packet l.at l.k);
  room : l.end ≤ l.used + 4 * l.k;
  kept : length l.line ≡ length l.initial.line;
}
