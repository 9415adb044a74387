use Rattle.std.proofs.Common.{◌≡◌, ◌+◌, ◌-◌, ◌*◌, ◌/◌, ◌^◌, ◌++◌, take, length}
use Rattle.mib_model.specs.RawTexts.{hex_text}
use Rattle.line_text.proofs.octets.add_digits.Given as goal

abbrev pub invariant-loop-i : goal.invariant-loop-i
invariant-loop-i l = record {
  text : take l.end l.line ≡ take l.used l.initial.line ++ hex_text l.i (l.number / 2 ^ (4 * (l.digits - l.i)));
  room : l.end ≡ l.used + l.i;
  kept : length l.line ≡ length l.initial.line;
}
