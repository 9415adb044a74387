use Rattle.std.proofs.Common.{◌≡◌, ◌+◌, ◌≤◌, length}
use Rattle.tm_audit.specs.Shown as Spec
use Rattle.tm_audit.specs.TextLines.{text_lines}
use Rattle.tm_audit.proofs.shown.first_unknown.Given as goal

abbrev pub decreases-loop-line : goal.decreases-loop-line
decreases-loop-line l = length l.rest

abbrev pub invariant-loop-line : goal.invariant-loop-line
invariant-loop-line l = record {
  few : l.number + length l.rest ≤ 1 + length l.text;
  same : Spec.first_unknown l.count 1 (text_lines l.text) ≡ Spec.first_unknown l.count l.number (text_lines l.rest);
}
