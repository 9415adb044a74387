use Rattle.std.proofs.Common.{◌≡◌, ◌-◌, ◌++◌, replicate}
use Rattle.mib_rows.proofs.line_writer.LineWriter.go.Given as goal

abbrev pub invariant-loop-i : goal.invariant-loop-i
invariant-loop-i l = record {
  tabs : l.self.line.items ≡ l.initial.self.line.items ++ replicate (l.i - l.initial.self.at) 9;
  still : l.self.at ≡ l.initial.self.at;
}
