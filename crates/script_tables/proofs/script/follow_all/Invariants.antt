use Rattle.std.proofs.Common.{◌≡◌, ◌-◌, length}
use Rattle.desk_lines.specs.Reader.{reading_of, source_of}
use Rattle.desk_lines.specs.declared.reader.TheConstants.{LINE_ROOM}
use Rattle.script_tables.proofs.ScriptFacts.{Follows}
use Rattle.script_tables.proofs.script.follow_all.Given as goal

abbrev pub invariant-loop : goal.invariant-loop
invariant-loop g l = record {
  buffer : length l.buffer ≡ LINE_ROOM;
  follows : Follows (g.D.Source.left (source_of l.initial.reader)) (g.D.Source.left (source_of l.reader)) (reading_of l.initial.reader) (reading_of l.reader) l.initial.saving l.saving;
  faults : g.D.Source.faults (source_of l.reader) ≡ g.D.Source.faults (source_of l.initial.reader);
  holds : g.D.Source.holds (source_of l.reader) ≡ g.D.Source.holds (source_of l.initial.reader);
  missed : g.D.Source.missed (source_of l.reader) ≡ g.D.Source.missed (source_of l.initial.reader);
  borrow : g.D.Source.borrow (source_of l.reader) ≡ g.D.Source.borrow (source_of l.initial.reader);
}

abbrev pub decreases-loop : goal.decreases-loop
decreases-loop g l = 1000001 - (reading_of l.reader).lines
