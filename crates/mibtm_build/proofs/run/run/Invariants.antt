use Rattle.std.proofs.Common.{◌≡◌, ◌+◌, ◌-◌, length}
use Rattle.build_rules.specs.Building.{octets_most}
use Rattle.desk_lines.specs.Reader.{reading_of, source_of}
use Rattle.desk_lines.specs.declared.reader.TheConstants.{LINE_ROOM}
use Rattle.mibtm_build.specs.Runs.{Goes, standing_of}
use Rattle.mibtm_build.proofs.run.run.Given as goal

abbrev pub invariant-loop-code : goal.invariant-loop-code
invariant-loop-code g l = record {
  number : l.number ≡ (reading_of l.reader).lines + 1;
  line : length l.line ≡ LINE_ROOM;
  packet : length l.packet ≡ octets_most;
  builder : l.builder ≡ l.initial.builder;
  goes : Goes l.builder (standing_of g.D.Source.left g.O.Sink.written l.initial.reader l.initial.out) (standing_of g.D.Source.left g.O.Sink.written l.reader l.out);
  asks : g.D.Source.faults (source_of l.reader) ≡ g.D.Source.faults (source_of l.initial.reader);
  output : g.O.Sink.faults l.out ≡ g.O.Sink.faults l.initial.out;
  handed : g.O.Sink.handed l.out ≡ g.O.Sink.handed l.initial.out;
  missed : g.D.Source.missed (source_of l.reader) ≡ g.D.Source.missed (source_of l.initial.reader);
  borrow : g.D.Source.borrow (source_of l.reader) ≡ g.D.Source.borrow (source_of l.initial.reader);
}

abbrev pub decreases-loop-code : goal.decreases-loop-code
decreases-loop-code g l = 1000001 - (reading_of l.reader).lines
