use Rattle.std.proofs.Common.{◌≡◌, ◌≤◌, ◌-◌, length, vec_len}
use Rattle.std.specs.Io.KnownBytes.{Consumes}
use Rattle.whole_texts.proofs.reading.read_into.Given as goal

abbrev pub invariant-loop-text : goal.invariant-loop-text
invariant-loop-text g l = record {
  room : 1 ≤ length l.chunk;
  most : vec_len l.text ≤ l.initial.most;
  octets : Consumes (g.S.Source.left l.initial.source) (g.S.Source.left l.source) l.text.items;
  faults : g.S.Source.faults l.source ≡ g.S.Source.faults l.initial.source;
  holds : g.S.Source.holds l.source ≡ g.S.Source.holds l.initial.source;
  missed : g.S.Source.missed l.source ≡ g.S.Source.missed l.initial.source;
}

abbrev pub decreases-loop-text : goal.decreases-loop-text
decreases-loop-text g l = l.initial.most - vec_len l.text
