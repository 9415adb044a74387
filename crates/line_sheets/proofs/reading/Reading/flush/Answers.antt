use Rattle.std.proofs.Common.{length}
use Rattle.line_sheets.proofs.LyingFacts.{held-within}
use Rattle.line_sheets.proofs.reading.Reading.flush.Goals as goal

pub part-octets-requires-clause-within : goal.part-octets-requires-clause-within
part-octets-requires-clause-within c =
    let left = c.self.inside in
    held-within left.from left.events.now left.raws.now left.counts.now (length left.text.now) c.self.invariant.0
