use Rattle.line_sheets.proofs.LyingFacts.{pass-view}
use Rattle.line_sheets.proofs.reading.Reading.pass.Goals as goal

pub returns-clause-passed : goal.returns-clause-passed
returns-clause-passed c =
    let left = c.self.inside in
    pass-view left.text.now left.written left.from left.events.now left.raws.now left.counts.now c.self.invariant.0 c.self.invariant.1 c.args.self.now c.self.view_is
    c.in_ok-first.others.now c.other_raws-self-inside.result.now c.other_counts-self-inside.result.now c.in_ok-first.first.now c.first_raw.result c.first_count.result c.work_of-work.result
    c.in_ok-first.ensures.cases.0 c.other_raws-self-inside.ensures c.other_counts-self-inside.ensures c.work_of-work.ensures.act c.first_raw.ensures c.first_count.ensures
