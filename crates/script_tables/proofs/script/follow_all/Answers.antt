use Rattle.std.proofs.Common.{◌∙◌}
use Rattle.script_tables.proofs.ScriptFacts.{follows-end, follows-more, stepped}
use Rattle.script_tables.proofs.script.follow_all.Goals as goal

pub loop-preserved : goal.loop-preserved
loop-preserved g c = record {
  buffer = c.follow_next.ensures.buffer;
  follows = follows-more _ _ _ _ _ _ _ _ _ c.loop.invariant.follows (stepped _ _ _ _ _ _ _ c.if-branch.true c.in_ok-follow_next.ensures.steps);
  faults = c.in_ok-follow_next.ensures.ok ∙ c.loop.invariant.faults;
  holds = c.follow_next.ensures.holds ∙ c.loop.invariant.holds;
  missed = c.follow_next.ensures.missed ∙ c.loop.invariant.missed;
  borrow = c.follow_next.ensures.borrow ∙ c.loop.invariant.borrow;
}

pub returns-clause-followed : goal.returns-clause-followed
returns-clause-followed g c = follows-end _ _ _ _ _ _ _ _ _ _ c.if-branch.false c.loop.invariant.follows c.in_ok-follow_next.ensures.steps
