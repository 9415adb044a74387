use Rattle.std.proofs.Common.{rules}
use Rattle.check_plan.proofs.CalmFacts.{calm-set}
use Rattle.check_plan.proofs.check_set.CheckSet.compile.Goals as goal

pub returns : goal.returns
returns c = record {
  limits = search rules;
  asked = c.in_ok-apart.ensures.asked;
  states = c.in_ok-apart.ensures.states;
  calm = calm-set _ (search rules) c.of.ensures.alone;
}
