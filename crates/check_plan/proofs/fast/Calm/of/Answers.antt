use Rattle.check_plan.specs.Calms.{is_in, may_tell}
use Rattle.check_plan.proofs.CalmFacts.{none-more}
use Rattle.check_plan.proofs.fast.Calm.of.Goals as goal

pub loop-limit-preserved : goal.loop-limit-preserved
loop-limit-preserved c count there =
    none-more (may_tell count) c.args.limits.now c.loop-limit.limit-index _ c.loop-limit-test.true (is_in c.loop-limit.calm count) (is_in c.narrowed-calm.result count)
    (c.narrowed-calm.ensures count) there (c.loop-limit.invariant count)
