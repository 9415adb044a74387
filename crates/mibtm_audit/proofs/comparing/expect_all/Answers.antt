use Rattle.std.proofs.Common.{◌∙◌, refl}
use Rattle.mibtm_audit.proofs.RunFacts.{compares, goes-on, goes-start, underway-on}
use Rattle.mibtm_audit.proofs.comparing.expect_all.Goals as goal

pub loop-code-init : goal.loop-code-init
loop-code-init g c = record {
  room = c.requires.room;
  underway = c.requires.underway;
  goes = λ a stands. goes-start a c.args.audit.now _ stands;
  faults = refl;
  missed = refl;
  borrow = refl;
}

pub returns-in-Some-clause-compares : goal.returns-in-Some-clause-compares
returns-in-Some-clause-compares g c a stands =
    let goes = c.loop-code.invariant.goes a stands in
    compares a c.loop-code.audit _ _ _ goes c.in-Some.code c.expect_next.new.audit (c.in-Some.ensures.comes a _ goes.stands)

pub loop-code-preserved : goal.loop-code-preserved
loop-code-preserved g c =
    let inv = c.loop-code.invariant in record {
      room = c.expect_next.auto.buffer ∙ inv.room;
      underway = underway-on c.loop-code.audit c.expect_next.new.audit _ _ inv.underway (λ a packets stands. c.in_default.ensures.comes a packets stands);
      goes = λ a stands. let goes = inv.goes a stands in goes-on a c.loop-code.audit _ _ _ goes c.expect_next.new.audit (c.in_default.ensures.comes a _ goes.stands);
      faults = c.in_default.ensures.cause ∙ inv.faults;
      missed = c.expect_next.ensures.missed ∙ inv.missed;
      borrow = c.expect_next.ensures.borrow ∙ inv.borrow;
    }
