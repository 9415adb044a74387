use Rattle.std.proofs.Common.{◌∙◌, ℕ, List, ap, sym, arith}
use Rattle.tm_audit.proofs.ShownFacts.{unknown-here, unknown-later, unknown-none}
use Rattle.tm_audit.specs.Shown as Spec
use Rattle.tm_audit.proofs.shown.first_unknown.Goals as goal

pub returns-then-is_unknown : goal.returns-then-is_unknown
returns-then-is_unknown c =
    let is = c.is_unknown.ensures in
    sym (c.loop-line.invariant.same ∙ (ap (λ (lines : List (List ℕ)). Spec.first_unknown c.args.count c.loop-line.number lines) c.in-Some.ensures.lines
    ∙ unknown-here c.args.count c.loop-line.number _ _ (sym is ∙ c.if-is_unknown.true)))

pub loop-line-preserved : goal.loop-line-preserved
loop-line-preserved c =
    let is = c.is_unknown.ensures in
    record {
      few = omega (arith, c.loop-line.invariant.few, c.in-Some.ensures.shorter);
      same = c.loop-line.invariant.same ∙ (ap (λ (lines : List (List ℕ)). Spec.first_unknown c.args.count c.loop-line.number lines) c.in-Some.ensures.lines
          ∙ unknown-later c.args.count c.loop-line.number _ _ (sym is ∙ c.if-is_unknown.false));
    }

pub returns : goal.returns
returns c =
    sym (c.loop-line.invariant.same ∙ (ap (λ (lines : List (List ℕ)). Spec.first_unknown c.args.count c.loop-line.number lines) c.in_default.ensures.none
    ∙ unknown-none c.args.count c.loop-line.number))
