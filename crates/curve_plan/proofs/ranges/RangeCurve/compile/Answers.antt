use Rattle.std.proofs.Common.{◌≡◌, ◌∙◌, IsPermutation, refl, subst, ap, filter_map}
use Rattle.std.specs.List.{find}
use Rattle.curve_plan.specs.Ranges.{AreSeparate, holds_raw, range_of}
use Rattle.curve_plan.proofs.RangeFacts.{separate-same}
use Rattle.curve_plan.proofs.ranges.RangeCurve.compile.Goals as goal

pub returns-then-are_separate-clause-ranges : goal.returns-then-are_separate-clause-ranges
returns-then-are_separate-clause-ranges c = λ raw.
    let xs = c.sort_by_key.new.self.items in
    let moved : IsPermutation c.in_ok-ascending.ascending.items xs = c.sort_by_key.ensures.permutation in
    let kept : c.in_ok-ascending.ascending.items ≡ filter_map range_of c.args.txps.now = c.in_ok-ascending.ensures.items ∙ (c.deref.ensures.value ∙ c.in_ok-ranges.ensures) in
    separate-same raw xs c.in_ok-ascending.ascending.items moved (subst AreSeparate c.deref-4.ensures.value (c.if-are_separate.ensures refl)) ∙ ap (find (holds_raw raw)) kept
