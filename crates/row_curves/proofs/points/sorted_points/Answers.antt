use Rattle.std.proofs.Common.{◌≡◌, rules, ap, ◌∙◌}
use Rattle.std.proofs.lemmas.Fn.{always_returns_same}
use Rattle.mib_model.specs.Points.{knots}
use Rattle.mib_model.specs.Orders.{sorted_by}
use Rattle.dec_num.specs.declared.curve.Point.{Point}
use Rattle.row_curves.proofs.PointFacts.{first_knot, sorted-points}
use Rattle.row_curves.proofs.points.sorted_points.Goals as goal

pub returns : goal.returns
unfolding knots
returns c =
    let computes = always_returns_same _ (λ a r. r ≡ a.0.now.x) _ (λ a r q k. search rules) in
    sorted-points _ _ (c.in_ok-sort_by_key.ensures.sorted (λ (p : Point). p.x) computes) (c.in_ok-sort_by_key.ensures.stable (λ (p : Point). p.x) computes) ∙
    ap (sorted_by first_knot) c.in_ok-points.ensures
