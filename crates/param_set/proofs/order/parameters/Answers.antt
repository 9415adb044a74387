use Rattle.std.proofs.Common.{◌≡◌, ◌∙◌, ap, ℕ, List, Bor, map, rules}
use Rattle.std.proofs.lemmas.Fn.{always_returns_same}
use Rattle.std.specs.Cmp.Lexicographic.{nat_list_cmp_total}
use Rattle.mib_model.specs.declared.rows.PcfRow.{PcfRow}
use Rattle.mib_model.specs.Orders.{sorted_by}
use Rattle.mib_model.specs.Plans.{may_precede}
use Rattle.param_set.proofs.OrderFacts.{map-sorted, sorted-by-key}
use Rattle.param_set.proofs.order.parameters.Goals as goal

pub returns : goal.returns
returns c =
    let key : Bor PcfRow → List ℕ = λ row. row.now.name in
    let sorted = c.in_ok-sort_by_key.ensures.sorted key (always_returns_same _ (λ a r. r ≡ key a.0.now) _ (λ a r q k. search rules)) in
    let stable = c.in_ok-sort_by_key.ensures.stable key (always_returns_same _ (λ a r. r ≡ key a.0.now) _ (λ a r q k. search rules)) in
    let ordered : c.sort_by_key.new.self.items ≡ sorted_by (λ x y. may_precede x.now.name y.now.name) c.in_ok-ordered.ordered.items = sorted-by-key nat_list_cmp_total key c.in_ok-ordered.ordered.items c.sort_by_key.new.self.items sorted stable in
    ap (map (λ (row : Bor PcfRow). row.now)) ordered
    ∙ map-sorted (λ (row : Bor PcfRow). row.now) (λ x y. may_precede x.name y.name) c.in_ok-ordered.ordered.items
    ∙ ap (sorted_by (λ (x y : PcfRow). may_precede x.name y.name)) c.in_ok-ordered.ensures
