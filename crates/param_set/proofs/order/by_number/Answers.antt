use Rattle.std.proofs.Common.{◌∙◌}
use Rattle.std.specs.Cmp.{nat_cmp_total}
use Rattle.param_set.proofs.OrderFacts.{by-number, sorted-by-key}
use Rattle.param_set.proofs.order.by_number.Goals as goal

pub returns : goal.returns
returns g c = λ key computes.
    let sorted = c.in_ok-sort_by_key.ensures.sorted key computes in
    let stable = c.in_ok-sort_by_key.ensures.stable key computes in
    sorted-by-key nat_cmp_total key c.args.rows.items c.sort_by_key.new.self.items sorted stable ∙ by-number key c.args.rows.items
