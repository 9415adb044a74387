use Rattle.std.proofs.Common.{◌≡◌, ℕ, List, rules}
use Rattle.std.proofs.lemmas.Fn.{always_returns_same}
use Rattle.std.proofs.lemmas.List.Sorted.{IsNonDecreasingBy-from_sort_by_key}
use Rattle.std.specs.List.Sorted.{IsNonDecreasingBy, IsStableByKey}
use Rattle.std.specs.Ordering.{nat_cmp}
use Rattle.numbered_plans.proofs.NumberFacts.{sorted-numbers}
use Rattle.numbered_plans.proofs.order.in_order.Goals as goal

pub returns : goal.returns
returns c =
    let ordered : List ℕ = c.sort_by_key.new.self.items in
    let rises : IsNonDecreasingBy (λ (n : ℕ). n) ordered = IsNonDecreasingBy-from_sort_by_key (λ (n : ℕ). n) _ c.in_ok-sort_by_key.ensures.sorted (λ a r q k. search rules) in
    let stable : IsStableByKey (λ (n : ℕ). n) nat_cmp c.args.numbers.items ordered =
    c.in_ok-sort_by_key.ensures.stable (λ (n : ℕ). n) (always_returns_same _ (λ a r. r ≡ a.0.now) _ (λ a r q k. search rules)) in
    sorted-numbers c.args.numbers.items ordered rises stable
