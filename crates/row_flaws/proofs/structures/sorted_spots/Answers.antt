use Rattle.std.proofs.Common.{◌≡◌, rules, subst}
use Rattle.std.proofs.lemmas.Fn.{always_returns_same}
use Rattle.std.proofs.lemmas.List.Sorted.{IsNonDecreasingBy-from_sort_by_key}
use Rattle.std.specs.List.Sorted.{IsStableByKey}
use Rattle.std.specs.Ordering.{nat_cmp}
use Rattle.row_flaws.specs.declared.structures.Spot.{Spot}
use Rattle.row_flaws.proofs.structures.sorted_spots.Goals as goal

pub returns : goal.returns
returns c = record {
  rises = IsNonDecreasingBy-from_sort_by_key (λ (spot : Spot). spot.pos) _ c.in_ok-sort_by_key.ensures.sorted (λ a r q k. search rules);
  stable = subst (λ rows. IsStableByKey (λ (spot : Spot). spot.pos) nat_cmp rows c.sort_by_key.new.self.items) c.in_ok-spots.ensures
      (c.in_ok-sort_by_key.ensures.stable (λ (spot : Spot). spot.pos) (always_returns_same _ (λ a r. r ≡ a.0.now.pos) _ (λ a r q k. search rules)));
}
