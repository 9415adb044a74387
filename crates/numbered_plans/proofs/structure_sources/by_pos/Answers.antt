use Rattle.std.proofs.Common.{◌≡◌, ℕ, [], List, pos, refl, rules, subst}
use Rattle.std.proofs.lemmas.Fn.{always_returns_same}
use Rattle.std.proofs.lemmas.List.Sorted.{IsNonDecreasingBy-from_sort_by_key}
use Rattle.std.specs.List.Sorted.{IsNonDecreasingBy, IsStableByKey}
use Rattle.std.specs.Ordering.{nat_cmp}
use Rattle.row_flaws.proofs.OrderFacts.{sorted-filter}
use Rattle.mib_model.specs.declared.rows.VpdRow.{VpdRow}
use Rattle.numbered_plans.proofs.structure_sources.by_pos.Goals as goal

pub returns : goal.returns
returns c = λ test.
    let sorted : List VpdRow = c.sort_by_key.new.self.items in
    let rises : IsNonDecreasingBy (λ (row : VpdRow). row.pos) sorted = IsNonDecreasingBy-from_sort_by_key (λ (row : VpdRow). row.pos) _ c.in_ok-sort_by_key.ensures.sorted (λ a r q k. search rules) in
    let stable : IsStableByKey (λ (row : VpdRow). row.pos) nat_cmp c.args.rows.now sorted = subst (λ (rows : List VpdRow). IsStableByKey (λ (row : VpdRow). row.pos) nat_cmp rows sorted) c.in_ok-sorted.ensures.items
    (c.in_ok-sort_by_key.ensures.stable (λ (row : VpdRow). row.pos) (always_returns_same _ (λ a r. r ≡ a.0.now.pos) _ (λ a r q k. search rules))) in
    sorted-filter (λ (row : VpdRow). row.pos) (λ (k : ℕ). record { tpsd = 0; pos = k; name = []; grpsize = 0; fixrep = 0; choice = 0; pidref = 0; offset = pos 0 }) (λ k. refl) test c.args.rows.now sorted rises stable
