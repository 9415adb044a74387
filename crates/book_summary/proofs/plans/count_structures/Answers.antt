use Rattle.std.proofs.Common.{◌∙◌, ap, sym, length, map, arith}
use Rattle.std.proofs.lemmas.Cmp.{nat_cmp_total}
use Rattle.std.proofs.lemmas.List.{length-map}
use Rattle.std.proofs.lemmas.Map.Views.{btree_set_len-from_list, btree_set_len-le_from_list}
use Rattle.mib_model.specs.declared.rows.VpdRow.{VpdRow}
use Rattle.book_summary.proofs.RowFacts.{distinct-unique}
use Rattle.book_summary.proofs.plans.count_structures.Goals as goal

pub returns-clause-count : goal.returns-clause-count
returns-clause-count c =
    let ns = map (λ (row : VpdRow). row.tpsd) c.args.rows.now in
    c.len.ensures.len ∙ (btree_set_len-from_list nat_cmp_total ns _ c.in_ok-structures.ensures ∙ ap length (sym (distinct-unique ns)))

pub returns-clause-within : goal.returns-clause-within
returns-clause-within c =
    let ns = map (λ (row : VpdRow). row.tpsd) c.args.rows.now in
    let few = length-map c.args.rows.now (λ (row : VpdRow). row.tpsd) in
    let kept = btree_set_len-le_from_list nat_cmp_total ns _ c.in_ok-structures.ensures in
    omega (arith, few, kept, c.len.ensures.len)
