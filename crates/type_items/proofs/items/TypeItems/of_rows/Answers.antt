use Rattle.std.proofs.Common.{ℕ, List, ◌++◌, ◌∷◌, [], ◌∙◌, ap, map, sym, take}
use Rattle.mib_model.specs.declared.plan.TypeItem.{TypeItem}
use Rattle.type_items.specs.Items.{items_of}
use Rattle.type_items.proofs.RowFacts.{items-more}
use Rattle.type_items.proofs.items.TypeItems.of_rows.Goals as goal

pub loop-row-preserved : goal.loop-row-preserved
loop-row-preserved g c =
    c.in_ok-add.ensures
    ∙ ap (λ (items : List TypeItem). items ++ items_of c.args.self.now (c.name.result ∷ [])) c.loop-row.invariant
    ∙ ap (λ (name : List ℕ). items_of c.args.self.now (map g.R.Named.name_of (take c.loop-row.row-index c.args.rows.now)) ++ items_of c.args.self.now (name ∷ [])) c.name.ensures
    ∙ sym (items-more g.R.Named.name_of c.args.self.now c.args.rows.now c.loop-row.row-index c.row-item.result c.loop-row-test.true c.row-item.is)
