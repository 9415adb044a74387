-- Parameters with the same type items give names the same type items.
use Rattle.std.proofs.Common.{◌≡◌, ℕ, List, map, filter_map, sym, ap, ◌∙◌}
use Rattle.std.specs.List.{find}
use Rattle.std.specs.Str.{bytes_eq}
use Rattle.mib_model.specs.declared.plan.TypeItem.{TypeItem}
use Rattle.mib_model.specs.declared.rows.PcfRow.{PcfRow}
use Rattle.mib_model.specs.Plans.{type_item}
use Rattle.type_items.proofs.FindFacts.{find-item}
use Rattle.type_items.specs.Items.{items_of}

found-by : (pcfs : List PcfRow) (names : List (List ℕ)) → items_of pcfs names ≡ filter_map (λ name. find (λ (item : TypeItem). bytes_eq item.name name) (map type_item pcfs)) names
found-by pcfs names = λ i. filter_map (λ name. sym (find-item name pcfs) i) names

-- the type items of names depend on those of the parameters alone
pub items-alike : (old new : List PcfRow) → map type_item old ≡ map type_item new → (names : List (List ℕ)) → items_of old names ≡ items_of new names
items-alike old new same names =
    found-by old names
    ∙ ap (λ (items : List TypeItem). filter_map (λ name. find (λ (item : TypeItem). bytes_eq item.name name) items) names) same
    ∙ sym (found-by new names)
