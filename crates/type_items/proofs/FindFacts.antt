-- The type item of a name among the type items of parameters.
use Rattle.std.proofs.Common.{◌≡◌, ℕ, Bool, true, false, List, [], ◌∷◌, map, Option, Some, refl, if◌then◌else◌}
use Rattle.std.specs.Prelude.{option_and_then}
use Rattle.std.specs.List.{find}
use Rattle.std.specs.Str.{bytes_eq}
use Rattle.mib_model.specs.declared.plan.TypeItem.{TypeItem}
use Rattle.mib_model.specs.declared.rows.PcfRow.{PcfRow}
use Rattle.mib_model.specs.Plans.{type_item}
use Rattle.type_items.specs.Items.{item_of}

-- one more, which is of the name or isn't
one-more : (b : Bool) (row : PcfRow) (item : Option TypeItem) (rest : Option PcfRow) → item ≡ option_and_then (λ r. Some (type_item r)) rest
    → (if b then Some (type_item row) else item) ≡ option_and_then (λ r. Some (type_item r)) (if b then Some row else rest)
one-more true row item rest is = refl
one-more false row item rest is = is

-- the first type item of a name is that of the first parameter of the name
pub find-item : (name : List ℕ) (pcfs : List PcfRow) → find (λ (item : TypeItem). bytes_eq item.name name) (map type_item pcfs) ≡ item_of pcfs name
find-item name [] = refl
find-item name (row ∷ pcfs) = one-more (bytes_eq row.name name) row _ _ (find-item name pcfs)
