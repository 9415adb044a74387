-- Type items of rows that are taken one after the other.
use Rattle.std.proofs.Common.{◌≡◌, ℕ, ◌+◌, ◌<◌, List, [], ◌∷◌, ◌++◌, take, length, get_or, map, ap, ◌∙◌, sym}
use Rattle.std.proofs.lemmas.List.{map-append, take_more}
use Rattle.std.proofs.lemmas.List.Elements.{filter_map-append}
use Rattle.mib_model.specs.declared.rows.PcfRow.{PcfRow}
use Rattle.type_items.specs.Items.{item_of, items_of}

-- the type items of the names of one row more
pub items-more : {R : Type 0} (name_of : R → List ℕ) (pcfs : List PcfRow) (rows : List R) (i : ℕ) (row : R) → i < length rows → row ≡ get_or rows i row
    → items_of pcfs (map name_of (take (i + 1) rows)) ≡ items_of pcfs (map name_of (take i rows)) ++ items_of pcfs (name_of row ∷ [])
items-more name_of pcfs rows i row below is =
    ap (λ rs. items_of pcfs (map name_of rs)) (take_more rows i row below)
    ∙ ap (items_of pcfs) (map-append name_of (take i rows) (get_or rows i row ∷ []))
    ∙ filter_map-append (item_of pcfs) (map name_of (take i rows)) (map name_of (get_or rows i row ∷ []))
    ∙ ap (λ r. items_of pcfs (map name_of (take i rows)) ++ items_of pcfs (name_of r ∷ [])) (sym is)
