-- Rows and what they were compiled to.
use Rattle.std.proofs.Common.{◌≡◌, ℕ, ◌+◌, ◌<◌, List, [], ◌∷◌, map, length, drop, get_or, sym, ap, ◌∙◌, arith}
use Rattle.std.proofs.lemmas.List.{drop_more, get_or-map}
use Rattle.mib_model.specs.declared.plan.TypeItem.{TypeItem}
use Rattle.mib_model.specs.declared.rows.VpdRow.{VpdRow}
use Rattle.struct_plan.specs.declared.entry.StructureRow.{StructureRow}
use Rattle.struct_plan.specs.Entries.{entry_of}
use Rattle.struct_plan.specs.Groups.{first_size, size_at}

abbrev pub head_or : List VpdRow → VpdRow → VpdRow
head_or [] d = d
head_or (x ∷ xs) d = x

-- the entry at a place is that of the row there
pub entry-row : (types : List TypeItem) (rows : List VpdRow) (entries : List StructureRow) (at : ℕ) (e : StructureRow) → at < length rows → entries ≡ map (entry_of types) rows → e ≡ get_or entries at e → (row : VpdRow) (rest : List VpdRow) → drop at rows ≡ row ∷ rest → e ≡ entry_of types row
entry-row types rows entries at e lt is read row rest here =
    let first : List VpdRow → VpdRow = λ xs. head_or xs row in
    let same : get_or rows at row ≡ row = ap first (sym (drop_more rows at row lt) ∙ here) in
    read ∙ (ap (λ (es : List StructureRow). get_or es at e) is ∙ (get_or-map (entry_of types) rows at row e lt ∙ ap (entry_of types) same))

-- and its size is that of the row's group
pub entry-size : (types : List TypeItem) (rows : List VpdRow) (entries : List StructureRow) (at : ℕ) (e : StructureRow) → at < length rows → entries ≡ map (entry_of types) rows → e ≡ get_or entries at e → e.size ≡ size_at rows at
entry-size types [] entries at e lt is read = absurd (omega (arith, lt))
entry-size types (d ∷ ds) entries at e lt is read =
    let rows : List VpdRow = d ∷ ds in
    let row : VpdRow = get_or rows at d in
    let here : drop at rows ≡ row ∷ drop (at + 1) rows = drop_more rows at d lt in
    ap (λ (x : StructureRow). x.size) (entry-row types rows entries at e lt is read row (drop (at + 1) rows) here) ∙ sym (ap first_size here)
