-- The places of a layout, row by row and span by span.
use Rattle.std.proofs.Common.{◌≡◌, ℕ, ◌+◌, ◌<◌, List, [], ◌∷◌, ◌++◌, take, length, get_or, Option, option_and_then, refl, sym, ap, ◌∙◌}
use Rattle.std.proofs.lemmas.Grind.{flat_map-append}
use Rattle.std.proofs.lemmas.List.{append-nil, take_more}
use Rattle.mib_model.specs.declared.plan.TypeItem.{TypeItem}
use Rattle.mib_model.specs.declared.rows.PlfRow.{PlfRow}
use Rattle.mib_model.specs.Encodings.{Encoding}
use Rattle.mib_model.specs.Fixed.{Place, occurrences}
use Rattle.mib_model.specs.Layouts.{item_named, item_encoding, layout_places}
use Rattle.layout_plan.specs.Turns.{Turns}
use Rattle.layout_plan.specs.Spans.{span_places, spans_places}

-- what a row's bits are, by type items
abbrev encoding_in : List TypeItem → PlfRow → Option Encoding
encoding_in types row = option_and_then item_encoding (item_named types row.name)

-- no rows
pub layout_places-none : (types : List TypeItem) → layout_places [] types ≡ []
unfolding layout_places
layout_places-none types = refl

-- one row more
layout_places-more : (plfs : List PlfRow) (types : List TypeItem) (i : ℕ) (row : PlfRow) → i < length plfs → row ≡ get_or plfs i row → layout_places (take (i + 1) plfs) types ≡ layout_places (take i plfs) types ++ occurrences row (encoding_in types row)
unfolding layout_places
layout_places-more plfs types i row below is =
    let places : PlfRow → List Place = λ r. occurrences r (encoding_in types r) in
    let all : List PlfRow → List Place = λ rows. layout_places rows types in
    let behind : List Place → List Place = λ rest. layout_places (take i plfs) types ++ rest in
    let last : PlfRow → List Place = λ r. behind (places r) in
    ap all (take_more plfs i row below) ∙ (flat_map-append places (take i plfs) (get_or plfs i row ∷ []) ∙ (ap behind (append-nil (places (get_or plfs i row))) ∙ ap last (sym is)))

-- a span more
pub spans_places-push : (spans : List Turns) (span : Turns) → spans_places (spans ++ span ∷ []) ≡ spans_places spans ++ span_places span
spans_places-push spans span = flat_map-append span_places spans (span ∷ []) ∙ ap (λ (rest : List Place). spans_places spans ++ rest) (append-nil (span_places span))

-- the spans of one row more
pub places-added : (old new : List Place) (plfs : List PlfRow) (types : List TypeItem) (i : ℕ) (row : PlfRow) → i < length plfs → row ≡ get_or plfs i row → new ≡ old ++ occurrences row (encoding_in types row) → old ≡ layout_places (take i plfs) types → new ≡ layout_places (take (i + 1) plfs) types
places-added old new plfs types i row below is added so_far =
    let behind : List Place → List Place = λ places. places ++ occurrences row (encoding_in types row) in
    added ∙ (ap behind so_far ∙ sym (layout_places-more plfs types i row below is))
