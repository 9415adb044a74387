-- A row of plf, compiled: its occurrences at equal distances. [SCOS-2000 Database Import ICD, plf.]
use Rattle.std.specs.Prelude.{ℕ, ◌+◌, ◌*◌, List, map}
use Rattle.std.specs.List.{flat_map, range_with_len}
use Rattle.mib_model.specs.Fixed.{Place}
use Rattle.layout_plan.specs.Turns.{Turns}

-- the k-th place of a span, k from 0 on
abbrev pub place_in : Turns → ℕ → Place
place_in span k = record { name = span.name; at = span.first + k * span.step; shape = span.shape }

-- the first places of a span, so many
abbrev pub first_places : Turns → ℕ → List Place
first_places span count = map (place_in span) (range_with_len 0 count)

-- the places of a span
abbrev pub span_places : Turns → List Place
span_places span = first_places span span.count

-- the places of spans, one after the other
abbrev pub spans_places : List Turns → List Place
spans_places = flat_map span_places
