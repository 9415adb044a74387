-- Reading places one after the other.
use Rattle.std.proofs.Common.{◌≡◌, ℕ, ◌+◌, ◌*◌, ◌≤◌, ◌<◌, List, [], ◌∷◌, ◌++◌, take, drop, length, get_or, Option, Some, None, refl, sym, ap, ◌∙◌, subst, arith}
use Rattle.std.proofs.lemmas.List.{append_assoc, append-nil, take_more, take-append-drop}
use Rattle.std.proofs.lemmas.Grind.{flat_map-append}
use Rattle.std.proofs.lemmas.List.FromFn.{map-range_with_len_more, take-map-range_with_len}
use Rattle.mib_model.specs.declared.packet.Ended.{Ended}
use Rattle.mib_model.specs.Fixed.{Place}
use Rattle.bit_field.specs.declared.values.Values.{Values}
use Rattle.bit_field.specs.Taken.{taken}
use Rattle.layout_plan.specs.Turns.{Turns}
use Rattle.layout_plan.specs.Readings.{Reads, whole_read}
use Rattle.layout_plan.specs.Spans.{place_in, first_places, span_places, spans_places}

-- no places
pub reads-none : (packet : List ℕ) (values : Values) → Reads packet [] None values values
reads-none packet values = λ rest. refl

-- places behind places
pub reads-append : (packet : List ℕ) (before after : List Place) (ended : Option Ended) (old middle new : Values) → Reads packet before None old middle → Reads packet after ended middle new → Reads packet (before ++ after) ended old new
reads-append packet before after ended old middle new first second = λ rest.
    let whole : List Place → _ = λ places. whole_read packet None (taken old) old.used places in
    ap whole (append_assoc before after rest) ∙ (first (after ++ rest) ∙ second rest)

-- an end is that of more places too
pub reads-ended : (packet : List ℕ) (places more : List Place) (ended : Ended) (old new : Values) → Reads packet places (Some ended) old new → Reads packet (places ++ more) (Some ended) old new
reads-ended packet places more ended old new reads = λ rest.
    let whole : List Place → _ = λ all. whole_read packet None (taken old) old.used all in
    ap whole (append_assoc places more rest) ∙ reads (more ++ rest)

-- one place of a span more
pub first_places-more : (span : Turns) (k : ℕ) → first_places span (k + 1) ≡ first_places span k ++ place_in span k ∷ []
first_places-more span k = map-range_with_len_more (place_in span) 0 k k (omega arith)

-- the first places of a span and the others
pub span_places-split : (span : Turns) (k : ℕ) → k ≤ span.count → first_places span k ++ drop k (span_places span) ≡ span_places span
span_places-split span k few =
    let split : List Place → List Place = λ front. front ++ drop k (span_places span) in
    ap split (sym (take-map-range_with_len (place_in span) 0 span.count k few)) ∙ take-append-drop k (span_places span)

-- what stands at a place of its own is the next of a span
pub reads-next : (packet : List ℕ) (span : Turns) (k at : ℕ) (ended : Option Ended) (old middle new : Values) → Reads packet (first_places span k) None old middle → at ≡ span.first + k * span.step → Reads packet (record { name = span.name; at = at; shape = span.shape } ∷ []) ended middle new → Reads packet (first_places span (k + 1)) ended old new
reads-next packet span k at ended old middle new before is here =
    let read : List Place → Type 0 = λ places. Reads packet places ended old new in
    let placed : ℕ → Type 0 = λ n. Reads packet (record { name = span.name; at = n; shape = span.shape } ∷ []) ended middle new in
    subst read (sym (first_places-more span k)) (reads-append packet (first_places span k) (place_in span k ∷ []) ended old middle new before (subst placed is here))

-- what stands at the only place of a span
pub reads-only : (packet : List ℕ) (span : Turns) (at : ℕ) (ended : Option Ended) (old new : Values) → span.count ≡ 1 → at ≡ span.first → Reads packet (record { name = span.name; at = at; shape = span.shape } ∷ []) ended old new → Reads packet (span_places span) ended old new
reads-only packet span at ended old new one is here =
    let read : ℕ → Type 0 = λ count. Reads packet (first_places span count) ended old new in
    let first : at ≡ span.first + 0 * span.step = omega (arith, is) in
    subst read (sym one) (reads-next packet span 0 at ended old old new (reads-none packet old) first here)

-- an end within a span is that of the span
pub reads-span : (packet : List ℕ) (span : Turns) (k : ℕ) (ended : Ended) (old new : Values) → k ≤ span.count → Reads packet (first_places span k) (Some ended) old new → Reads packet (span_places span) (Some ended) old new
reads-span packet span k ended old new few reads =
    let read : List Place → Type 0 = λ places. Reads packet places (Some ended) old new in
    subst read (span_places-split span k few) (reads-ended packet (first_places span k) (drop k (span_places span)) ended old new reads)

-- one span more
spans-more : (spans : List Turns) (i : ℕ) (span : Turns) → i < length spans → span ≡ get_or spans i span → spans_places (take (i + 1) spans) ≡ spans_places (take i spans) ++ span_places span
spans-more spans i span below is =
    let behind : List Place → List Place = λ rest. spans_places (take i spans) ++ rest in
    let last : Turns → List Place = λ s. behind (span_places s) in
    ap spans_places (take_more spans i span below) ∙ (flat_map-append span_places (take i spans) (get_or spans i span ∷ []) ∙ (ap behind (append-nil (span_places (get_or spans i span))) ∙ ap last (sym is)))

-- the places of a span behind those before it
pub reads-more : (packet : List ℕ) (spans : List Turns) (i : ℕ) (span : Turns) (ended : Option Ended) (old middle new : Values) → i < length spans → span ≡ get_or spans i span → Reads packet (spans_places (take i spans)) None old middle → Reads packet (span_places span) ended middle new → Reads packet (spans_places (take (i + 1) spans)) ended old new
reads-more packet spans i span ended old middle new below is before here =
    let read : List Place → Type 0 = λ places. Reads packet places ended old new in
    subst read (sym (spans-more spans i span below is)) (reads-append packet (spans_places (take i spans)) (span_places span) ended old middle new before here)

-- an end within spans is that of all
pub reads-all : (packet : List ℕ) (spans : List Turns) (i : ℕ) (ended : Ended) (old new : Values) → Reads packet (spans_places (take i spans)) (Some ended) old new → Reads packet (spans_places spans) (Some ended) old new
reads-all packet spans i ended old new reads =
    let read : List Place → Type 0 = λ places. Reads packet places (Some ended) old new in
    subst read (sym (flat_map-append span_places (take i spans) (drop i spans)) ∙ ap spans_places (take-append-drop i spans)) (reads-ended packet (spans_places (take i spans)) (spans_places (drop i spans)) ended old new reads)
