-- What is read at one place, and at places one after the other.
use Rattle.std.proofs.Common.{◌≡◌, ℕ, zero, suc, ◌+◌, ◌<◌, ◌≤◌, subst, take, drop, get_or, map, Bool, true, false, cond, List, [], ◌∷◌, ◌++◌, Option, Some, None, ◌==◌, length, refl, sym, ap, ◌∙◌, arith}
use Rattle.std.proofs.lemmas.Bool.{eq-eqb, ne_eqb}
use Rattle.std.proofs.lemmas.Grind.{flat_map-append}
use Rattle.std.proofs.lemmas.List.{append-nil, append_assoc, length-append, take_all, take_more, take-append-drop}
use Rattle.std.proofs.lemmas.List.FromFn.{get_or-map-range_with_len, length-map-range_with_len}
use Rattle.std.proofs.lemmas.List.Sums.{take_while-cons}
use Rattle.std.specs.List.{take_while}
use Rattle.mib_model.specs.declared.packet.Ended.{Ended}
use Rattle.mib_model.specs.declared.packet.Ended.TheVariants.{Whole, Short, Many}
use Rattle.mib_model.specs.declared.packet.Value.{Value}
use Rattle.mib_model.specs.declared.rows.PcfRow.{PcfRow}
use Rattle.mib_model.specs.declared.rows.PlfRow.{PlfRow}
use Rattle.mib_model.specs.Encodings.{Encoding}
use Rattle.mib_model.specs.Fixed.{Place, most_values, ended_before, holds_place, occurrence, occurrences, places_inside, value_at, values_at}
use Rattle.mib_model.specs.Parameters.{measured_encoding, parameter}
use Rattle.row_interpreter.specs.Readings.{Read, Reads, all_read, behind, places_of, read_from}

behind-behind : (xs ys : List Value) (read : Read) → behind xs (behind ys read) ≡ behind (xs ++ ys) read
behind-behind xs ys read = ap (λ (zs : List Value). (zs, read.1)) (sym (append_assoc xs ys read.0))

-- there is no room
pub reads-many : (packet : List ℕ) (place : Place) (values : List Value) → (length values == most_values) ≡ true → Reads packet (place ∷ []) (Some Many) values values
unfolding read_from
reads-many packet place values full rest = rw full (ap (λ (zs : List Value). (zs, Many)) (append-nil values))

-- its bits aren't in the packet
pub reads-short : (packet : List ℕ) (place : Place) (values : List Value) → (length values == most_values) ≡ false → holds_place packet place ≡ false
    → Reads packet (place ∷ []) (Some (Short place.name)) values values
unfolding read_from
reads-short packet place values room out rest = rw (room, out) (ap (λ (zs : List Value). (zs, Short place.name)) (append-nil values))

one-longer : (values : List Value) (v : Value) → length values + 1 ≡ length (values ++ v ∷ [])
one-longer values v = let long = length-append values (v ∷ []) in omega (arith, long)

-- its value is read
pub reads-value : (packet : List ℕ) (place : Place) (values : List Value) → (length values == most_values) ≡ false → holds_place packet place ≡ true
    → Reads packet (place ∷ []) None values (values ++ value_at packet place ∷ [])
unfolding read_from
reads-value packet place values room inside rest =
    rw (room, inside) (behind-behind values (value_at packet place ∷ []) (read_from packet (length values + 1) rest)
    ∙ ap (λ (n : ℕ). behind (values ++ value_at packet place ∷ []) (read_from packet n rest)) (one-longer values (value_at packet place)))

-- no places
pub reads-none : (packet : List ℕ) (values : List Value) → Reads packet [] None values values
reads-none packet values rest = refl

-- more places behind those that were read to their end
pub reads-more : (packet : List ℕ) (places more : List Place) (ended : Option Ended) (old between new : List Value)
    → Reads packet places None old between → Reads packet more ended between new → Reads packet (places ++ more) ended old new
reads-more packet places more ended old between new first then rest =
    ap (λ (all : List Place). all_read packet None old all) (append_assoc places more rest) ∙ (first (more ++ rest) ∙ then rest)

-- more places behind those at which the values ended
pub reads-ended : (packet : List ℕ) (places more : List Place) (ended : Ended) (old new : List Value)
    → Reads packet places (Some ended) old new → Reads packet (places ++ more) (Some ended) old new
reads-ended packet places more ended old new first rest =
    ap (λ (all : List Place). all_read packet None old all) (append_assoc places more rest) ∙ first (more ++ rest)

-- ---- what is taken at a place
pub taken-not : {A : Type 0} (holds : Bool) (x : A) (found : Option A) → found ≡ cond holds (Some x) None → found ≡ None → holds ≡ false
taken-not true x found is none = absurd (cc (sym is ∙ none))
taken-not false x found is none = refl

pub taken-so : {A : Type 0} (holds : Bool) (x y : A) → Some y ≡ cond holds (Some x) None → (holds ≡ true) × (y ≡ x)
taken-so true x y is = (refl, cc)
taken-so false x y is = absurd (cc is)

-- ---- places of a row

-- one place more of a list
pub reads-next : (packet : List ℕ) (all : List Place) (k : ℕ) (place : Place) (ended : Option Ended) (old between new : List Value) → k < length all → place ≡ get_or all k place
    → Reads packet (take k all) None old between → Reads packet (place ∷ []) ended between new → Reads packet (take (k + 1) all) ended old new
reads-next packet all k place ended old between new within is first then =
    let more : take (k + 1) all ≡ take k all ++ place ∷ [] = take_more all k place within ∙ ap (λ (p : Place). take k all ++ p ∷ []) (sym is) in
    subst (λ (places : List Place). Reads packet places ended old new) (sym more) (reads-more packet (take k all) (place ∷ []) ended old between new first then)

-- an end before the last
pub reads-early : (packet : List ℕ) (all : List Place) (k : ℕ) (ended : Ended) (old new : List Value) → Reads packet (take k all) (Some ended) old new → Reads packet all (Some ended) old new
reads-early packet all k ended old new first =
    subst (λ (places : List Place). Reads packet places (Some ended) old new) (take-append-drop k all) (reads-ended packet (take k all) (drop k all) ended old new first)

-- the last
pub reads-last : (packet : List ℕ) (all : List Place) (k : ℕ) (ended : Option Ended) (old new : List Value) → length all ≤ k → Reads packet (take k all) ended old new → Reads packet all ended old new
reads-last packet all k ended old new past first = subst (λ (places : List Place). Reads packet places ended old new) (take_all k all past) first

-- how many occurrences a row has, and the k-th
pub occurrences-long : (row : PlfRow) (shape : Encoding) → length (occurrences row (Some shape)) ≡ row.nbocc
occurrences-long row shape = length-map-range_with_len (occurrence row shape) 0 row.nbocc

pub occurrences-at : (row : PlfRow) (shape : Encoding) (k : ℕ) (d : Place) → k < row.nbocc → get_or (occurrences row (Some shape)) k d ≡ occurrence row shape k
occurrences-at row shape k d within = get_or-map-range_with_len (occurrence row shape) 0 row.nbocc k k d within (omega arith)

-- ---- the places of rows

-- one row more
pub reads-row : (packet : List ℕ) (pcfs : List PcfRow) (rows : List PlfRow) (i : ℕ) (row : PlfRow) (ended : Option Ended) (old between new : List Value) → i < length rows → row ≡ get_or rows i row
    → Reads packet (places_of pcfs (take i rows)) None old between → Reads packet (places_of pcfs (row ∷ [])) ended between new → Reads packet (places_of pcfs (take (i + 1) rows)) ended old new
reads-row packet pcfs rows i row ended old between new within is first then =
    let more : places_of pcfs (take (i + 1) rows) ≡ places_of pcfs (take i rows) ++ places_of pcfs (row ∷ []) =
    ap (places_of pcfs) (take_more rows i row within ∙ ap (λ (r : PlfRow). take i rows ++ r ∷ []) (sym is))
    ∙ flat_map-append (λ row. occurrences row (measured_encoding (parameter pcfs row.name))) (take i rows) (row ∷ []) in
    subst (λ (places : List Place). Reads packet places ended old new) (sym more)
    (reads-more packet (places_of pcfs (take i rows)) (places_of pcfs (row ∷ [])) ended old between new first then)

-- an end before the last row
pub reads-row-early : (packet : List ℕ) (pcfs : List PcfRow) (rows : List PlfRow) (i : ℕ) (ended : Ended) (old new : List Value)
    → Reads packet (places_of pcfs (take i rows)) (Some ended) old new → Reads packet (places_of pcfs rows) (Some ended) old new
reads-row-early packet pcfs rows i ended old new first =
    let split : places_of pcfs (take i rows) ++ places_of pcfs (drop i rows) ≡ places_of pcfs rows =
    sym (flat_map-append (λ row. occurrences row (measured_encoding (parameter pcfs row.name))) (take i rows) (drop i rows)) ∙ ap (places_of pcfs) (take-append-drop i rows) in
    subst (λ (places : List Place). Reads packet places (Some ended) old new) split
    (reads-ended packet (places_of pcfs (take i rows)) (places_of pcfs (drop i rows)) ended old new first)

-- ---- all places

-- what is read behind so many values, where there is room for so many more
read-all : (packet : List ℕ) (all : List Place) (room given : ℕ) → given + room ≡ most_values
    → (map (value_at packet) (take_while (holds_place packet) (take room all)), ended_before (given + length (take_while (holds_place packet) (take room all))) (drop (length (take_while (holds_place packet) (take room all))) all))
    ≡ read_from packet given all
unfolding read_from
read-all packet [] zero given is = refl
read-all packet [] (suc room) given is = refl
read-all packet (place ∷ all) zero given is =
    let full : (given == most_values) ≡ true = eq-eqb given most_values (omega (arith, is)) in
    let none : given + 0 ≡ given = omega arith in
    rw (none, full) refl
read-all packet (place ∷ all) (suc room) given is =
    let some : (given == most_values) ≡ false = ne_eqb given most_values (λ e. omega (arith, is, e)) in
    let less : given + 1 + room ≡ most_values = omega (arith, is) in
    ap (λ (front : List Place). (map (value_at packet) front, ended_before (given + length front) (drop (length front) (place ∷ all)))) (take_while-cons (holds_place packet) place (take room all))
    ∙ rw some (by (holds_place packet place) (read-all packet all room (given + 1) less)) where
      by : (here : Bool)
          → (map (value_at packet) (take_while (holds_place packet) (take room all)), ended_before (given + 1 + length (take_while (holds_place packet) (take room all))) (drop (length (take_while (holds_place packet) (take room all))) all)) ≡ read_from packet (given + 1) all
          → (map (value_at packet) (cond here (place ∷ take_while (holds_place packet) (take room all)) []), ended_before (given + length (cond here (place ∷ take_while (holds_place packet) (take room all)) [])) (drop (length (cond here (place ∷ take_while (holds_place packet) (take room all)) [])) (place ∷ all)))
          ≡ cond here (behind (value_at packet place ∷ []) (read_from packet (given + 1) all)) ([], Short place.name)
      by true more =
          let one : given + suc (length (take_while (holds_place packet) (take room all))) ≡ given + 1 + length (take_while (holds_place packet) (take room all)) = omega arith in
          rw one (ap (behind (value_at packet place ∷ [])) more)
      by false more =
          let none : given + 0 ≡ given = omega arith in
          rw (none, ne_eqb given most_values (λ e. omega (arith, is, e))) refl

pub read-is : (packet : List ℕ) (all : List Place) → values_at packet all ≡ read_from packet 0 all
unfolding values_at places_inside
read-is packet all =
    let none : length (take_while (holds_place packet) (take most_values all)) ≡ 0 + length (take_while (holds_place packet) (take most_values all)) = omega arith in
    ap (λ (n : ℕ). (map (value_at packet) (take_while (holds_place packet) (take most_values all)), ended_before n (drop (length (take_while (holds_place packet) (take most_values all))) all))) none
    ∙ read-all packet all most_values 0 refl

-- an end before the last place, and none
pub read-ended : (packet : List ℕ) (all : List Place) (ended : Ended) (old new : List Value) → old ≡ [] → Reads packet all (Some ended) old new → (new, ended) ≡ values_at packet all
read-ended packet all ended old new none reads =
    sym (reads []) ∙ (ap (λ (places : List Place). behind old (read_from packet (length old) places)) (append-nil all)
    ∙ (ap (λ (values : List Value). behind values (read_from packet (length values) all)) none ∙ sym (read-is packet all)))

pub read-whole : (packet : List ℕ) (all : List Place) (old new : List Value) → old ≡ [] → Reads packet all None old new → (new, Whole) ≡ values_at packet all
unfolding read_from
read-whole packet all old new none reads =
    ap (λ (values : List Value). (values, Whole)) (sym (append-nil new)) ∙ (sym (reads []) ∙ (ap (λ (places : List Place). behind old (read_from packet (length old) places)) (append-nil all)
    ∙ (ap (λ (values : List Value). behind values (read_from packet (length values) all)) none ∙ sym (read-is packet all))))
