-- The values at places are those that are read place by place.
use Rattle.std.proofs.Common.{◌≡◌, ℕ, zero, suc, ◌+◌, Bool, true, false, cond, Some, None, List, [], ◌∷◌, ◌++◌, map, length, take, drop, ◌==◌, refl, sym, ap, ◌∙◌, arith}
use Rattle.std.proofs.lemmas.Bool.{ne_eqb, eq-eqb}
use Rattle.std.specs.List.{take_while}
use Rattle.std.proofs.lemmas.List.Sums.{take_while-cons}
use Rattle.std.proofs.lemmas.List.{append-nil}
use Rattle.mib_model.specs.declared.packet.Ended.{Ended}
use Rattle.mib_model.specs.declared.packet.Ended.TheVariants.{Short, Whole}
use Rattle.mib_model.specs.declared.packet.Value.{Value}
use Rattle.mib_model.specs.Fixed.{Place, most_values, holds_place, value_at, values_at, places_inside, ended_before}
use Rattle.bit_field.specs.declared.values.Values.{Values}
use Rattle.bit_field.specs.Taken.{taken}
use Rattle.layout_plan.specs.Readings.{Read, Reads, behind, read_from, whole_read}

-- the places that are read of these, where so many values may still stand
abbrev inside : List ℕ → ℕ → List Place → List Place
inside packet room all = take_while (holds_place packet) (take room all)

-- the values at them, and how they end behind those given
abbrev rest_at : List ℕ → ℕ → List Place → List Place → Read
rest_at packet given all front = (map (value_at packet) front, ended_before (given + length front) (drop (length front) all))

-- one value in front
next-value : (packet : List ℕ) (given : ℕ) (place : Place) (all front : List Place) → rest_at packet given (place ∷ all) (place ∷ front) ≡ behind (value_at packet place ∷ []) (rest_at packet (given + 1) all front)
next-value packet given place all front =
    let count : given + suc (length front) ≡ given + 1 + length front = omega arith in
    ap (λ (n : ℕ). (value_at packet place ∷ map (value_at packet) front, ended_before n (drop (length front) all))) count

-- at a place whose bits are in the packet, or aren't
choose : (packet : List ℕ) (place : Place) (all : List Place) (room given : ℕ) → (given == most_values) ≡ false → (here : Bool) → rest_at packet (given + 1) all (inside packet room all) ≡ read_from packet (given + 1) all → rest_at packet given (place ∷ all) (cond here (place ∷ inside packet room all) []) ≡ cond here (behind (value_at packet place ∷ []) (read_from packet (given + 1) all)) ([], Short place.name)
choose packet place all room given some true more = next-value packet given place all (inside packet room all) ∙ ap (behind (value_at packet place ∷ [])) more
choose packet place all room given some false more =
    let none : given + 0 ≡ given = omega arith in
    rw (none, some) refl

-- so many values may still stand
read-all : (packet : List ℕ) (all : List Place) (room given : ℕ) → given + room ≡ most_values → rest_at packet given all (inside packet room all) ≡ read_from packet given all
unfolding read_from
read-all packet [] zero given is = refl
read-all packet [] (suc room) given is = refl
read-all packet (place ∷ all) zero given is =
    let full : (given == most_values) ≡ true = eq-eqb given most_values (omega (arith, is)) in
    let none : given + 0 ≡ given = omega arith in
    rw (none, full) refl
read-all packet (place ∷ all) (suc room) given is =
    let some : (given == most_values) ≡ false = ne_eqb given most_values (λ e. omega (arith, is, e)) in
    let less : given + 1 + room ≡ most_values = omega (arith, is) in
    let values : List Place → Read = λ front. rest_at packet given (place ∷ all) front in
    ap values (take_while-cons (holds_place packet) place (take room all)) ∙ rw some (choose packet place all room given some (holds_place packet place) (read-all packet all room (given + 1) less))

-- none stand in front
from-none : (packet : List ℕ) (all front : List Place) → (map (value_at packet) front, ended_before (length front) (drop (length front) all)) ≡ rest_at packet 0 all front
from-none packet all front =
    let none : length front ≡ 0 + length front = omega arith in
    let read : ℕ → Read = λ n. (map (value_at packet) front, ended_before n (drop (length front) all)) in
    ap read none

-- all of them
pub values_at-read : (packet : List ℕ) (all : List Place) → values_at packet all ≡ read_from packet 0 all
unfolding values_at places_inside
values_at-read packet all = from-none packet all (places_inside packet all) ∙ read-all packet all most_values 0 refl

-- all that is read where no value stood before
from-start : (packet : List ℕ) (all : List Place) (old : Values) → old.used ≡ 0 → whole_read packet None (taken old) old.used (all ++ []) ≡ values_at packet all
from-start packet all old none =
    let read : ℕ → Read = λ n. behind (take n old.slots.now) (read_from packet n (all ++ [])) in
    ap read none ∙ (ap (read_from packet 0) (append-nil all) ∙ sym (values_at-read packet all))

-- an end before the last place
pub reads-to-end : (packet : List ℕ) (all : List Place) (ended : Ended) (old new : Values) → old.used ≡ 0 → Reads packet all (Some ended) old new → (taken new, ended) ≡ values_at packet all
reads-to-end packet all ended old new none reads = sym (reads []) ∙ from-start packet all old none

-- no end before the last place
pub reads-whole : (packet : List ℕ) (all : List Place) (old new : Values) → old.used ≡ 0 → Reads packet all None old new → (taken new, Whole) ≡ values_at packet all
unfolding read_from
reads-whole packet all old new none reads =
    let whole : List Value → Read = λ values. (values, Whole) in
    sym (ap whole (append-nil (taken new))) ∙ (sym (reads []) ∙ from-start packet all old none)
