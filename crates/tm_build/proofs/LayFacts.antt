-- Values that are laid place by place.
use Rattle.std.proofs.Common.{◌≡◌, ◌∙◌, ℕ, ◌+◌, ◌*◌, ◌<◌, ◌≤◌, pos, Bool, true, false, cond, List, [], ◌∷◌, ◌++◌, take, drop, length, get_or, map, Option, Some, None, Ok, Err, refl, sym, ap, subst, arith}
use Rattle.std.specs.Prelude.{◌==◌}
use Rattle.std.specs.List.{flat_map, range_with_len}
use Rattle.std.proofs.lemmas.Grind.{flat_map-append}
use Rattle.std.proofs.lemmas.List.{append_assoc, append-nil, take_more, take-append-drop}
use Rattle.std.proofs.lemmas.List.FromFn.{map-range_with_len_more, take-map-range_with_len}
use Rattle.mib_model.specs.declared.packet.Ended.TheVariants.{Whole, Many}
use Rattle.mib_model.specs.declared.packet.Value.{Value}
use Rattle.mib_model.specs.declared.rows.PlfRow.{PlfRow}
use Rattle.mib_model.specs.Encodings.{Encoding}
use Rattle.mib_model.specs.Fixed.{Place, most_values, occurrence}
use Rattle.bit_field.specs.declared.values.Values.{Values}
use Rattle.bit_field.specs.Taken.{taken}
use Rattle.struct_plan.specs.declared.numbers.WalkEnd.{WalkEnd}
use Rattle.struct_plan.specs.declared.numbers.WalkEnd.TheVariants.{Ended}
use Rattle.struct_plan.specs.Sources.{Source, Walked}
use Rattle.build_rules.specs.Laying.{field_there, values_from}
use Rattle.tm_build.specs.Lays.{Lays, all_from, behind_all}

-- ---- one place

-- there is no room
pub lays-many : (source : Source) (xs : List Value) (given : ℕ) (place : Place) (rest : List Place) → given ≡ most_values → behind_all xs (values_from source given (place ∷ rest)) ≡ (xs, Ended Many)
unfolding values_from
lays-many source xs given place rest full = rw full (ap (λ (zs : List Value). (zs, Ended Many)) (append-nil xs))

-- the source has no value
pub lays-none : (source : Source) (xs : List Value) (given : ℕ) (place : Place) (rest : List Place) (why : WalkEnd) → (given == most_values) ≡ false → source (pos place.at) (field_there place) given ≡ Err why
    → behind_all xs (values_from source given (place ∷ rest)) ≡ (xs, why)
unfolding values_from
lays-none source xs given place rest why room none = rw (room, none) (ap (λ (zs : List Value). (zs, why)) (append-nil xs))

-- the source has one
pub lays-value : (source : Source) (xs : List Value) (given : ℕ) (place : Place) (rest : List Place) (v : Value) → (given == most_values) ≡ false → source (pos place.at) (field_there place) given ≡ Ok v
    → behind_all xs (values_from source given (place ∷ rest)) ≡ behind_all (xs ++ v ∷ []) (values_from source (given + 1) rest)
unfolding values_from
lays-value source xs given place rest v room some =
    rw (room, some) (ap (λ (zs : List Value). (zs, (values_from source (given + 1) rest).1)) (sym (append_assoc xs (v ∷ []) (values_from source (given + 1) rest).0)))

-- ---- places behind places

pub lays-nothing : (source : Source) (values : Values) → Lays source [] None values values
lays-nothing source values rest = refl

pub lays-append : (source : Source) (before after : List Place) (end : Option WalkEnd) (old middle new : Values) → Lays source before None old middle → Lays source after end middle new → Lays source (before ++ after) end old new
lays-append source before after end old middle new first second rest =
    ap (λ (all : List Place). all_from source None (taken old) old.used all) (append_assoc before after rest) ∙ (first (after ++ rest) ∙ second rest)

pub lays-ended : (source : Source) (places more : List Place) (why : WalkEnd) (old new : Values) → Lays source places (Some why) old new → Lays source (places ++ more) (Some why) old new
lays-ended source places more why old new lays rest =
    ap (λ (all : List Place). all_from source None (taken old) old.used all) (append_assoc places more rest) ∙ lays (more ++ rest)

-- ---- all places

-- what was laid where nothing stood before
pub lays-all : (source : Source) (places : List Place) (old new : Values) → taken old ≡ [] → old.used ≡ 0 → Lays source places None old new → (taken new, Ended Whole) ≡ values_from source 0 places
unfolding values_from
lays-all source places old new none zero lays =
    sym (ap (λ (all : List Place). values_from source 0 all) (sym (append-nil places))
    ∙ (ap (λ (xs : List Value). all_from source None xs 0 (places ++ [])) (sym none)
    ∙ (ap (λ (n : ℕ). all_from source None (taken old) n (places ++ [])) (sym zero)
    ∙ (lays [] ∙ ap (λ (xs : List Value). (xs, Ended Whole)) (append-nil (taken new))))))

pub lays-stopped : (source : Source) (places : List Place) (why : WalkEnd) (old new : Values) → taken old ≡ [] → old.used ≡ 0 → Lays source places (Some why) old new → (taken new, why) ≡ values_from source 0 places
lays-stopped source places why old new none zero lays =
    sym (ap (λ (all : List Place). values_from source 0 all) (sym (append-nil places))
    ∙ (ap (λ (xs : List Value). all_from source None xs 0 (places ++ [])) (sym none)
    ∙ (ap (λ (n : ℕ). all_from source None (taken old) n (places ++ [])) (sym zero)
    ∙ lays [])))

-- ---- the occurrences of a row

-- one occurrence more
pub lays-next : (source : Source) (row : PlfRow) (shape : Encoding) (k : ℕ) (end : Option WalkEnd) (old middle new : Values) → Lays source (map (occurrence row shape) (range_with_len 0 k)) None old middle
    → Lays source (occurrence row shape k ∷ []) end middle new → Lays source (map (occurrence row shape) (range_with_len 0 (k + 1))) end old new
lays-next source row shape k end old middle new before here =
    subst (λ (places : List Place). Lays source places end old new) (sym (map-range_with_len_more (occurrence row shape) 0 k k (omega arith)))
    (lays-append source (map (occurrence row shape) (range_with_len 0 k)) (occurrence row shape k ∷ []) end old middle new before here)

-- an end among the first occurrences is that of all
pub lays-row : (source : Source) (row : PlfRow) (shape : Encoding) (k n : ℕ) (why : WalkEnd) (old new : Values) → k ≤ n → Lays source (map (occurrence row shape) (range_with_len 0 k)) (Some why) old new
    → Lays source (map (occurrence row shape) (range_with_len 0 n)) (Some why) old new
lays-row source row shape k n why old new few lays =
    let all : List Place = map (occurrence row shape) (range_with_len 0 n) in
    let front : map (occurrence row shape) (range_with_len 0 k) ≡ take k all = sym (take-map-range_with_len (occurrence row shape) 0 n k few) in
    subst (λ (places : List Place). Lays source places (Some why) old new) (ap (λ (places : List Place). places ++ drop k all) front ∙ take-append-drop k all)
    (lays-ended source (map (occurrence row shape) (range_with_len 0 k)) (drop k all) why old new lays)

-- behind a value that was pushed
pub pushed : (source : Source) (room : Bool) (old new : List Value) (v : Value) (given used : ℕ) (rest : List Place) → room ≡ true → new ≡ cond room (old ++ v ∷ []) old → used ≡ cond room (given + 1) given
    → behind_all (old ++ v ∷ []) (values_from source (given + 1) rest) ≡ behind_all new (values_from source used rest)
pushed source room old new v given used rest is taken moved = rw (taken, moved, is) refl

-- ---- rows

-- the places of one row more
pub rows-more : (f : PlfRow → List Place) (rows : List PlfRow) (i : ℕ) (row : PlfRow) → i < length rows → row ≡ get_or rows i row → flat_map f (take (i + 1) rows) ≡ flat_map f (take i rows) ++ f row
rows-more f rows i row below is =
    ap (flat_map f) (take_more rows i row below)
    ∙ (flat_map-append f (take i rows) (get_or rows i row ∷ [])
    ∙ (ap (λ (places : List Place). flat_map f (take i rows) ++ places) (append-nil (f (get_or rows i row)))
    ∙ ap (λ (r : PlfRow). flat_map f (take i rows) ++ f r) (sym is)))

-- an end among the first rows is that of all
pub rows-ended : (source : Source) (f : PlfRow → List Place) (rows : List PlfRow) (k : ℕ) (why : WalkEnd) (old new : Values) → Lays source (flat_map f (take k rows)) (Some why) old new → Lays source (flat_map f rows) (Some why) old new
rows-ended source f rows k why old new lays =
    subst (λ (places : List Place). Lays source places (Some why) old new) (sym (flat_map-append f (take k rows) (drop k rows)) ∙ ap (flat_map f) (take-append-drop k rows))
    (lays-ended source (flat_map f (take k rows)) (flat_map f (drop k rows)) why old new lays)
