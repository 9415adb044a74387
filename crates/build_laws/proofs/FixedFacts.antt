-- Items at the places of a fixed layout are the values there of each packet in which they are read.
use Rattle.std.proofs.Common.{◌≡◌, ◌∙◌, ℕ, zero, suc, ◌+◌, ◌-◌, ◌*◌, ◌<◌, ◌≤◌, ◌^◌, pos, nat_eq, nat_lt, Bool, true, false, cond, List, [], ◌∷◌, ◌++◌, length, map, take, drop, Some, None, Option, Result, Ok, Err, refl, sym, ap, subst, arith}
use Rattle.std.specs.Prelude.{◌==◌, ◌≢◌}
use Rattle.std.specs.List.{AllByRecursion, filter, flat_map, range_with_len, take_while}
use Rattle.std.proofs.lemmas.Bool.{eq-eqb, le-leb, ltb-false}
use Rattle.std.proofs.lemmas.List.Sums.{take_while-cons}
use Rattle.mib_model.specs.declared.database.Database.{Database}
use Rattle.mib_model.specs.declared.packet.Ended.TheVariants as ended
use Rattle.mib_model.specs.declared.packet.Value.{Value}
use Rattle.mib_model.specs.declared.rows.PlfRow.{PlfRow}
use Rattle.mib_model.specs.Encodings.{Encoding, IsEncoding}
use Rattle.mib_model.specs.Fixed.{Place, ended_before, holds_place, most_values, occurrence, occurrences, places, places_inside, value_at, values_at}
use Rattle.mib_model.specs.Parameters.{measured_encoding, parameter}
use Rattle.struct_plan.specs.declared.numbers.WalkEnd.{WalkEnd}
use Rattle.struct_plan.specs.declared.numbers.WalkEnd.TheVariants as end
use Rattle.struct_plan.specs.Sources.{Walked, of_packet}
use Rattle.build_rules.specs.declared.item.Item.{Item}
use Rattle.build_rules.specs.Laying.{behind_value, field_there, of_items, values_from}
use Rattle.build_laws.specs.Laws.{item_of}
use Rattle.build_laws.proofs.GoodFacts.{AreItems, IsLaid, drop-one, measured-has}
use Rattle.build_laws.proofs.LaidFacts.{IsRead, item-given, item-read, not-whole}

-- ---- shapes of places

abbrev Has : Place → Type 0
Has place = IsEncoding place.shape

all-append : (xs ys : List Place) → AllByRecursion Has xs → AllByRecursion Has ys → AllByRecursion Has (xs ++ ys)
all-append [] ys a b = b
all-append (x ∷ xs) ys a b = (a.0, all-append xs ys a.1 b)

all-times : (row : PlfRow) (e : Encoding) → IsEncoding e → (ks : List ℕ) → AllByRecursion Has (map (occurrence row e) ks)
all-times row e has [] = tt
all-times row e has (k ∷ ks) = (has, all-times row e has ks)

occurrences-have : (row : PlfRow) (o : Option Encoding) → ((e : Encoding) → o ≡ Some e → IsEncoding e) → AllByRecursion Has (occurrences row o)
occurrences-have row None each = tt
occurrences-have row (Some e) each = all-times row e (each e refl) (range_with_len 0 row.nbocc)

module _ (db : Database) where
  abbrev of : PlfRow → List Place
  of row = occurrences row (measured_encoding (parameter db.pcf row.name))

  rows-have : (rows : List PlfRow) → AllByRecursion Has (flat_map of rows)
  rows-have [] = tt
  rows-have (r ∷ rs) = all-append (of r) (flat_map of rs) (occurrences-have r (measured_encoding (parameter db.pcf r.name)) (λ e is. measured-has (parameter db.pcf r.name) e is)) (rows-have rs)

  pub places-have : (spid : ℕ) → AllByRecursion Has (places db spid)
  unfolding places
  places-have spid = rows-have (filter (λ row. row.spid == spid) db.plf)

-- ---- values at places

module _ (items : List Item) (packet : List ℕ) (short : length packet < 2 ^ 61) where
  -- values at places behind so many others: they are items, and read there
  record Laid (given : ℕ) (at : List Place) (values : List Value) : Type 0 where
    named : map item_of values ≡ take (length values) (drop given items)
    laid : AllByRecursion IsLaid values
    same : AllByRecursion (IsRead packet) values → values_from (of_packet packet) given at ≡ (values, end.Ended ended.Whole)

  first-of : (vs ws : List Value) (x y : WalkEnd) → ◌≡◌ {A = Walked} (vs, x) (ws, y) → (vs ≡ ws) × (x ≡ y)
  first-of vs ws x y is = (ap (λ (p : Walked). p.0) is, ap (λ (p : Walked). p.1) is)

  -- the values behind a first one, and behind that
  Rest : ℕ → List Place → Type 0
  Rest given at = (values : List Value) → values_from (of_items items) given at ≡ (values, end.Ended ended.Whole) → Laid given at values

  laid-value : (given : ℕ) (place : Place) (at : List Place) (values : List Value) → Has place → Rest (given + 1) at → (r : Result Value WalkEnd)
      → of_items items (pos place.at) (field_there place) given ≡ r → nat_eq given most_values ≡ false
      → behind_value r (values_from (of_items items) (given + 1) at) ≡ (values, end.Ended ended.Whole) → Laid given (place ∷ at) values
  unfolding values_from Rest
  laid-value given place at values has below (Err why) gave room e =
      absurd (not-whole items (pos place.at) (field_there place) given why gave (first-of [] values why (end.Ended ended.Whole) e).1)
  laid-value given place at values has below (Ok v) gave room e =
      let more = values_from (of_items items) (given + 1) at in
      let parts = first-of (v ∷ more.0) values more.1 (end.Ended ended.Whole) e in
      let whole : more ≡ (more.0, end.Ended ended.Whole) = ap (λ (x : WalkEnd). (more.0, x)) parts.1 in
      let rest = below more.0 whole in
      let g = item-given items (pos place.at) (field_there place) given v gave in
      subst (Laid given (place ∷ at)) parts.0 (record {
        named =
            let next : drop given items ≡ item_of v ∷ drop (suc given) items = drop-one items given (item_of v) g.is_item.item in
            let place_is : given + 1 ≡ suc given = omega arith in
            ap (λ (is : List Item). item_of v ∷ is) (rest.named ∙ ap (λ (n : ℕ). take (length more.0) (drop n items)) place_is)
            ∙ ap (λ (is : List Item). take (length (v ∷ more.0)) is) (sym next);
        laid = (record { has = subst IsEncoding g.is_item.shape has; fit = g.is_item.fit }, rest.laid);
        same = λ all.
            let reads = item-read packet short items (pos place.at) (field_there place) given v gave all.0 in
            rw (room, reads, rest.same all.1) refl;
      })

  laid-room : (given : ℕ) (place : Place) (at : List Place) (values : List Value) → Has place → Rest (given + 1) at → (b : Bool) → nat_eq given most_values ≡ b
      → cond b ([], end.Ended ended.Many) (behind_value (of_items items (pos place.at) (field_there place) given) (values_from (of_items items) (given + 1) at)) ≡ (values, end.Ended ended.Whole)
      → Laid given (place ∷ at) values
  laid-room given place at values has below true full e =
      let many : end.Ended ended.Many ≡ end.Ended ended.Whole = (first-of [] values (end.Ended ended.Many) (end.Ended ended.Whole) e).1 in absurd (cc many)
  laid-room given place at values has below false room e = laid-value given place at values has below (of_items items (pos place.at) (field_there place) given) refl room e

  laid-at : (given : ℕ) (at : List Place) → AllByRecursion Has at → Rest given at
  unfolding values_from Rest
  laid-at given [] has values is =
      let none : [] ≡ values = (first-of [] values (end.Ended ended.Whole) (end.Ended ended.Whole) is).0 in
      subst (Laid given []) none (record { named = refl; laid = tt; same = λ all. refl })
  laid-at given (place ∷ at) has values is = laid-room given place at values has.0 (laid-at (given + 1) at has.1) (nat_eq given most_values) refl is

  pub fixed-agrees : (at : List Place) (values : List Value) → AllByRecursion Has at → values_from (of_items items) 0 at ≡ (values, end.Ended ended.Whole)
      → AreItems items values × (AllByRecursion (IsRead packet) values → values_from (of_packet packet) 0 at ≡ (values, end.Ended ended.Whole))
  unfolding Rest
  fixed-agrees at values has is = let l = laid-at 0 at has values is in (record { named = l.named; laid = l.laid }, l.same)

-- ---- the values of a packet

module _ (packet : List ℕ) where
  -- places that are all in the packet
  record Whole (given : ℕ) (at : List Place) (values : List Value) : Type 0 where
    all : take_while (holds_place packet) (take (most_values - given) at) ≡ at
    are : map (value_at packet) at ≡ values

  no-place : (n : ℕ) → take_while (holds_place packet) (take n []) ≡ []
  no-place zero = refl
  no-place (suc n) = refl

  not-most : (n : ℕ) → nat_eq n most_values ≡ false → n ≢ most_values
  not-most n other is = absurd (cc (sym (eq-eqb n most_values is) ∙ other))

  one-held : (place : Place) (ps : List Place) → holds_place packet place ≡ true → take_while (holds_place packet) (place ∷ ps) ≡ place ∷ take_while (holds_place packet) ps
  one-held place ps held =
      take_while-cons (holds_place packet) place ps ∙ ap (λ (b : Bool). cond b (place ∷ take_while (holds_place packet) ps) []) held

  -- places behind a first one
  Rest-whole : ℕ → List Place → Type 0
  Rest-whole given at = (values : List Value) → given ≤ most_values → values_from (of_packet packet) given at ≡ (values, end.Ended ended.Whole) → Whole given at values

  whole-inside : (given : ℕ) (place : Place) (at : List Place) (values : List Value) → given ≤ most_values → Rest-whole (given + 1) at → (b : Bool)
      → nat_lt (8 * length packet) (place.at + place.shape.width) ≡ b → nat_eq given most_values ≡ false
      → behind_value (cond b (Err (end.Ended (ended.Short place.name))) (Ok (value_at packet place))) (values_from (of_packet packet) (given + 1) at) ≡ (values, end.Ended ended.Whole)
      → Whole given (place ∷ at) values
  unfolding Rest-whole
  whole-inside given place at values few below true out room e =
      let short : end.Ended (ended.Short place.name) ≡ end.Ended ended.Whole = ap (λ (p : Walked). p.1) e in absurd (cc short)
  whole-inside given place at values few below false inside room e =
      let more = values_from (of_packet packet) (given + 1) at in
      let whole : more ≡ (more.0, end.Ended ended.Whole) = ap (λ (x : WalkEnd). (more.0, x)) (ap (λ (p : Walked). p.1) e) in
      let less : given < most_values = omega (arith, few, not-most given room) in
      let rest = below more.0 (omega (arith, less)) whole in
      let held : holds_place packet place ≡ true = le-leb (place.at + place.shape.width) (8 * length packet) (ltb-false (8 * length packet) (place.at + place.shape.width) inside) in
      let count : most_values - given ≡ suc (most_values - (given + 1)) = omega (arith, less) in
      subst (Whole given (place ∷ at)) (ap (λ (p : Walked). p.0) e) (record {
        all =
            ap (λ (n : ℕ). take_while (holds_place packet) (take n (place ∷ at))) count
            ∙ (one-held place (take (most_values - (given + 1)) at) held ∙ ap (λ (ps : List Place). place ∷ ps) rest.all);
        are = ap (λ (vs : List Value). value_at packet place ∷ vs) rest.are;
      })

  whole-room : (given : ℕ) (place : Place) (at : List Place) (values : List Value) → given ≤ most_values → Rest-whole (given + 1) at → (b : Bool) → nat_eq given most_values ≡ b
      → cond b ([], end.Ended ended.Many) (behind_value (of_packet packet (pos place.at) (field_there place) given) (values_from (of_packet packet) (given + 1) at)) ≡ (values, end.Ended ended.Whole)
      → Whole given (place ∷ at) values
  whole-room given place at values few below true full e = let many : end.Ended ended.Many ≡ end.Ended ended.Whole = ap (λ (p : Walked). p.1) e in absurd (cc many)
  whole-room given place at values few below false room e = whole-inside given place at values few below (nat_lt (8 * length packet) (place.at + place.shape.width)) refl room e

  whole-at : (given : ℕ) (at : List Place) → Rest-whole given at
  unfolding values_from Rest-whole
  whole-at given [] values few is =
      let none : [] ≡ values = ap (λ (p : Walked). p.0) is in
      subst (Whole given []) none (record { all = no-place (most_values - given); are = refl })
  whole-at given (place ∷ at) values few is = whole-room given place at values few (whole-at (given + 1) at) (nat_eq given most_values) refl is

  all-dropped : (at : List Place) → drop (length at) at ≡ []
  all-dropped [] = refl
  all-dropped (p ∷ ps) = all-dropped ps

  pub fixed-values : (at : List Place) (values : List Value) → values_from (of_packet packet) 0 at ≡ (values, end.Ended ended.Whole) → values_at packet at ≡ (values, ended.Whole)
  unfolding values_at places_inside Rest-whole
  fixed-values at values is =
      let few : 0 ≤ most_values = omega arith in
      let w = whole-at 0 at values few is in
      rw w.all (ap (λ (vs : List Value). (vs, ended_before (length at) (drop (length at) at))) w.are
      ∙ ap (λ (ps : List Place). (values, ended_before (length at) ps)) (all-dropped at))
